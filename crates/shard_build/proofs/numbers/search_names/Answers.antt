use Rattle.std.proofs.Common.{sym, ◌∙◌, arith}
use Rattle.std.specs.Map.{keys_of}
use Rattle.std.proofs.lemmas.List.{length-map}
use Rattle.shard_build.proofs.Numbering.{search_done, search_met, search_on}
use Rattle.shard_build.proofs.numbers.search_names.Goals as goal

pub returns-then-is_name_at : goal.returns-then-is_name_at
returns-then-is_name_at c =
    let es = c.args.lists.now.items in
    let long = length-map es (λ e. e.0) in
    search_met (keys_of es) c.args.token.now c.loop-number.number (omega (arith, long, c.loop-number-test.true, c.len-number-end.ensures, c.args.lists.now.ok.0)) (sym c.is_name_at.ensures ∙ c.if-is_name_at.true)
    c.loop-number.invariant

pub loop-number-preserved : goal.loop-number-preserved
loop-number-preserved c =
    let es = c.args.lists.now.items in
    let long = length-map es (λ e. e.0) in
    search_on (keys_of es) c.args.token.now c.loop-number.number (omega (arith, long, c.loop-number-test.true, c.len-number-end.ensures, c.args.lists.now.ok.0)) (sym c.is_name_at.ensures ∙ c.if-is_name_at.false)
    c.loop-number.invariant

pub returns : goal.returns
returns c =
    let es = c.args.lists.now.items in
    let long = length-map es (λ e. e.0) in
    search_done (keys_of es) c.args.token.now c.loop-number.number (omega (arith, long, c.loop-number-test.false, c.len-number-end.ensures, c.args.lists.now.ok.0)) c.loop-number.invariant
