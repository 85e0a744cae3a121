use Rattle.std.proofs.Common.{◌++◌, sym, ap, ◌∙◌, take, arith}
use Rattle.prefix_terms.specs.Runs.{names}
use Rattle.prefix_places.specs.Runs.{run_addresses}
use Rattle.prefix_places.proofs.Rows.{name_at, run_before, run_more, run_upto}
use Rattle.prefix_places.proofs.gathering.addresses_of_run.Goals as goal

pub loop-place-init : goal.loop-place-init
loop-place-init c =
    c.new-addresses.ensures.items ∙ sym (run_before c.args.prefix.now c.args.shard.now.table c.run_of-run.result.from c.run_of-run.ensures.run.before)

pub loop-place-preserved : goal.loop-place-preserved
loop-place-preserved c =
    let table = c.args.shard.now.table in
    let prefix = c.args.prefix.now in
    let place = c.loop-place.place in
    let run = c.run_of-run.ensures.run in
    let from = c.loop-place.auto.place in
    let lt = c.loop-place-test.true in
    let within = run.within in
    let t = name_at (names table) place (omega arith) in
    c.in_ok-put_all.ensures
    ∙ ap (λ l. l ++ c.postings.result) c.loop-place.invariant
    ∙ ap (λ l. run_addresses prefix (take place table) ++ l) c.postings.ensures.value
    ∙ sym (run_more prefix table place t.0 t.1 (run.inside place t.0 t.1 from lt))

pub returns : goal.returns
returns c =
    let run = c.run_of-run.ensures.run in
    let past = c.loop-place-test.false in
    record {
      addresses = c.loop-place.invariant ∙ run_upto c.args.prefix.now c.args.shard.now.table c.loop-place.place (λ k t is le. run.behind k t is (omega arith));
      shard = c.run_of-run.ensures.shard;
    }
