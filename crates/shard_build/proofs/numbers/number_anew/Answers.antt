use Rattle.std.proofs.Common.{◌≡◌, ◌+◌, ◌-◌, sym, subst, arith}
use Rattle.std.specs.Map.{keys_of}
use Rattle.std.proofs.lemmas.List.{length-map}
use Rattle.shard_build.specs.Met.{hash_by, told_by}
use Rattle.shard_build.proofs.Numbering.{TellsBehind, has_number, tells_all, tells_none_yet, tells_one_more}
use Rattle.shard_build.proofs.numbers.number_anew.Goals as goal

pub loop-number-init : goal.loop-number-init
loop-number-init c =
    let es = c.args.lists.now.items in
    let long = length-map es (λ e. e.0) in
    record {
      within = omega (arith, long, c.len-number.ensures, c.args.lists.now.ok.0);
      tells = tells_none_yet (hash_by c.args.numbers.now.initial) (told_by c.args.numbers.now) (keys_of es) c.len-number.result (omega (arith, long, c.len-number.ensures, c.args.lists.now.ok.0)) c.requires;
    }

pub set_number-requires : goal.set_number-requires
set_number-requires c =
    let es = c.args.lists.now.items in
    let numbers = c.loop-number.numbers in
    has_number (hash_by numbers.initial) (told_by numbers) (keys_of es) c.name_at.result.now (c.loop-number.number - 1) c.name_at.ensures (omega (arith, c.loop-number-test.true, c.loop-number.invariant.within)) c.loop-number.invariant.tells.all

pub loop-number-preserved : goal.loop-number-preserved
loop-number-preserved c =
    let es = c.args.lists.now.items in
    let old = c.loop-number.numbers in
    let new = c.set_number.new.numbers in
    let follows : (c.loop-number.number - 1) + 1 ≡ c.loop-number.number = omega (arith, c.loop-number-test.true) in
    record {
      within = omega (arith, c.loop-number.invariant.within);
      tells =
          subst (λ initial. TellsBehind (hash_by initial) (c.loop-number.number - 1) (told_by new) (keys_of es)) (sym c.set_number.ensures.initial)
          (tells_one_more (hash_by old.initial) (told_by old) (told_by new) (keys_of es) c.name_at.result.now (c.loop-number.number - 1) c.loop-number.number c.name_at.ensures follows (omega (arith, c.loop-number-test.true, c.loop-number.invariant.within)) c.set_number.ensures.told c.loop-number.invariant.tells);
    }

pub returns : goal.returns
returns c =
    let numbers = c.loop-number.numbers in
    tells_all (hash_by numbers.initial) (told_by numbers) (keys_of c.args.lists.now.items) c.loop-number.number (omega (arith, c.loop-number-test.false)) c.loop-number.invariant.tells
