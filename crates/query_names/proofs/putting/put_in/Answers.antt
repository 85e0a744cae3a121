use Rattle.std.proofs.Common.{◌≡◌, ◌∙◌, ◌+◌, ◌-◌, ◌==◌, true, false, length, drop, take, get_or, refl, sym, arith, length-take, cond, not}
use Rattle.std.proofs.lemmas.Bool.{cond-true, cond-false}
use Rattle.std.proofs.lemmas.Bool.Decides.{nat_tests}
use Rattle.std.proofs.lemmas.List.{take_rest, length-drop}
use Rattle.query_names.specs.PutIn.{most_query}
use Rattle.query_names.proofs.PutLemmas.{name-preserved, byte-preserved}
use Rattle.query_names.proofs.putting.put_in.Goals as goal

pub loop-at-preserved-then-not-quoted : goal.loop-at-preserved-then-not-quoted
loop-at-preserved-then-not-quoted c =
    let query = c.args.query.now in
    let rest = take (length query - (c.loop-at.at + 1)) (drop (c.loop-at.at + 1) query) in
    let same : rest ≡ drop (c.loop-at.at + 1) query = take_rest query (c.loop-at.at + 1) in
    record {
      within = omega (arith, length-take c.name_len.result rest, length-take (length query - (c.loop-at.at + 1)) (drop (c.loop-at.at + 1) query), length-drop (c.loop-at.at + 1) query);
      few = c.in_ok-put_text.ensures.few;
      put = sym (name-preserved c.args.definitions.now c.loop-at.quoted query rest c.loop-at.out.items c.put_text.new.out.items c.in-Some.text.now c.loop-at.at c.name_len.result
          (length (take c.name_len.result rest)) most_query same c.loop-at-test.true c.if-b-eq36.true c.if-not-quoted.true c.name_len.ensures.value c.name_len.ensures.bound c.in-Some.ensures
          c.in_ok-put_text.ensures.ok c.in_ok-put_text.ensures.few refl) ∙ c.loop-at.invariant.put;
    }

pub loop-at-preserved-then-b-eq34 : goal.loop-at-preserved-then-b-eq34
loop-at-preserved-then-b-eq34 c =
    let b = get_or c.args.query.now c.loop-at.at 0 in
    let quote : (b == 34) ≡ true = grind (arith, nat_tests, c.if-b-eq34.true) in
    record {
      within = omega arith;
      few = c.in_ok-put_byte.ensures.few;
      put = sym (byte-preserved c.args.definitions.now c.loop-at.quoted (not c.loop-at.quoted) c.args.query.now c.loop-at.out.items c.put_byte.new.out.items c.loop-at.at most_query c.loop-at-test.true
          c.else-b-eq36.either (cond-true (b == 34) _ _ quote) c.in_ok-put_byte.ensures.ok c.in_ok-put_byte.ensures.few) ∙ c.loop-at.invariant.put;
    }

pub loop-at-preserved : goal.loop-at-preserved
loop-at-preserved c =
    let b = get_or c.args.query.now c.loop-at.at 0 in
    let other : (b == 34) ≡ false = grind (arith, nat_tests, c.if-b-eq34.false) in
    record {
      within = omega arith;
      few = c.in_ok-put_byte.ensures.few;
      put = sym (byte-preserved c.args.definitions.now c.loop-at.quoted c.loop-at.quoted c.args.query.now c.loop-at.out.items c.put_byte.new.out.items c.loop-at.at most_query c.loop-at-test.true
          c.else-b-eq36.either (cond-false (b == 34) _ _ other) c.in_ok-put_byte.ensures.ok c.in_ok-put_byte.ensures.few) ∙ c.loop-at.invariant.put;
    }
