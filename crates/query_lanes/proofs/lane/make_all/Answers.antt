use Rattle.std.proofs.Common.{◌≡◌, ℕ, suc, ◌+◌, ◌*◌, List, [], ◌∷◌, ◌++◌, length, slice_get, Some, Option, IfSome, rules, refl, arith, ap, sym, ◌∙◌, subst, suc-mul, length-append}
use Rattle.std.proofs.lemmas.Option.{slice_get_read}
use Rattle.query_lanes.specs.declared.asks.Ask.{Ask}
use Rattle.query_lanes.specs.declared.lane.Made.{Made}
use Rattle.query_lanes.specs.inner.Lanes.{AreMadeOn, IsMadeOn}
use Rattle.query_lanes.proofs.ReaderLemmas.{later_trans}
use Rattle.query_lanes.proofs.LaneLemmas.{are_made_before, are_made_more}
use Rattle.query_lanes.proofs.lane.make_all.Goals as goal

pub returns-in_err-one-clause-later : goal.returns-in_err-one-clause-later
returns-in_err-one-clause-later g c = later_trans c.args.reader.now c.loop-next.reader c.make.new.reader c.loop-next.invariant.later c.in_err-one.ensures.later

pub returns-in_err-one-clause-made : goal.returns-in_err-one-clause-made
returns-in_err-one-clause-made g c =
    are_made_before c.args.dealt.now.asks.now c.args.dealt.now.lanes c.args.at c.args.reader.now c.loop-next.reader c.make.new.reader c.loop-next.made.items c.in_err-one.ensures.later c.loop-next.invariant.made

pub returns-in_err-push-clause-later : goal.returns-in_err-push-clause-later
returns-in_err-push-clause-later g c = later_trans c.args.reader.now c.loop-next.reader c.make.new.reader c.loop-next.invariant.later c.in_ok-one.ensures.later

pub returns-in_err-push-clause-made : goal.returns-in_err-push-clause-made
returns-in_err-push-clause-made g c =
    let same : c.push.new.self.items ≡ c.loop-next.made.items = search rules in
    subst (λ (made : List (Option Made)). AreMadeOn c.args.dealt.now.asks.now c.args.dealt.now.lanes c.args.at c.args.reader.now c.make.new.reader made) (sym same)
    (are_made_before c.args.dealt.now.asks.now c.args.dealt.now.lanes c.args.at c.args.reader.now c.loop-next.reader c.make.new.reader c.loop-next.made.items c.in_ok-one.ensures.later c.loop-next.invariant.made)

pub loop-next-preserved : goal.loop-next-preserved
loop-next-preserved g c =
    let more : c.push.new.self.items ≡ c.loop-next.made.items ++ c.in_ok-one.one ∷ [] = c.in_ok-push.ensures.items in
    let place : c.loop-next.next ≡ c.args.at + length c.loop-next.made.items * c.args.dealt.now.lanes = c.loop-next.invariant.place in
    let asked : slice_get c.args.dealt.now.asks.now c.loop-next.next ≡ Some c.index-dealt-next.result =
    slice_get_read c.args.dealt.now.asks.now (length c.args.dealt.now.asks.now) c.loop-next.next c.index-dealt-next.result refl c.loop-next-test.true c.index-dealt-next.is in
    record {
      place = next_place c.loop-next.next c.args.at c.args.dealt.now.lanes c.loop-next.made.items c.in_ok-one.one c.push.new.self.items more place;
      room = search rules;
      later = later_trans c.args.reader.now c.loop-next.reader c.make.new.reader c.loop-next.invariant.later c.in_ok-one.ensures.later;
      made = subst (λ (made : List (Option Made)). AreMadeOn c.args.dealt.now.asks.now c.args.dealt.now.lanes c.args.at c.args.reader.now c.make.new.reader made) (sym more)
          (are_made_more c.args.dealt.now.asks.now c.args.dealt.now.lanes c.args.at c.loop-next.next c.args.reader.now c.loop-next.reader c.make.new.reader c.loop-next.made.items c.index-dealt-next.result c.in_ok-one.one
          place asked c.loop-next.invariant.later c.in_ok-one.ensures.later
          (subst (λ (a : Ask). IfSome c.in_ok-one.one (IsMadeOn a c.loop-next.reader c.make.new.reader)) (sym c.index-dealt-next.is) c.in_ok-one.ensures.made) c.loop-next.invariant.made);
    }
  where
    next_place : (next at lanes : ℕ) (made : List (Option Made)) (one : Option Made) (after : List (Option Made)) → after ≡ made ++ one ∷ []
        → next ≡ at + length made * lanes → next + lanes ≡ at + length after * lanes
    next_place next at lanes made one after more place =
        let len : length after ≡ suc (length made) = omega (arith, ap length more, length-append made (one ∷ [])) in
        let times : length after * lanes ≡ length made * lanes + lanes = ap (λ (n : ℕ). n * lanes) len ∙ suc-mul (length made) lanes in
        omega arith
