use Rattle.std.proofs.Common.{◌+◌, ◌∷◌, length, ap, sym, ◌∙◌, arith}
use Rattle.gcl_model.specs.FormOf.{form_of}
use Rattle.gcl_model.specs.Meaning.{concordance}
use Rattle.gcl_model.proofs.Meanings.{concordance_rises}
use Rattle.gcl_eval.specs.Costs.{near_cost}
use Rattle.gcl_eval.proofs.CostLemmas.{within_cost}
use Rattle.gcl_eval.proofs.KnownLemmas.{none_is_known}
use Rattle.phrase_walk.proofs.Asked.{one_asked}
use Rattle.gcl_eval.proofs.Listing.{all_members, next_member, no_member, from_le}
use Rattle.gcl_eval.proofs.members.number_of_members.Goals as goal

pub loop-member-init : goal.loop-member-init
loop-member-init g c =
    let all = ap length (all_members (concordance (g.C.CountedLeaves.text c.args.source.now) (form_of c.args.expr.now))) in
    record { kept = omega arith; few = omega arith; below = omega arith; known = none_is_known 64 (g.C.CountedLeaves.text c.args.source.now) (form_of c.args.expr.now); counted = omega arith; cost = omega arith; capped = λ cap caps old. old }

pub loop-member-smaller : goal.loop-member-smaller
loop-member-smaller g c =
    let text = g.C.CountedLeaves.text c.args.source.now in
    let list = concordance text (form_of c.args.expr.now) in
    let next = next_member list (concordance_rises text (form_of c.args.expr.now)) c.loop-member.from c.in-Some.member (sym (sym c.in-Some.is ∙ c.in_ok-member.ensures.answer)) in
    let onward = c.next_from-from.ensures.onward text c.loop-member.from c.span-span.ensures.sound (sym c.in-Some.is ∙ c.in_ok-member.ensures.answer) in
    let fewer = ap length (next ∙ ap (λ l. c.in-Some.member ∷ l) (sym onward)) in
    omega (arith, fewer)

pub loop-member-preserved : goal.loop-member-preserved
loop-member-preserved g c =
    let text = g.C.CountedLeaves.text c.args.source.now in
    let list = concordance text (form_of c.args.expr.now) in
    let next = next_member list (concordance_rises text (form_of c.args.expr.now)) c.loop-member.from c.in-Some.member (sym (sym c.in-Some.is ∙ c.in_ok-member.ensures.answer)) in
    let onward = c.next_from-from.ensures.onward text c.loop-member.from c.span-span.ensures.sound (sym c.in-Some.is ∙ c.in_ok-member.ensures.answer) in
    let fewer = ap length (next ∙ ap (λ l. c.in-Some.member ∷ l) (sym onward)) in
    let past = c.next_from-from.ensures.past in
    let upto = c.next_from-from.ensures.within in
    let from = from_le list c.loop-member.from c.in-Some.member (sym (sym c.in-Some.is ∙ c.in_ok-member.ensures.answer)) in
    let within = rw c.in-Some.is at c.in_ok-member.ensures.within in
    record {
      kept = omega (arith, fewer);
      few = omega (arith, from, past);
      below = omega (arith, upto, within);
      known = c.in_ok-member.ensures.known;
      counted = omega (arith, c.loop-member.invariant.counted, c.next_member.ensures.counted);
      cost = one_asked (g.C.CountedLeaves.count c.args.counter.now) (g.C.CountedLeaves.count c.loop-member.counter) (g.C.CountedLeaves.count c.next_member.new.counter) c.loop-member.members
          (near_cost text (g.C.CountedLeaves.most c.args.source.now) (form_of c.args.expr.now)) c.loop-member.invariant.cost c.in_ok-member.ensures.cost;
      capped = λ cap caps old. c.next_member.ensures.capped cap caps (c.loop-member.invariant.capped cap caps old);
    }

pub returns-clause-value : goal.returns-clause-value
returns-clause-value g c =
    let none = ap length (no_member (concordance (g.C.CountedLeaves.text c.args.source.now) (form_of c.args.expr.now)) c.loop-member.from (sym c.in_ok-member.ensures.answer ∙ c.in_default.is)) in
    omega arith

pub returns-clause-cost : goal.returns-clause-cost
returns-clause-cost g c =
    let text = g.C.CountedLeaves.text c.args.source.now in
    let most = g.C.CountedLeaves.most c.args.source.now in
    let old = g.C.CountedLeaves.count c.args.counter.now in
    let new = g.C.CountedLeaves.count c.next_member.new.counter in
    within_cost text most (form_of c.args.expr.now) old new (c.loop-member.members + 1)
    (one_asked old (g.C.CountedLeaves.count c.loop-member.counter) new c.loop-member.members (near_cost text most (form_of c.args.expr.now)) c.loop-member.invariant.cost c.in_ok-member.ensures.cost)
