use Rattle.std.proofs.Common.{◌+◌, ◌≤◌, Some, None, drop, refl, ap, sym, ◌∙◌, subst, arith, rules}
use Rattle.gcl_model.specs.Forms.{term, phrase, width, both, one, seq}
use Rattle.gcl_model.specs.FormOf.{form_of}
use Rattle.gcl_model.specs.Meaning.{concordance}
use Rattle.gcl_model.specs.Cost.{cost}
use Rattle.gcl_model.specs.Extents.{Extent}
use Rattle.gcl_model.specs.Access.{first_end}
use Rattle.gcl_eval.specs.Costs.{ahead_cost}
use Rattle.gcl_eval.specs.Operands.{operand_forms, operand_lists}
use Rattle.gcl_combine.specs.Directions.{farthest, best}
use Rattle.gcl_eval.specs.Directions.{access_of, walk, join}
use Rattle.gcl_model.specs.declared.direction.Direction.TheVariants.{Forward}
use Rattle.gcl_model.proofs.Lists.{drop_here}
use Rattle.gcl_eval.proofs.Found.{access_within}
use Rattle.gcl_eval.proofs.ChainRules.{back_is_as_far}
use Rattle.gcl_eval.proofs.OperandLemmas.{costs_beside, parts_beside, depth_beside, form-Both, form-One, form-Seq, by_form-near, by_form-far}
use Rattle.gcl_eval.proofs.ChainSteps.{walk_ends, walk_next, farthest_next, best_next, best_all, farther_below, both_far, both_near, seq_found, seq_far, seq_near, joins, near_within, far_ends, far_found, far_edge, far_on, far_reached, far_short, joins_far}
use Rattle.gcl_eval.specs.KnownAnswers.{IsKnown}
use Rattle.gcl_eval.proofs.KnownLemmas.{told_is, asked_second, kept_second}
use Rattle.gcl_eval.proofs.ContainLoops.{goes_below}
use Rattle.gcl_eval.proofs.ContainForms.{both_operands, access_spans, spans_below}
use Rattle.gcl_eval.proofs.ContainSteps.{node_accepts, node_finishes, node_ends, node_goes_on, node_more_turns, fewer_left, none_within, starts_within, stops_within, ends_within, goes_within}
use Rattle.gcl_eval.proofs.Beginnings.{element_begins, node_begins, node_begins_none, begins_within, and_spared}
use Rattle.std.proofs.lemmas.Result.{IfOk-weaker}
use Rattle.gcl_eval.proofs.+access.Goals as goal

-- an access of any expression lies within the addresses
pub access::access_by_operands-returns-in-Term-clause-within : goal.access::access_by_operands-returns-in-Term-clause-within
access::access_by_operands-returns-in-Term-clause-within g t c =
    IfOk-weaker c.term_access.result _ _ (λ found at. access_within c.args.access (g.C.CountedLeaves.text c.args.source.now) (term c.in-Term.token) c.args.k found c.span-span.ensures.sound at) c.term_access.ensures.answer

pub access::access_by_operands-returns-in-Phrase-clause-within : goal.access::access_by_operands-returns-in-Phrase-clause-within
access::access_by_operands-returns-in-Phrase-clause-within g t c =
    IfOk-weaker c.phrase_access.result _ _ (λ found at. access_within c.args.access (g.C.CountedLeaves.text c.args.source.now) (phrase c.in-Phrase.tokens) c.args.k found c.span-span.ensures.sound at) c.phrase_access.ensures.answer

pub access::access_by_operands-returns-in-Width-clause-within : goal.access::access_by_operands-returns-in-Width-clause-within
access::access_by_operands-returns-in-Width-clause-within g t c =
    let text = g.C.CountedLeaves.text c.args.source.now in
    access_within c.args.access text (width c.in-Width.width) c.args.k c.width_access.result c.span-span.ensures.sound
    (c.width_access.ensures text record { first_is = sym c.span-span.ensures.first; next_is = sym c.span-span.ensures.next })

pub access::access_by_operands-returns-in-Both-clause-within : goal.access::access_by_operands-returns-in-Both-clause-within
access::access_by_operands-returns-in-Both-clause-within g t c =
    IfOk-weaker c.chain_access.result _ _ (λ found at. access_within c.args.access (g.C.CountedLeaves.text c.args.source.now) (form_of c.args.expr.now) c.args.k found c.span-span.ensures.sound at) c.chain_access.ensures.answer

-- the access by the far sides
pub chains::far_access-returns-in-Seq-clause-answer : goal.chains::far_access-returns-in-Seq-clause-answer
chains::far_access-returns-in-Seq-clause-answer g t c =
    IfOk-weaker c.followed_by_far_sides.result _ _ (λ found at. by_form-far c.args.expr.now (seq (operand_forms c.deref.result.now)) (form-Seq c.args.expr.now c.in-Seq.operands c.deref.result.now c.in-Seq.is c.deref.ensures.value) c.args.direction (g.C.CountedLeaves.text c.args.source.now) c.args.k found at) c.followed_by_far_sides.ensures.answer

-- the access by the far sides of any chain
pub chains::past_passed-returns-in_default-clause-answer : goal.chains::past_passed-returns-in_default-clause-answer
chains::past_passed-returns-in_default-clause-answer g t c =
    let from = rw (c.span-span.ensures.first, c.span-span.ensures.next) at (sym c.in_default.is ∙ c.resume.ensures.value) in
    far_ends c.args.direction (g.C.CountedLeaves.text c.args.source.now) (form_of c.args.expr.now) c.args.k c.in_ok-passed.passed c.in_ok-passed.ensures.answer None from

pub chains::past_passed-returns-clause-answer : goal.chains::past_passed-returns-clause-answer
chains::past_passed-returns-clause-answer g t c =
    let from = rw (c.span-span.ensures.first, c.span-span.ensures.next) at (sym c.in-Some.is ∙ c.resume.ensures.value) in
    IfOk-weaker c.near_access.result _ _ (λ found at. at ∙ far_ends c.args.direction (g.C.CountedLeaves.text c.args.source.now) (form_of c.args.expr.now) c.args.k c.in_ok-passed.passed c.in_ok-passed.ensures.answer (Some c.in-Some.from) from) c.near_access.ensures.answer

-- the member that it passes over
pub chains::passed_member-returns-clause-within : goal.chains::passed_member-returns-clause-within
chains::passed_member-returns-clause-within g t c =
    IfOk-weaker c.near_access.result _ _ (λ found at. near_within c.opposite.result (g.C.CountedLeaves.text c.args.source.now) (form_of c.args.expr.now) c.in-Some.outside found c.span.ensures.sound at) c.near_access.ensures.answer

-- the access by the near sides, by the kind of chain
pub chains::near_access-returns-in-Both-clause-answer : goal.chains::near_access-returns-in-Both-clause-answer
chains::near_access-returns-in-Both-clause-answer g t c =
    IfOk-weaker c.both_of.result _ _ (λ found at. by_form-near c.args.expr.now (both (operand_forms c.deref.result.now)) (form-Both c.args.expr.now c.in-Both.operands c.deref.result.now c.in-Both.is c.deref.ensures.value) c.args.direction (g.C.CountedLeaves.text c.args.source.now) c.args.k found at) c.both_of.ensures.answer

pub chains::near_access-returns-in-One-clause-answer : goal.chains::near_access-returns-in-One-clause-answer
chains::near_access-returns-in-One-clause-answer g t c =
    IfOk-weaker c.one_of.result _ _ (λ found at. by_form-near c.args.expr.now (one (operand_forms c.deref-in-One.result.now)) (form-One c.args.expr.now c.in-One.operands c.deref-in-One.result.now c.in-One.is c.deref-in-One.ensures.value) c.args.direction (g.C.CountedLeaves.text c.args.source.now) c.args.k found at) c.one_of.ensures.answer

pub chains::near_access-returns-in-Seq-clause-answer : goal.chains::near_access-returns-in-Seq-clause-answer
chains::near_access-returns-in-Seq-clause-answer g t c =
    IfOk-weaker c.followed_by.result _ _ (λ found at. by_form-near c.args.expr.now (seq (operand_forms c.deref-in-Seq.result.now)) (form-Seq c.args.expr.now c.in-Seq.operands c.deref-in-Seq.result.now c.in-Seq.is c.deref-in-Seq.ensures.value) c.args.direction (g.C.CountedLeaves.text c.args.source.now) c.args.k found at) c.followed_by.ensures.answer

-- both of: on, and back
pub chains::both_of-returns-in_default-clause-answer : goal.chains::both_of-returns-in_default-clause-answer
chains::both_of-returns-in_default-clause-answer g t c =
    both_far c.args.direction (g.C.CountedLeaves.text c.args.source.now) c.args.operands.now c.requires.operands c.args.k None (sym c.in_default.is ∙ c.in_ok-far.ensures.answer)

pub chains::both_of-returns-in_default-2-clause-answer : goal.chains::both_of-returns-in_default-2-clause-answer
chains::both_of-returns-in_default-2-clause-answer g t c =
    let back = rw c.opposite.ensures at (sym c.in_default-2.is ∙ c.in_ok-near.ensures.answer) in
    both_near c.args.direction (g.C.CountedLeaves.text c.args.source.now) c.args.operands.now c.requires.operands c.args.k c.in-Some.far (sym c.in-Some.is ∙ c.in_ok-far.ensures.answer) None back

pub chains::both_of-between-requires : goal.chains::both_of-between-requires
chains::both_of-between-requires g t c =
    let back = rw c.opposite.ensures at (sym c.in-Some-2.is ∙ c.in_ok-near.ensures.answer) in
    back_is_as_far c.args.direction (operand_lists (g.C.CountedLeaves.text c.args.source.now) c.args.operands.now) c.in-Some.far c.in-Some-2.near back

pub chains::both_of-returns-clause-answer : goal.chains::both_of-returns-clause-answer
chains::both_of-returns-clause-answer g t c =
    let back = rw c.opposite.ensures at (sym c.in-Some-2.is ∙ c.in_ok-near.ensures.answer) in
    ap Some c.between.ensures ∙ both_near c.args.direction (g.C.CountedLeaves.text c.args.source.now) c.args.operands.now c.requires.operands c.args.k c.in-Some.far (sym c.in-Some.is ∙ c.in_ok-far.ensures.answer) (Some c.in-Some-2.near) back

-- its loop: one operand more
pub chains::farthest-returns-in_default-clause-answer : goal.chains::farthest-returns-in_default-clause-answer
chains::farthest-returns-in_default-clause-answer g t c =
    let rest = drop c.loop-operand.operand-index c.args.operands.now in
    let others = drop (c.loop-operand.operand-index + 1) c.args.operands.now in
    let item = drop_here c.args.operands.now c.loop-operand.operand-index c.operand-item.result c.loop-operand-test.true c.operand-item.is in
    let at = rw c.access_by_near_sides.ensures at (sym c.in_default.is ∙ c.in_ok-answer.ensures.answer) in
    farthest_next c.args.direction (g.C.CountedLeaves.text c.args.source.now) rest others c.operand-item.result item c.args.k c.loop-operand.side (farthest c.args.direction (operand_lists (g.C.CountedLeaves.text c.args.source.now) c.args.operands.now) c.args.k c.args.k) c.loop-operand.invariant.answer None at

pub chains::farthest-loop-operand-preserved : goal.chains::farthest-loop-operand-preserved
chains::farthest-loop-operand-preserved g t c =
    let rest = drop c.loop-operand.operand-index c.args.operands.now in
    let others = drop (c.loop-operand.operand-index + 1) c.args.operands.now in
    let item = drop_here c.args.operands.now c.loop-operand.operand-index c.operand-item.result c.loop-operand-test.true c.operand-item.is in
    let at = rw c.access_by_near_sides.ensures at (sym c.in-Some.is ∙ c.in_ok-answer.ensures.answer) in
    let costs = costs_beside Forward (g.C.CountedLeaves.text c.args.source.now) (g.C.CountedLeaves.most c.args.source.now) rest c.operand-item.result others item in
    record {
      operands = (parts_beside Forward rest c.operand-item.result others item c.loop-operand.invariant.operands).rest;
      answer = rw c.farther-side.ensures (farthest_next c.args.direction (g.C.CountedLeaves.text c.args.source.now) rest others c.operand-item.result item c.args.k c.loop-operand.side (farthest c.args.direction (operand_lists (g.C.CountedLeaves.text c.args.source.now) c.args.operands.now) c.args.k c.args.k) c.loop-operand.invariant.answer (Some c.in-Some.answer) at);
      below = rw c.farther-side.ensures (farther_below c.args.direction c.loop-operand.side c.in-Some.answer c.loop-operand.invariant.below (rw c.in-Some.is at c.in_ok-answer.ensures.within));
      counted = omega (arith, c.loop-operand.invariant.counted, c.access.ensures.counted);
      cost = omega (arith, c.in_ok-answer.ensures.cost);
      capped = λ cap caps old. c.access.ensures.capped cap caps (c.loop-operand.invariant.capped cap caps old);
    }

-- one of: one operand more
pub chains::one_of-loop-operand-preserved : goal.chains::one_of-loop-operand-preserved
chains::one_of-loop-operand-preserved g t c =
    let rest = drop c.loop-operand.operand-index c.args.operands.now in
    let others = drop (c.loop-operand.operand-index + 1) c.args.operands.now in
    let item = drop_here c.args.operands.now c.loop-operand.operand-index c.operand-item.result c.loop-operand-test.true c.operand-item.is in
    let at = rw c.access_by_near_sides.ensures at c.in_ok-answer.ensures.answer in
    let costs = costs_beside Forward (g.C.CountedLeaves.text c.args.source.now) (g.C.CountedLeaves.most c.args.source.now) rest c.operand-item.result others item in
    record {
      operands = (parts_beside Forward rest c.operand-item.result others item c.loop-operand.invariant.operands).rest;
      answer = rw c.better-best.ensures (best_next c.args.direction (g.C.CountedLeaves.text c.args.source.now) rest others c.operand-item.result item c.args.k c.loop-operand.best (best c.args.direction (operand_lists (g.C.CountedLeaves.text c.args.source.now) c.args.operands.now) c.args.k None) c.loop-operand.invariant.answer c.in_ok-answer.answer at);
      counted = omega (arith, c.loop-operand.invariant.counted, c.access.ensures.counted);
      cost = omega (arith, c.in_ok-answer.ensures.cost);
      capped = λ cap caps old. c.access.ensures.capped cap caps (c.loop-operand.invariant.capped cap caps old);
    }

pub chains::one_of-returns-clause-answer : goal.chains::one_of-returns-clause-answer
chains::one_of-returns-clause-answer g t c =
    best_all c.args.direction (g.C.CountedLeaves.text c.args.source.now) c.args.operands.now c.loop-operand.operand-index c.args.k c.loop-operand.best c.loop-operand-test.false c.loop-operand.invariant.answer

-- followed by: on, and back
pub chains::followed_by-access-requires : goal.chains::followed_by-access-requires
chains::followed_by-access-requires g t c =
    let parts = parts_beside c.args.direction c.args.operands.now c.in-Some.nearest.now c.in-Some.after_nearest.now (rw c.in-Some.is at c.next_operand.ensures) c.requires.operands.each in
    let depth = depth_beside c.args.direction c.args.operands.now c.in-Some.nearest.now c.in-Some.after_nearest.now (rw c.in-Some.is at c.next_operand.ensures) in
    search rules

pub chains::followed_by-walk-requires : goal.chains::followed_by-walk-requires
chains::followed_by-walk-requires g t c =
    let within = (rw c.in-Some-2.is at c.in_ok-found.ensures.within) in
    let parts = parts_beside c.args.direction c.args.operands.now c.in-Some.nearest.now c.in-Some.after_nearest.now (rw c.in-Some.is at c.next_operand.ensures) c.requires.operands.each in
    let depth = depth_beside c.args.direction c.args.operands.now c.in-Some.nearest.now c.in-Some.after_nearest.now (rw c.in-Some.is at c.next_operand.ensures) in
    search rules

pub chains::followed_by-walk-requires-2 : goal.chains::followed_by-walk-requires-2
chains::followed_by-walk-requires-2 g t c =
    let within = (rw c.in-Some-3.is at c.in_ok-far.ensures.within) in
    let parts = parts_beside c.opposite.result c.args.operands.now c.in-Some-next_operand.field-0-0.now c.in-Some-next_operand.before_farthest.now (rw c.in-Some-next_operand.is at c.next_operand-2.ensures) c.requires.operands.each in
    let depth = depth_beside c.opposite.result c.args.operands.now c.in-Some-next_operand.field-0-0.now c.in-Some-next_operand.before_farthest.now (rw c.in-Some-next_operand.is at c.next_operand-2.ensures) in
    search rules

pub chains::followed_by-returns-in_default-2-clause-answer : goal.chains::followed_by-returns-in_default-2-clause-answer
chains::followed_by-returns-in_default-2-clause-answer g t c =
    let near_is = (rw c.in-Some.is at c.next_operand.ensures) in
    let far_is = rw c.opposite.ensures at (rw c.in-Some-next_operand.is at c.next_operand-2.ensures) in
    let found = rw c.access_by_near_sides.ensures at (sym c.in_default-2.is ∙ c.in_ok-found.ensures.answer) in
    seq_found c.args.direction (g.C.CountedLeaves.text c.args.source.now) c.args.operands.now c.in-Some.after_nearest.now c.in-Some-next_operand.before_farthest.now c.in-Some.nearest.now c.in-Some-next_operand.field-0-0.now near_is far_is c.args.k None found

pub chains::followed_by-returns-in_default-2-clause-cost : goal.chains::followed_by-returns-in_default-2-clause-cost
chains::followed_by-returns-in_default-2-clause-cost g t c =
    let costs = costs_beside c.args.direction (g.C.CountedLeaves.text c.args.source.now) (g.C.CountedLeaves.most c.args.source.now) c.args.operands.now c.in-Some.nearest.now c.in-Some.after_nearest.now (rw c.in-Some.is at c.next_operand.ensures) in
    omega (arith, c.in_ok-found.ensures.cost)

pub chains::followed_by-returns-in_default-3-clause-answer : goal.chains::followed_by-returns-in_default-3-clause-answer
chains::followed_by-returns-in_default-3-clause-answer g t c =
    let near_is = (rw c.in-Some.is at c.next_operand.ensures) in
    let far_is = rw c.opposite.ensures at (rw c.in-Some-next_operand.is at c.next_operand-2.ensures) in
    let found = rw c.access_by_near_sides.ensures at (sym c.in-Some-2.is ∙ c.in_ok-found.ensures.answer) in
    seq_far c.args.direction (g.C.CountedLeaves.text c.args.source.now) c.args.operands.now c.in-Some.after_nearest.now c.in-Some-next_operand.before_farthest.now c.in-Some.nearest.now c.in-Some-next_operand.field-0-0.now near_is far_is c.args.k c.in-Some-2.found found None (sym c.in_default-3.is ∙ c.in_ok-far.ensures.answer)

pub chains::followed_by-returns-in_default-3-clause-cost : goal.chains::followed_by-returns-in_default-3-clause-cost
chains::followed_by-returns-in_default-3-clause-cost g t c =
    let costs = costs_beside c.args.direction (g.C.CountedLeaves.text c.args.source.now) (g.C.CountedLeaves.most c.args.source.now) c.args.operands.now c.in-Some.nearest.now c.in-Some.after_nearest.now (rw c.in-Some.is at c.next_operand.ensures) in
    omega (arith, c.in_ok-found.ensures.cost, c.in_ok-far.ensures.cost)

pub chains::followed_by-returns-in_default-4-clause-answer : goal.chains::followed_by-returns-in_default-4-clause-answer
chains::followed_by-returns-in_default-4-clause-answer g t c =
    let near_is = (rw c.in-Some.is at c.next_operand.ensures) in
    let far_is = rw c.opposite.ensures at (rw c.in-Some-next_operand.is at c.next_operand-2.ensures) in
    let found = rw c.access_by_near_sides.ensures at (sym c.in-Some-2.is ∙ c.in_ok-found.ensures.answer) in
    let back = rw c.opposite-2.ensures at (sym c.in_default-4.is ∙ c.in_ok-near.ensures.answer) in
    seq_near c.args.direction (g.C.CountedLeaves.text c.args.source.now) c.args.operands.now c.in-Some.after_nearest.now c.in-Some-next_operand.before_farthest.now c.in-Some.nearest.now c.in-Some-next_operand.field-0-0.now near_is far_is c.args.k c.in-Some-2.found c.in-Some-3.far found (sym c.in-Some-3.is ∙ c.in_ok-far.ensures.answer) None back

pub chains::followed_by-returns-in_default-4-clause-cost : goal.chains::followed_by-returns-in_default-4-clause-cost
chains::followed_by-returns-in_default-4-clause-cost g t c =
    let near_costs = costs_beside c.args.direction (g.C.CountedLeaves.text c.args.source.now) (g.C.CountedLeaves.most c.args.source.now) c.args.operands.now c.in-Some.nearest.now c.in-Some.after_nearest.now (rw c.in-Some.is at c.next_operand.ensures) in
    let far_costs = costs_beside c.opposite.result (g.C.CountedLeaves.text c.args.source.now) (g.C.CountedLeaves.most c.args.source.now) c.args.operands.now c.in-Some-next_operand.field-0-0.now c.in-Some-next_operand.before_farthest.now (rw c.in-Some-next_operand.is at c.next_operand-2.ensures) in
    omega (arith, c.in_ok-found.ensures.cost, c.in_ok-far.ensures.cost, c.in_ok-near.ensures.cost)

pub chains::followed_by-returns-clause-cost : goal.chains::followed_by-returns-clause-cost
chains::followed_by-returns-clause-cost g t c =
    let near_costs = costs_beside c.args.direction (g.C.CountedLeaves.text c.args.source.now) (g.C.CountedLeaves.most c.args.source.now) c.args.operands.now c.in-Some.nearest.now c.in-Some.after_nearest.now (rw c.in-Some.is at c.next_operand.ensures) in
    let far_costs = costs_beside c.opposite.result (g.C.CountedLeaves.text c.args.source.now) (g.C.CountedLeaves.most c.args.source.now) c.args.operands.now c.in-Some-next_operand.field-0-0.now c.in-Some-next_operand.before_farthest.now (rw c.in-Some-next_operand.is at c.next_operand-2.ensures) in
    omega (arith, c.in_ok-found.ensures.cost, c.in_ok-far.ensures.cost, c.in_ok-near.ensures.cost)

pub chains::followed_by-join-requires : goal.chains::followed_by-join-requires
chains::followed_by-join-requires g t c =
    let near_is = (rw c.in-Some.is at c.next_operand.ensures) in
    let far_is = rw c.opposite.ensures at (rw c.in-Some-next_operand.is at c.next_operand-2.ensures) in
    let found = rw c.access_by_near_sides.ensures at (sym c.in-Some-2.is ∙ c.in_ok-found.ensures.answer) in
    let back = rw c.opposite-2.ensures at (sym c.in-Some-4.is ∙ c.in_ok-near.ensures.answer) in
    joins c.args.direction (g.C.CountedLeaves.text c.args.source.now) (seq (operand_forms c.args.operands.now)) c.args.k c.in-Some-4.near c.in-Some-3.far
    (seq_near c.args.direction (g.C.CountedLeaves.text c.args.source.now) c.args.operands.now c.in-Some.after_nearest.now c.in-Some-next_operand.before_farthest.now c.in-Some.nearest.now c.in-Some-next_operand.field-0-0.now near_is far_is c.args.k c.in-Some-2.found c.in-Some-3.far found (sym c.in-Some-3.is ∙ c.in_ok-far.ensures.answer) (Some c.in-Some-4.near) back)

pub chains::followed_by-returns-clause-answer : goal.chains::followed_by-returns-clause-answer
chains::followed_by-returns-clause-answer g t c =
    let near_is = (rw c.in-Some.is at c.next_operand.ensures) in
    let far_is = rw c.opposite.ensures at (rw c.in-Some-next_operand.is at c.next_operand-2.ensures) in
    let found = rw c.access_by_near_sides.ensures at (sym c.in-Some-2.is ∙ c.in_ok-found.ensures.answer) in
    let back = rw c.opposite-2.ensures at (sym c.in-Some-4.is ∙ c.in_ok-near.ensures.answer) in
    ap Some c.join.ensures ∙ seq_near c.args.direction (g.C.CountedLeaves.text c.args.source.now) c.args.operands.now c.in-Some.after_nearest.now c.in-Some-next_operand.before_farthest.now c.in-Some.nearest.now c.in-Some-next_operand.field-0-0.now near_is far_is c.args.k c.in-Some-2.found c.in-Some-3.far found (sym c.in-Some-3.is ∙ c.in_ok-far.ensures.answer) (Some c.in-Some-4.near) back

-- its loop: one operand more
pub chains::walk-access-requires : goal.chains::walk-access-requires
chains::walk-access-requires g t c =
    let parts = parts_beside c.args.direction c.loop-operand.rest.now c.in-Some.operand.now c.in-Some.others.now c.in-Some.ensures c.loop-operand.invariant.operands in
    let depth = depth_beside c.args.direction c.loop-operand.rest.now c.in-Some.operand.now c.in-Some.others.now c.in-Some.ensures in
    search rules

pub chains::walk-returns-in_default-beyond-clause-answer : goal.chains::walk-returns-in_default-beyond-clause-answer
chains::walk-returns-in_default-beyond-clause-answer g t c =
    walk_ends c.args.direction (g.C.CountedLeaves.text c.args.source.now) c.loop-operand.rest.now c.in-Some.others.now c.in-Some.operand.now c.in-Some.ensures c.loop-operand.answer (walk c.args.direction (operand_lists (g.C.CountedLeaves.text c.args.source.now) c.args.operands.now) c.args.start) c.loop-operand.invariant.answer (sym c.in_default-beyond.is ∙ c.beyond.ensures.value)

pub chains::walk-returns-in_default-2-clause-answer : goal.chains::walk-returns-in_default-2-clause-answer
chains::walk-returns-in_default-2-clause-answer g t c =
    let at = rw c.access_by_near_sides-near.ensures at (sym c.in_default-2.is ∙ c.in_ok-next.ensures.answer) in
    walk_next c.args.direction (g.C.CountedLeaves.text c.args.source.now) c.loop-operand.rest.now c.in-Some.others.now c.in-Some.operand.now c.in-Some.ensures c.loop-operand.answer (walk c.args.direction (operand_lists (g.C.CountedLeaves.text c.args.source.now) c.args.operands.now) c.args.start) c.loop-operand.invariant.answer c.in-Some-beyond.from (sym c.in-Some-beyond.is ∙ c.beyond.ensures.value) None at

pub chains::walk-returns-in_default-2-clause-cost : goal.chains::walk-returns-in_default-2-clause-cost
chains::walk-returns-in_default-2-clause-cost g t c =
    let costs = costs_beside c.args.direction (g.C.CountedLeaves.text c.args.source.now) (g.C.CountedLeaves.most c.args.source.now) c.loop-operand.rest.now c.in-Some.operand.now c.in-Some.others.now c.in-Some.ensures in
    omega (arith, c.in_ok-next.ensures.cost)

pub chains::walk-loop-operand-preserved : goal.chains::walk-loop-operand-preserved
chains::walk-loop-operand-preserved g t c =
    let at = rw c.access_by_near_sides-near.ensures at (sym c.in-Some-2.is ∙ c.in_ok-next.ensures.answer) in
    let depth = depth_beside c.args.direction c.loop-operand.rest.now c.in-Some.operand.now c.in-Some.others.now c.in-Some.ensures in
    let costs = costs_beside c.args.direction (g.C.CountedLeaves.text c.args.source.now) (g.C.CountedLeaves.most c.args.source.now) c.loop-operand.rest.now c.in-Some.operand.now c.in-Some.others.now c.in-Some.ensures in
    record {
      operands = (parts_beside c.args.direction c.loop-operand.rest.now c.in-Some.operand.now c.in-Some.others.now c.in-Some.ensures c.loop-operand.invariant.operands).rest;
      answer = walk_next c.args.direction (g.C.CountedLeaves.text c.args.source.now) c.loop-operand.rest.now c.in-Some.others.now c.in-Some.operand.now c.in-Some.ensures c.loop-operand.answer (walk c.args.direction (operand_lists (g.C.CountedLeaves.text c.args.source.now) c.args.operands.now) c.args.start) c.loop-operand.invariant.answer c.in-Some-beyond.from (sym c.in-Some-beyond.is ∙ c.beyond.ensures.value) (Some c.in-Some-2.next) at;
      depth = omega arith;
      within = (rw c.in-Some-2.is at c.in_ok-next.ensures.within);
      counted = omega (arith, c.loop-operand.invariant.counted, c.access.ensures.counted);
      cost = omega (arith, c.in_ok-next.ensures.cost);
      capped = λ cap caps old. c.access.ensures.capped cap caps (c.loop-operand.invariant.capped cap caps old);
    }

-- a containment: in, one turn more, and out
pub containments::containment_access-returns-clause-cost : goal.containments::containment_access-returns-clause-cost
containments::containment_access-returns-clause-cost g t c =
    IfOk-weaker c.access_from_ahead.result _ _ (λ found at. omega (arith, c.in_ok-ahead.ensures.cost, at)) c.access_from_ahead.ensures.cost

pub containments::access_from_ahead-first_member-requires : goal.containments::access_from_ahead-first_member-requires
containments::access_from_ahead-first_member-requires g t c =
    let parts = both_operands c.operands-containment.result.0 (form_of c.args.expr.now) (form_of c.operands-containment.result.1.now) (form_of c.operands-containment.result.2.now) c.operands-containment.ensures.form c.requires.well_formed in
    let within = c.requires.within in
    search rules

pub containments::access_from_ahead-returns-in_default-clause-answer : goal.containments::access_from_ahead-returns-in_default-clause-answer
containments::access_from_ahead-returns-in_default-clause-answer g t c =
    node_begins_none c.operands-containment.result.0 (g.C.CountedLeaves.text c.args.source.now) (form_of c.args.expr.now) (form_of c.operands-containment.result.1.now) (form_of c.operands-containment.result.2.now) c.operands-containment.ensures.form c.args.wanted c.args.k c.args.ahead (rw c.in_default.is at c.in_ok-member.ensures.answer)

pub containments::access_from_ahead-returns-in_default-clause-cost : goal.containments::access_from_ahead-returns-in_default-clause-cost
containments::access_from_ahead-returns-in_default-clause-cost g t c =
    let spared = ahead_cost c.args.wanted (g.C.CountedLeaves.text c.args.source.now) (g.C.CountedLeaves.most c.args.source.now) (form_of c.args.expr.now) in
    let begins = begins_within c.operands-containment.result.0 (g.C.CountedLeaves.text c.args.source.now) (form_of c.args.expr.now) (form_of c.operands-containment.result.1.now) (form_of c.operands-containment.result.2.now) c.operands-containment.ensures.form c.args.wanted (g.C.CountedLeaves.most c.args.source.now) (g.C.CountedLeaves.count c.args.counter.now) (g.C.CountedLeaves.count c.first_member.new.counter) c.in_ok-member.ensures.cost in
    none_within c.operands-containment.result.0 (g.C.CountedLeaves.text c.args.source.now) (form_of c.args.expr.now) (form_of c.operands-containment.result.1.now) (form_of c.operands-containment.result.2.now) c.operands-containment.ensures.form (g.C.CountedLeaves.most c.args.source.now) (g.C.CountedLeaves.count c.args.counter.now) (g.C.CountedLeaves.count c.first_member.new.counter + spared) begins

pub containments::access_from_ahead-loop-answer-init : goal.containments::access_from_ahead-loop-answer-init
containments::access_from_ahead-loop-answer-init g t c =
    let spared = ahead_cost c.args.wanted (g.C.CountedLeaves.text c.args.source.now) (g.C.CountedLeaves.most c.args.source.now) (form_of c.args.expr.now) in
    let begins = begins_within c.operands-containment.result.0 (g.C.CountedLeaves.text c.args.source.now) (form_of c.args.expr.now) (form_of c.operands-containment.result.1.now) (form_of c.operands-containment.result.2.now) c.operands-containment.ensures.form c.args.wanted (g.C.CountedLeaves.most c.args.source.now) (g.C.CountedLeaves.count c.args.counter.now) (g.C.CountedLeaves.count c.first_member.new.counter) c.in_ok-member.ensures.cost in
    record {
      reached = node_begins c.operands-containment.result.0 (g.C.CountedLeaves.text c.args.source.now) (form_of c.args.expr.now) (form_of c.operands-containment.result.1.now) (form_of c.operands-containment.result.2.now) c.operands-containment.ensures.form c.args.wanted c.args.k c.direction-direction.result c.direction-direction.ensures c.args.ahead c.requires.begins c.in-Some.member (rw c.in-Some.is at c.in_ok-member.ensures.answer);
      within = (rw c.in-Some.is at c.in_ok-member.ensures.within);
      known = asked_second c.direction-direction.result c.args.wanted c.direction-direction.ensures c.operands-containment.result.0 (g.C.CountedLeaves.text c.args.source.now) (form_of c.args.expr.now) (form_of c.operands-containment.result.1.now) (form_of c.operands-containment.result.2.now) c.operands-containment.ensures.form c.args.known.now c.requires.known;
      counted = c.first_member.ensures.counted;
      cost = starts_within c.operands-containment.result.0 (g.C.CountedLeaves.text c.args.source.now) (form_of c.args.expr.now) (form_of c.operands-containment.result.1.now) (form_of c.operands-containment.result.2.now) c.operands-containment.ensures.form (g.C.CountedLeaves.most c.args.source.now) (g.C.CountedLeaves.count c.args.counter.now) c.direction-direction.result c.in-Some.member (g.C.CountedLeaves.count c.first_member.new.counter + spared) begins;
      capped = λ cap caps old. c.first_member.ensures.capped cap caps old;
    }

pub containments::access_from_ahead-known_access-requires : goal.containments::access_from_ahead-known_access-requires
containments::access_from_ahead-known_access-requires g t c =
    let parts = both_operands c.operands-containment.result.0 (form_of c.args.expr.now) (form_of c.operands-containment.result.1.now) (form_of c.operands-containment.result.2.now) c.operands-containment.ensures.form c.requires.well_formed in
    let below = c.question-asked.ensures.below in
    search rules

pub containments::access_from_ahead-turn-requires : goal.containments::access_from_ahead-turn-requires
containments::access_from_ahead-turn-requires g t c =
    record {
      member_below = let within = c.loop-answer.invariant.within in omega arith;
      answer_below = spans_below c.in_ok-answer.answer (access_spans c.question-asked.result.0 (g.C.CountedLeaves.text c.args.source.now) (form_of c.operands-containment.result.2.now) c.question-asked.result.1 c.in_ok-answer.answer c.in_ok-answer.ensures.within c.in_ok-answer.ensures.answer);
    }

pub containments::access_from_ahead-returns-in-Accept-clause-answer : goal.containments::access_from_ahead-returns-in-Accept-clause-answer
containments::access_from_ahead-returns-in-Accept-clause-answer g t c =
    node_accepts c.operands-containment.result.0 (g.C.CountedLeaves.text c.args.source.now) (form_of c.args.expr.now) (form_of c.operands-containment.result.1.now) (form_of c.operands-containment.result.2.now) c.operands-containment.ensures.form c.direction-direction.result (access_of c.args.wanted (concordance (g.C.CountedLeaves.text c.args.source.now) (form_of c.args.expr.now)) c.args.k) c.loop-answer.member c.loop-answer.invariant.reached c.question-asked.result.0 c.question-asked.result.1 c.question-asked.ensures.asks c.in_ok-answer.answer c.in_ok-answer.ensures.answer c.in-Accept.ensures

pub containments::access_from_ahead-returns-in-Accept-clause-cost : goal.containments::access_from_ahead-returns-in-Accept-clause-cost
containments::access_from_ahead-returns-in-Accept-clause-cost g t c =
    let spared = ahead_cost c.args.wanted (g.C.CountedLeaves.text c.args.source.now) (g.C.CountedLeaves.most c.args.source.now) (form_of c.args.expr.now) in
    stops_within c.operands-containment.result.0 (g.C.CountedLeaves.text c.args.source.now) (form_of c.args.expr.now) (form_of c.operands-containment.result.1.now) (form_of c.operands-containment.result.2.now) c.operands-containment.ensures.form (g.C.CountedLeaves.most c.args.source.now) (g.C.CountedLeaves.count c.args.counter.now) c.direction-direction.result c.loop-answer.member (g.C.CountedLeaves.count c.loop-answer.counter + spared) c.loop-answer.invariant.cost (g.C.CountedLeaves.count c.known_access.new.counter + spared) (and_spared (g.C.CountedLeaves.count c.known_access.new.counter) (g.C.CountedLeaves.count c.loop-answer.counter) (cost (g.C.CountedLeaves.text c.args.source.now) (g.C.CountedLeaves.most c.args.source.now) (form_of c.operands-containment.result.2.now)) spared c.in_ok-answer.ensures.cost)

pub containments::access_from_ahead-returns-in-Finish-clause-answer : goal.containments::access_from_ahead-returns-in-Finish-clause-answer
containments::access_from_ahead-returns-in-Finish-clause-answer g t c =
    node_finishes c.operands-containment.result.0 (g.C.CountedLeaves.text c.args.source.now) (form_of c.args.expr.now) (form_of c.operands-containment.result.1.now) (form_of c.operands-containment.result.2.now) c.operands-containment.ensures.form c.direction-direction.result (access_of c.args.wanted (concordance (g.C.CountedLeaves.text c.args.source.now) (form_of c.args.expr.now)) c.args.k) c.loop-answer.member c.loop-answer.invariant.reached c.question-asked.result.0 c.question-asked.result.1 c.question-asked.ensures.asks c.in_ok-answer.answer c.in_ok-answer.ensures.answer c.in-Finish.ensures

pub containments::access_from_ahead-returns-in-Finish-clause-cost : goal.containments::access_from_ahead-returns-in-Finish-clause-cost
containments::access_from_ahead-returns-in-Finish-clause-cost g t c =
    let spared = ahead_cost c.args.wanted (g.C.CountedLeaves.text c.args.source.now) (g.C.CountedLeaves.most c.args.source.now) (form_of c.args.expr.now) in
    stops_within c.operands-containment.result.0 (g.C.CountedLeaves.text c.args.source.now) (form_of c.args.expr.now) (form_of c.operands-containment.result.1.now) (form_of c.operands-containment.result.2.now) c.operands-containment.ensures.form (g.C.CountedLeaves.most c.args.source.now) (g.C.CountedLeaves.count c.args.counter.now) c.direction-direction.result c.loop-answer.member (g.C.CountedLeaves.count c.loop-answer.counter + spared) c.loop-answer.invariant.cost (g.C.CountedLeaves.count c.known_access.new.counter + spared) (and_spared (g.C.CountedLeaves.count c.known_access.new.counter) (g.C.CountedLeaves.count c.loop-answer.counter) (cost (g.C.CountedLeaves.text c.args.source.now) (g.C.CountedLeaves.most c.args.source.now) (form_of c.operands-containment.result.2.now)) spared c.in_ok-answer.ensures.cost)

pub containments::access_from_ahead-access-requires : goal.containments::access_from_ahead-access-requires
containments::access_from_ahead-access-requires g t c =
    let parts = both_operands c.operands-containment.result.0 (form_of c.args.expr.now) (form_of c.operands-containment.result.1.now) (form_of c.operands-containment.result.2.now) c.operands-containment.ensures.form c.requires.well_formed in
    let spans = access_spans c.question-asked.result.0 (g.C.CountedLeaves.text c.args.source.now) (form_of c.operands-containment.result.2.now) c.question-asked.result.1 c.in_ok-answer.answer c.in_ok-answer.ensures.within c.in_ok-answer.ensures.answer in
    let below = goes_below c.direction-direction.result c.operands-containment.result.0 c.loop-answer.member c.in_ok-answer.answer c.in-GoTo.next spans c.in-GoTo.ensures in
    search rules

pub containments::access_from_ahead-returns-in_default-2-clause-answer : goal.containments::access_from_ahead-returns-in_default-2-clause-answer
containments::access_from_ahead-returns-in_default-2-clause-answer g t c =
    let from = rw c.goes_by-onward.ensures at (sym c.in_default-2.is ∙ c.in_ok-later-in-GoTo.ensures.answer) in
    node_ends c.operands-containment.result.0 (g.C.CountedLeaves.text c.args.source.now) (form_of c.args.expr.now) (form_of c.operands-containment.result.1.now) (form_of c.operands-containment.result.2.now) c.operands-containment.ensures.form c.direction-direction.result (access_of c.args.wanted (concordance (g.C.CountedLeaves.text c.args.source.now) (form_of c.args.expr.now)) c.args.k) c.loop-answer.member c.loop-answer.invariant.reached c.question-asked.result.0 c.question-asked.result.1 c.question-asked.ensures.asks c.in_ok-answer.answer c.in_ok-answer.ensures.answer c.in-GoTo.next c.in-GoTo.ensures from

pub containments::access_from_ahead-returns-in_default-2-clause-cost : goal.containments::access_from_ahead-returns-in_default-2-clause-cost
containments::access_from_ahead-returns-in_default-2-clause-cost g t c =
    let spared = ahead_cost c.args.wanted (g.C.CountedLeaves.text c.args.source.now) (g.C.CountedLeaves.most c.args.source.now) (form_of c.args.expr.now) in
    ends_within c.operands-containment.result.0 (g.C.CountedLeaves.text c.args.source.now) (form_of c.args.expr.now) (form_of c.operands-containment.result.1.now) (form_of c.operands-containment.result.2.now) c.operands-containment.ensures.form (g.C.CountedLeaves.most c.args.source.now) (g.C.CountedLeaves.count c.args.counter.now) c.direction-direction.result c.loop-answer.member (g.C.CountedLeaves.count c.loop-answer.counter + spared) c.loop-answer.invariant.cost (g.C.CountedLeaves.count c.known_access.new.counter + spared) (g.C.CountedLeaves.count c.access.new.counter + spared) (and_spared (g.C.CountedLeaves.count c.known_access.new.counter) (g.C.CountedLeaves.count c.loop-answer.counter) (cost (g.C.CountedLeaves.text c.args.source.now) (g.C.CountedLeaves.most c.args.source.now) (form_of c.operands-containment.result.2.now)) spared c.in_ok-answer.ensures.cost) (and_spared (g.C.CountedLeaves.count c.access.new.counter) (g.C.CountedLeaves.count c.known_access.new.counter) (cost (g.C.CountedLeaves.text c.args.source.now) (g.C.CountedLeaves.most c.args.source.now) (form_of c.operands-containment.result.1.now)) spared c.in_ok-later-in-GoTo.ensures.cost)

pub containments::access_from_ahead-loop-answer-smaller : goal.containments::access_from_ahead-loop-answer-smaller
containments::access_from_ahead-loop-answer-smaller g t c =
    let from = rw c.goes_by-onward.ensures at (sym c.in-Some-2.is ∙ c.in_ok-later-in-GoTo.ensures.answer) in
    fewer_left c.operands-containment.result.0 (g.C.CountedLeaves.text c.args.source.now) (form_of c.args.expr.now) (form_of c.operands-containment.result.1.now) (form_of c.operands-containment.result.2.now) c.operands-containment.ensures.form c.direction-direction.result (access_of c.args.wanted (concordance (g.C.CountedLeaves.text c.args.source.now) (form_of c.args.expr.now)) c.args.k) c.loop-answer.member c.loop-answer.invariant.reached c.question-asked.result.0 c.question-asked.result.1 c.question-asked.ensures.asks c.in_ok-answer.answer c.in_ok-answer.ensures.answer c.in-GoTo.next c.in-GoTo.ensures c.in-Some-2.later from

pub containments::access_from_ahead-loop-answer-preserved : goal.containments::access_from_ahead-loop-answer-preserved
containments::access_from_ahead-loop-answer-preserved g t c =
    let spared = ahead_cost c.args.wanted (g.C.CountedLeaves.text c.args.source.now) (g.C.CountedLeaves.most c.args.source.now) (form_of c.args.expr.now) in
    let from = rw c.goes_by-onward.ensures at (sym c.in-Some-2.is ∙ c.in_ok-later-in-GoTo.ensures.answer) in
    record {
      reached = node_goes_on c.operands-containment.result.0 (g.C.CountedLeaves.text c.args.source.now) (form_of c.args.expr.now) (form_of c.operands-containment.result.1.now) (form_of c.operands-containment.result.2.now) c.operands-containment.ensures.form c.direction-direction.result (access_of c.args.wanted (concordance (g.C.CountedLeaves.text c.args.source.now) (form_of c.args.expr.now)) c.args.k) c.loop-answer.member c.loop-answer.invariant.reached c.question-asked.result.0 c.question-asked.result.1 c.question-asked.ensures.asks c.in_ok-answer.answer c.in_ok-answer.ensures.answer c.in-GoTo.next c.in-GoTo.ensures c.in-Some-2.later from;
      within = (rw c.in-Some-2.is at c.in_ok-later-in-GoTo.ensures.within);
      known = subst (λ asked. IsKnown asked (concordance (g.C.CountedLeaves.text c.args.source.now) (form_of c.operands-containment.result.2.now)) c.known_access.new.known) c.question-asked.ensures.access c.in_ok-answer.ensures.known;
      counted = omega (arith, c.loop-answer.invariant.counted, c.known_access.ensures.counted, c.access.ensures.counted);
      cost = goes_within c.operands-containment.result.0 (g.C.CountedLeaves.text c.args.source.now) (form_of c.args.expr.now) (form_of c.operands-containment.result.1.now) (form_of c.operands-containment.result.2.now) c.operands-containment.ensures.form (g.C.CountedLeaves.most c.args.source.now) (g.C.CountedLeaves.count c.args.counter.now) c.direction-direction.result c.loop-answer.member (g.C.CountedLeaves.count c.loop-answer.counter + spared) c.loop-answer.invariant.cost c.in-Some-2.later (node_more_turns c.operands-containment.result.0 (g.C.CountedLeaves.text c.args.source.now) (form_of c.args.expr.now) (form_of c.operands-containment.result.1.now) (form_of c.operands-containment.result.2.now) c.operands-containment.ensures.form c.direction-direction.result (access_of c.args.wanted (concordance (g.C.CountedLeaves.text c.args.source.now) (form_of c.args.expr.now)) c.args.k) c.loop-answer.member c.loop-answer.invariant.reached c.question-asked.result.0 c.question-asked.result.1 c.question-asked.ensures.asks c.in_ok-answer.answer c.in_ok-answer.ensures.answer c.in-GoTo.next c.in-GoTo.ensures c.in-Some-2.later from) (g.C.CountedLeaves.count c.known_access.new.counter + spared) (g.C.CountedLeaves.count c.access.new.counter + spared) (and_spared (g.C.CountedLeaves.count c.known_access.new.counter) (g.C.CountedLeaves.count c.loop-answer.counter) (cost (g.C.CountedLeaves.text c.args.source.now) (g.C.CountedLeaves.most c.args.source.now) (form_of c.operands-containment.result.2.now)) spared c.in_ok-answer.ensures.cost) (and_spared (g.C.CountedLeaves.count c.access.new.counter) (g.C.CountedLeaves.count c.known_access.new.counter) (cost (g.C.CountedLeaves.text c.args.source.now) (g.C.CountedLeaves.most c.args.source.now) (form_of c.operands-containment.result.1.now)) spared c.in_ok-later-in-GoTo.ensures.cost);
      capped = λ cap caps old. c.access.ensures.capped cap caps (c.known_access.ensures.capped cap caps (c.loop-answer.invariant.capped cap caps old));
    }

-- what is known of the second operand
pub containments::access_from_ahead-returns-in-Accept-clause-known : goal.containments::access_from_ahead-returns-in-Accept-clause-known
containments::access_from_ahead-returns-in-Accept-clause-known g t c =
    kept_second c.direction-direction.result c.args.wanted c.direction-direction.ensures c.operands-containment.result.0 (g.C.CountedLeaves.text c.args.source.now) (form_of c.args.expr.now) (form_of c.operands-containment.result.1.now) (form_of c.operands-containment.result.2.now) c.operands-containment.ensures.form c.known_access.new.known c.question-asked.result.0 c.question-asked.ensures.access c.in_ok-answer.ensures.known

pub containments::access_from_ahead-returns-in-Finish-clause-known : goal.containments::access_from_ahead-returns-in-Finish-clause-known
containments::access_from_ahead-returns-in-Finish-clause-known g t c =
    kept_second c.direction-direction.result c.args.wanted c.direction-direction.ensures c.operands-containment.result.0 (g.C.CountedLeaves.text c.args.source.now) (form_of c.args.expr.now) (form_of c.operands-containment.result.1.now) (form_of c.operands-containment.result.2.now) c.operands-containment.ensures.form c.known_access.new.known c.question-asked.result.0 c.question-asked.ensures.access c.in_ok-answer.ensures.known

pub containments::access_from_ahead-returns-in_default-2-clause-known : goal.containments::access_from_ahead-returns-in_default-2-clause-known
containments::access_from_ahead-returns-in_default-2-clause-known g t c =
    kept_second c.direction-direction.result c.args.wanted c.direction-direction.ensures c.operands-containment.result.0 (g.C.CountedLeaves.text c.args.source.now) (form_of c.args.expr.now) (form_of c.operands-containment.result.1.now) (form_of c.operands-containment.result.2.now) c.operands-containment.ensures.form c.known_access.new.known c.question-asked.result.0 c.question-asked.ensures.access c.in_ok-answer.ensures.known

-- followed by, by the far sides: back, and on again
pub chains::followed_by_far_sides-access-requires : goal.chains::followed_by_far_sides-access-requires
chains::followed_by_far_sides-access-requires g t c =
    let parts = parts_beside c.opposite.result c.args.operands.now c.in-Some-next_operand.farthest.now c.in-Some-next_operand.before_farthest.now (rw c.in-Some-next_operand.is at c.next_operand-2.ensures) c.requires.operands.each in
    let depth = depth_beside c.opposite.result c.args.operands.now c.in-Some-next_operand.farthest.now c.in-Some-next_operand.before_farthest.now (rw c.in-Some-next_operand.is at c.next_operand-2.ensures) in
    search rules

pub chains::followed_by_far_sides-walk-requires : goal.chains::followed_by_far_sides-walk-requires
chains::followed_by_far_sides-walk-requires g t c =
    let within = (rw c.in-Some-2.is at c.in_ok-found.ensures.within) in
    let parts = parts_beside c.opposite.result c.args.operands.now c.in-Some-next_operand.farthest.now c.in-Some-next_operand.before_farthest.now (rw c.in-Some-next_operand.is at c.next_operand-2.ensures) c.requires.operands.each in
    let depth = depth_beside c.opposite.result c.args.operands.now c.in-Some-next_operand.farthest.now c.in-Some-next_operand.before_farthest.now (rw c.in-Some-next_operand.is at c.next_operand-2.ensures) in
    search rules

pub chains::followed_by_far_sides-walk-requires-in-Some-3 : goal.chains::followed_by_far_sides-walk-requires-in-Some-3
chains::followed_by_far_sides-walk-requires-in-Some-3 g t c =
    let within = (rw c.in-Some-3.is at c.in_ok-walk.ensures.within) in
    let parts = parts_beside c.args.direction c.args.operands.now c.in-Some.field-0-0.now c.in-Some.after_nearest.now (rw c.in-Some.is at c.next_operand.ensures) c.requires.operands.each in
    let depth = depth_beside c.args.direction c.args.operands.now c.in-Some.field-0-0.now c.in-Some.after_nearest.now (rw c.in-Some.is at c.next_operand.ensures) in
    search rules

pub chains::followed_by_far_sides-returns-in_default-2-clause-answer : goal.chains::followed_by_far_sides-returns-in_default-2-clause-answer
chains::followed_by_far_sides-returns-in_default-2-clause-answer g t c =
    let far_is = rw c.opposite.ensures at (rw c.in-Some-next_operand.is at c.next_operand-2.ensures) in
    let found = rw c.access_by_far_sides.ensures at (sym c.in_default-2.is ∙ c.in_ok-found.ensures.answer) in
    far_found c.args.direction (g.C.CountedLeaves.text c.args.source.now) c.args.operands.now c.in-Some.after_nearest.now c.in-Some-next_operand.before_farthest.now c.in-Some.field-0-0.now c.in-Some-next_operand.farthest.now (rw c.in-Some.is at c.next_operand.ensures) far_is c.args.k None found

pub chains::followed_by_far_sides-returns-in_default-2-clause-cost : goal.chains::followed_by_far_sides-returns-in_default-2-clause-cost
chains::followed_by_far_sides-returns-in_default-2-clause-cost g t c =
    let far_costs = costs_beside c.opposite.result (g.C.CountedLeaves.text c.args.source.now) (g.C.CountedLeaves.most c.args.source.now) c.args.operands.now c.in-Some-next_operand.farthest.now c.in-Some-next_operand.before_farthest.now (rw c.in-Some-next_operand.is at c.next_operand-2.ensures) in
    omega (arith, c.in_ok-found.ensures.cost)

pub chains::followed_by_far_sides-returns-in-None-clause-answer : goal.chains::followed_by_far_sides-returns-in-None-clause-answer
chains::followed_by_far_sides-returns-in-None-clause-answer g t c =
    let far_is = rw c.opposite.ensures at (rw c.in-Some-next_operand.is at c.next_operand-2.ensures) in
    let found = rw c.access_by_far_sides.ensures at (sym c.in-Some-2.is ∙ c.in_ok-found.ensures.answer) in
    let back = rw c.opposite-2.ensures at (sym c.in-None.is ∙ c.in_ok-walk.ensures.answer) in
    IfOk-weaker c.next_past.result _ _ (λ reached at. far_edge c.args.direction (g.C.CountedLeaves.text c.args.source.now) c.args.operands.now c.in-Some.after_nearest.now c.in-Some-next_operand.before_farthest.now c.in-Some.field-0-0.now c.in-Some-next_operand.farthest.now (rw c.in-Some.is at c.next_operand.ensures) far_is c.args.k c.in-Some-2.found found back reached at) c.next_past.ensures.answer

pub chains::followed_by_far_sides-returns-in-None-clause-cost : goal.chains::followed_by_far_sides-returns-in-None-clause-cost
chains::followed_by_far_sides-returns-in-None-clause-cost g t c =
    let far_costs = costs_beside c.opposite.result (g.C.CountedLeaves.text c.args.source.now) (g.C.CountedLeaves.most c.args.source.now) c.args.operands.now c.in-Some-next_operand.farthest.now c.in-Some-next_operand.before_farthest.now (rw c.in-Some-next_operand.is at c.next_operand-2.ensures) in
    IfOk-weaker c.next_past.result _ _ (λ reached at. omega (arith, c.in_ok-found.ensures.cost, c.in_ok-walk.ensures.cost, at)) c.next_past.ensures.cost

pub chains::followed_by_far_sides-returns-in_default-3-clause-answer : goal.chains::followed_by_far_sides-returns-in_default-3-clause-answer
chains::followed_by_far_sides-returns-in_default-3-clause-answer g t c =
    let far_is = rw c.opposite.ensures at (rw c.in-Some-next_operand.is at c.next_operand-2.ensures) in
    let found = rw c.access_by_far_sides.ensures at (sym c.in-Some-2.is ∙ c.in_ok-found.ensures.answer) in
    let back = rw c.opposite-2.ensures at (sym c.in-Some-3.is ∙ c.in_ok-walk.ensures.answer) in
    far_on c.args.direction (g.C.CountedLeaves.text c.args.source.now) c.args.operands.now c.in-Some.after_nearest.now c.in-Some-next_operand.before_farthest.now c.in-Some.field-0-0.now c.in-Some-next_operand.farthest.now (rw c.in-Some.is at c.next_operand.ensures) far_is c.args.k c.in-Some-2.found c.in-Some-3.near found back None (sym c.in_default-3.is ∙ c.in_ok-far-in-Some-3.ensures.answer)

pub chains::followed_by_far_sides-returns-in_default-3-clause-cost : goal.chains::followed_by_far_sides-returns-in_default-3-clause-cost
chains::followed_by_far_sides-returns-in_default-3-clause-cost g t c =
    let far_costs = costs_beside c.opposite.result (g.C.CountedLeaves.text c.args.source.now) (g.C.CountedLeaves.most c.args.source.now) c.args.operands.now c.in-Some-next_operand.farthest.now c.in-Some-next_operand.before_farthest.now (rw c.in-Some-next_operand.is at c.next_operand-2.ensures) in
    let near_costs = costs_beside c.args.direction (g.C.CountedLeaves.text c.args.source.now) (g.C.CountedLeaves.most c.args.source.now) c.args.operands.now c.in-Some.field-0-0.now c.in-Some.after_nearest.now (rw c.in-Some.is at c.next_operand.ensures) in
    omega (arith, c.in_ok-found.ensures.cost, c.in_ok-walk.ensures.cost, c.in_ok-far-in-Some-3.ensures.cost)

pub chains::followed_by_far_sides-join-requires : goal.chains::followed_by_far_sides-join-requires
chains::followed_by_far_sides-join-requires g t c =
    let far_is = rw c.opposite.ensures at (rw c.in-Some-next_operand.is at c.next_operand-2.ensures) in
    let found = rw c.access_by_far_sides.ensures at (sym c.in-Some-2.is ∙ c.in_ok-found.ensures.answer) in
    let back = rw c.opposite-2.ensures at (sym c.in-Some-3.is ∙ c.in_ok-walk.ensures.answer) in
    joins_far c.args.direction (g.C.CountedLeaves.text c.args.source.now) (seq (operand_forms c.args.operands.now)) c.args.k c.in-Some-3.near c.in-Some-4.far
    (far_reached c.args.direction (g.C.CountedLeaves.text c.args.source.now) c.args.operands.now c.in-Some.after_nearest.now c.in-Some-next_operand.before_farthest.now c.in-Some.field-0-0.now c.in-Some-next_operand.farthest.now (rw c.in-Some.is at c.next_operand.ensures) far_is c.args.k c.in-Some-2.found c.in-Some-3.near found back c.in-Some-4.far (sym c.in-Some-4.is ∙ c.in_ok-far-in-Some-3.ensures.answer) (sym c.reaches.ensures ∙ c.if-reaches.true) (join c.args.direction c.in-Some-3.near c.in-Some-4.far) refl)

pub chains::followed_by_far_sides-returns-then-reaches-clause-answer : goal.chains::followed_by_far_sides-returns-then-reaches-clause-answer
chains::followed_by_far_sides-returns-then-reaches-clause-answer g t c =
    let far_is = rw c.opposite.ensures at (rw c.in-Some-next_operand.is at c.next_operand-2.ensures) in
    let found = rw c.access_by_far_sides.ensures at (sym c.in-Some-2.is ∙ c.in_ok-found.ensures.answer) in
    let back = rw c.opposite-2.ensures at (sym c.in-Some-3.is ∙ c.in_ok-walk.ensures.answer) in
    far_reached c.args.direction (g.C.CountedLeaves.text c.args.source.now) c.args.operands.now c.in-Some.after_nearest.now c.in-Some-next_operand.before_farthest.now c.in-Some.field-0-0.now c.in-Some-next_operand.farthest.now (rw c.in-Some.is at c.next_operand.ensures) far_is c.args.k c.in-Some-2.found c.in-Some-3.near found back c.in-Some-4.far (sym c.in-Some-4.is ∙ c.in_ok-far-in-Some-3.ensures.answer) (sym c.reaches.ensures ∙ c.if-reaches.true) c.join.result c.join.ensures

pub chains::followed_by_far_sides-returns-then-reaches-clause-cost : goal.chains::followed_by_far_sides-returns-then-reaches-clause-cost
chains::followed_by_far_sides-returns-then-reaches-clause-cost g t c =
    let far_costs = costs_beside c.opposite.result (g.C.CountedLeaves.text c.args.source.now) (g.C.CountedLeaves.most c.args.source.now) c.args.operands.now c.in-Some-next_operand.farthest.now c.in-Some-next_operand.before_farthest.now (rw c.in-Some-next_operand.is at c.next_operand-2.ensures) in
    let near_costs = costs_beside c.args.direction (g.C.CountedLeaves.text c.args.source.now) (g.C.CountedLeaves.most c.args.source.now) c.args.operands.now c.in-Some.field-0-0.now c.in-Some.after_nearest.now (rw c.in-Some.is at c.next_operand.ensures) in
    omega (arith, c.in_ok-found.ensures.cost, c.in_ok-walk.ensures.cost, c.in_ok-far-in-Some-3.ensures.cost)

pub chains::followed_by_far_sides-returns-else-reaches-clause-answer : goal.chains::followed_by_far_sides-returns-else-reaches-clause-answer
chains::followed_by_far_sides-returns-else-reaches-clause-answer g t c =
    let far_is = rw c.opposite.ensures at (rw c.in-Some-next_operand.is at c.next_operand-2.ensures) in
    let found = rw c.access_by_far_sides.ensures at (sym c.in-Some-2.is ∙ c.in_ok-found.ensures.answer) in
    let back = rw c.opposite-2.ensures at (sym c.in-Some-3.is ∙ c.in_ok-walk.ensures.answer) in
    IfOk-weaker c.next_past-else-reaches.result _ _ (λ reached at. far_short c.args.direction (g.C.CountedLeaves.text c.args.source.now) c.args.operands.now c.in-Some.after_nearest.now c.in-Some-next_operand.before_farthest.now c.in-Some.field-0-0.now c.in-Some-next_operand.farthest.now (rw c.in-Some.is at c.next_operand.ensures) far_is c.args.k c.in-Some-2.found c.in-Some-3.near found back c.in-Some-4.far (sym c.in-Some-4.is ∙ c.in_ok-far-in-Some-3.ensures.answer) (sym c.reaches.ensures ∙ c.if-reaches.false) reached at) c.next_past-else-reaches.ensures.answer

pub chains::followed_by_far_sides-returns-else-reaches-clause-cost : goal.chains::followed_by_far_sides-returns-else-reaches-clause-cost
chains::followed_by_far_sides-returns-else-reaches-clause-cost g t c =
    let far_costs = costs_beside c.opposite.result (g.C.CountedLeaves.text c.args.source.now) (g.C.CountedLeaves.most c.args.source.now) c.args.operands.now c.in-Some-next_operand.farthest.now c.in-Some-next_operand.before_farthest.now (rw c.in-Some-next_operand.is at c.next_operand-2.ensures) in
    let near_costs = costs_beside c.args.direction (g.C.CountedLeaves.text c.args.source.now) (g.C.CountedLeaves.most c.args.source.now) c.args.operands.now c.in-Some.field-0-0.now c.in-Some.after_nearest.now (rw c.in-Some.is at c.next_operand.ensures) in
    IfOk-weaker c.next_past-else-reaches.result _ _ (λ reached at. omega (arith, c.in_ok-found.ensures.cost, c.in_ok-walk.ensures.cost, c.in_ok-far-in-Some-3.ensures.cost, at)) c.next_past-else-reaches.ensures.cost

-- an answer that is known
pub known::known_access-returns-in-Some-clause-answer : goal.known::known_access-returns-in-Some-clause-answer
known::known_access-returns-in-Some-clause-answer g t c =
    (told_is c.args.wanted (concordance (g.C.CountedLeaves.text c.args.source.now) (form_of c.args.expr.now)) c.args.known.now c.requires.known c.args.k c.in-Some.answer c.in-Some.ensures).0

pub known::known_access-returns-in-Some-clause-within : goal.known::known_access-returns-in-Some-clause-within
known::known_access-returns-in-Some-clause-within g t c =
    (told_is c.args.wanted (concordance (g.C.CountedLeaves.text c.args.source.now) (form_of c.args.expr.now)) c.args.known.now c.requires.known c.args.k c.in-Some.answer c.in-Some.ensures).1

-- where "containing" may begin
pub containments::element_behind_answer-returns-then-k-element-clause-begins : goal.containments::element_behind_answer-returns-then-k-element-clause-begins
containments::element_behind_answer-returns-then-k-element-clause-begins g t c =
    let text = g.C.CountedLeaves.text c.args.source.now in
    let behind = (rw c.in-Some-3.is at c.in_ok-element.ensures.answer) ∙ ap (λ (a : Extent). first_end (concordance text (form_of c.args.first.now)) a.end) c.answer.view_is in
    let at = ap (λ (a : Extent). a.start) c.element.view_is in
    let from = c.if-k-element.true in
    let low : c.args.k ≤ c.in-Some-3.element.start = omega arith in
    element_begins text (form_of c.args.first.now) (form_of c.args.second.now) c.args.k c.in-Some-2.answer (sym c.in-Some-2.is ∙ c.in_ok-answer.ensures.answer) c.in-Some-3.element behind low
