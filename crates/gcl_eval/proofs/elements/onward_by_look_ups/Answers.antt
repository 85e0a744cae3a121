use Rattle.std.proofs.Common.{◌≡◌, ◌+◌, Some, sym, ◌∙◌, subst, arith}
use Rattle.gcl_model.specs.Texts.{previous_place}
use Rattle.gcl_eval.specs.Elements.{LeadsTo}
use Rattle.gcl_eval.specs.declared.direction.Access.TheVariants.{LastEnd}
use Rattle.gcl_eval.proofs.ElementLemmas.{place_below, end_above, back_below, no_place}
use Rattle.gcl_eval.proofs.elements.onward_by_look_ups.Goals as goal

-- the last first token before it lies within the addresses
pub overflow_add-start : goal.overflow_add-start
overflow_add-start g c =
    let within = place_below LastEnd (g.C.CountedLeaves.text c.args.source.now) c.in_ok-found.ensures.sound c.args.first.now c.in-Some-checked_sub.behind c.in-Some-2.start (sym c.in-Some-2.is ∙ c.in_ok-start.ensures.answer) in
    omega arith

-- the second token is after it
pub returns-in_default-3-clause-few : goal.returns-in_default-3-clause-few
returns-in_default-3-clause-few g c =
    let before = (rw c.in-Some-checked_sub.is at c.checked_sub.ensures) in
    let near = back_below (g.C.CountedLeaves.text c.args.source.now) c.args.first.now c.args.second.now c.in_ok-found.ensures.sound c.in-Some-checked_sub.behind c.in-Some-2.start (sym c.in-Some-2.is ∙ c.in_ok-start.ensures.answer) in
    absurd (no_place (g.C.CountedLeaves.text c.args.source.now) c.args.first.now c.args.second.now c.in_ok-found.ensures.sound c.args.k (c.in-Some-2.start + 1) c.in-Some.found (sym c.in-Some.is ∙ c.in_ok-found.ensures.answer) (omega (arith, near, before.0)) (sym c.in_default-3.is ∙ c.in_ok-end.ensures.answer))

-- the element ends after its start
pub new-requires : goal.new-requires
new-requires g c =
    let above = end_above (g.C.CountedLeaves.text c.args.source.now) c.args.first.now c.args.second.now c.in_ok-found.ensures.sound (c.in-Some-2.start + 1) c.in-Some-3.end (sym c.in-Some-3.is ∙ c.in_ok-end.ensures.answer) in
    omega arith

pub returns-clause-onward : goal.returns-clause-onward
returns-clause-onward g c =
    let text = g.C.CountedLeaves.text c.args.source.now in
    let before = (rw c.in-Some-checked_sub.is at c.checked_sub.ensures) in
    subst (LeadsTo text.words c.args.first.now c.args.second.now c.args.from c.args.k) (sym c.new.ensures) (record {
      at = c.in-Some.found;
      found = (sym c.in-Some.is ∙ c.in_ok-found.ensures.answer);
      behind = omega (arith, before.0);
      back = subst (λ n. Some c.in-Some-2.start ≡ previous_place text.words c.args.first.now n) before.1 (sym c.in-Some-2.is ∙ c.in_ok-start.ensures.answer);
      on = (sym c.in-Some-3.is ∙ c.in_ok-end.ensures.answer);
      later = omega (arith, c.if-start-from.false);
    })
