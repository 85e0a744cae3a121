use Rattle.std.proofs.Common.{◌+◌, slice_get, ap, sym, ◌∙◌, drop, arith, length, refl}
use Rattle.std.proofs.lemmas.List.{drop_all}
use Rattle.std.proofs.lemmas.Option.{slice_get_read}
use Rattle.gcl_model.specs.Texts.{next_place}
use Rattle.gcl_model.proofs.Lists.{drop_here}
use Rattle.live_version.specs.Contents.{live_of}
use Rattle.live_version.specs.LookUps.{look_ups}
use Rattle.live_version.proofs.WordLemmas.{version_is_text, next_from, look_ups-cons, look_ups-drop, look_ups_most, next_in_first, next_in_rest}
use Rattle.live_version.proofs.version.Version.next_of.Goals as goal

pub loop-number-init : goal.loop-number-init
loop-number-init g c =
    let v = c.args.self.now in
    let term = g.T.LookUp.term c.args.term.now in
    let slots = c.slots-slots.ensures.value in
    let n = c.ended_before-number.result in
    record {
      same = ap (λ ss. next_place (live_of (drop n ss)) term c.args.k) slots ∙ ap (λ m. next_place (live_of (drop m v.slots)) term c.args.k) c.ended_before-number.ensures.value
          ∙ next_from v.slots term c.args.k c.slots-slots.ensures.version.slots ∙ sym (ap (λ ss. next_place (live_of ss) term c.args.k) slots);
      counted = omega arith;
      cost = omega (arith, look_ups-drop n c.slots-slots.result.now);
    }

pub next-requires : goal.next-requires
next-requires g c =
    c.requires c.loop-number.number c.index-slots-number.result
    (ap (λ ss. slice_get ss c.loop-number.number) (sym c.slots-slots.ensures.value) ∙ slice_get_read c.slots-slots.result.now (length c.slots-slots.result.now) c.loop-number.number c.index-slots-number.result refl (omega arith) c.index-slots-number.is)

pub returns-in-Some-clause-answer : goal.returns-in-Some-clause-answer
returns-in-Some-clause-answer g c =
    let term = g.T.LookUp.term c.args.term.now in
    let slots = c.slots-slots.result.now in
    let i = c.loop-number.number in
    let slot = c.index-slots-number.result in
    next_in_first slot (drop (i + 1) slots) term c.args.k c.in-Some.p c.in-Some.ensures.answer
    ∙ ap (λ ss. next_place (live_of ss) term c.args.k) (sym (drop_here slots i slot (omega arith) c.index-slots-number.is))
    ∙ c.loop-number.invariant.same
    ∙ ap (λ ss. next_place (live_of ss) term c.args.k) c.slots-slots.ensures.value

pub returns-in-Some-clause-cost : goal.returns-in-Some-clause-cost
returns-in-Some-clause-cost g c =
    let slots = c.slots-slots.result.now in
    let i = c.loop-number.number in
    let slot = c.index-slots-number.result in
    let whole = ap look_ups (drop_here slots i slot (omega arith) c.index-slots-number.is) ∙ look_ups-cons slot (drop (i + 1) slots) in
    let all = ap look_ups c.slots-slots.ensures.value in
    let most = look_ups_most c.args.self.now c.slots-slots.ensures.version in
    let cost = c.next.ensures.cost in
    let before = c.loop-number.invariant.cost in
    omega arith

pub loop-number-preserved : goal.loop-number-preserved
loop-number-preserved g c =
    let term = g.T.LookUp.term c.args.term.now in
    let slots = c.slots-slots.result.now in
    let i = c.loop-number.number in
    let slot = c.index-slots-number.result in
    let here = drop_here slots i slot (omega arith) c.index-slots-number.is in
    let rest = drop (i + 1) slots in
    let none = sym c.in_default.is ∙ c.next.ensures.answer in
    let step = c.next.ensures.cost in
    let counted = c.next.ensures.counted in
    let before = c.loop-number.invariant.cost in
    let from = c.loop-number.invariant.counted in
    let whole = ap look_ups here ∙ look_ups-cons slot rest in
    record {
      same = sym (next_in_rest slot rest term c.args.k none) ∙ ap (λ ss. next_place (live_of ss) term c.args.k) (sym here) ∙ c.loop-number.invariant.same;
      counted = omega arith;
      cost = omega arith;
    }

pub returns-clause-answer : goal.returns-clause-answer
returns-clause-answer g c =
    let term = g.T.LookUp.term c.args.term.now in
    let none = drop_all c.loop-number.number c.slots-slots.result.now (omega arith) in
    sym (ap (λ ss. next_place (live_of ss) term c.args.k) none) ∙ c.loop-number.invariant.same ∙ ap (λ ss. next_place (live_of ss) term c.args.k) c.slots-slots.ensures.value

pub returns-clause-cost : goal.returns-clause-cost
returns-clause-cost g c =
    let all = ap look_ups c.slots-slots.ensures.value in
    let most = look_ups_most c.args.self.now c.slots-slots.ensures.version in
    let before = c.loop-number.invariant.cost in
    omega arith

pub returns-in-Some-clause-sound : goal.returns-in-Some-clause-sound
returns-in-Some-clause-sound g c = version_is_text c.args.self.now c.slots-slots.ensures.version

pub returns-clause-sound : goal.returns-clause-sound
returns-clause-sound g c = version_is_text c.args.self.now c.slots-slots.ensures.version
