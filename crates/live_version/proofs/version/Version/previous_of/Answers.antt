use Rattle.std.proofs.Common.{◌≡◌, ◌-◌, suc, length, slice_get, ap, sym, ◌∙◌, take, arith, refl}
use Rattle.std.proofs.lemmas.Option.{slice_get_read}
use Rattle.gcl_model.specs.Texts.{previous_place}
use Rattle.live_version.specs.Contents.{live_of}
use Rattle.live_version.specs.LookUps.{look_ups}
use Rattle.live_version.proofs.WordLemmas.{version_is_text, previous_upto, take_here, look_ups-push, look_ups-take, look_ups_most, previous_in_last, previous_in_rest}
use Rattle.live_version.proofs.version.Version.previous_of.Goals as goal

pub loop-left-init : goal.loop-left-init
loop-left-init g c =
    let v = c.args.self.now in
    let term = g.T.LookUp.term c.args.term.now in
    let slots = c.slots-slots.ensures.value in
    let n = c.begun_upto-left.result in
    let whole = ap length slots in
    let le = c.begun_upto-left.ensures.within in
    record {
      within = omega arith;
      same = ap (λ ss. previous_place (live_of (take n ss)) term c.args.k) slots ∙ ap (λ m. previous_place (live_of (take m v.slots)) term c.args.k) c.begun_upto-left.ensures.value
          ∙ previous_upto v.first v.next v.slots term c.args.k c.slots-slots.ensures.version.apart c.slots-slots.ensures.version.slots ∙ sym (ap (λ ss. previous_place (live_of ss) term c.args.k) slots);
      counted = omega arith;
      cost = omega (arith, look_ups-take n c.slots-slots.result.now);
    }

pub prev-requires : goal.prev-requires
prev-requires g c =
    let within = c.loop-left.invariant.within in
    c.requires (c.loop-left.left - 1) c.index-slots-left.result
    (ap (λ ss. slice_get ss (c.loop-left.left - 1)) (sym c.slots-slots.ensures.value) ∙ slice_get_read c.slots-slots.result.now (length c.slots-slots.result.now) (c.loop-left.left - 1) c.index-slots-left.result refl (omega arith) c.index-slots-left.is)

pub returns-in-Some-clause-answer : goal.returns-in-Some-clause-answer
returns-in-Some-clause-answer g c =
    let term = g.T.LookUp.term c.args.term.now in
    let slots = c.slots-slots.result.now in
    let left = c.loop-left.left in
    let slot = c.index-slots-left.result in
    let within = c.loop-left.invariant.within in
    let at : suc (left - 1) ≡ left = omega arith in
    previous_in_last (take (left - 1) slots) slot term c.args.k c.in-Some.p c.in-Some.ensures.answer
    ∙ ap (λ ss. previous_place (live_of ss) term c.args.k) (sym (take_here slots (left - 1) slot (omega arith) c.index-slots-left.is))
    ∙ ap (λ n. previous_place (live_of (take n slots)) term c.args.k) at
    ∙ c.loop-left.invariant.same
    ∙ ap (λ ss. previous_place (live_of ss) term c.args.k) c.slots-slots.ensures.value

pub returns-in-Some-clause-cost : goal.returns-in-Some-clause-cost
returns-in-Some-clause-cost g c =
    let slots = c.slots-slots.result.now in
    let left = c.loop-left.left in
    let slot = c.index-slots-left.result in
    let within = c.loop-left.invariant.within in
    let at : suc (left - 1) ≡ left = omega arith in
    let here = take_here slots (left - 1) slot (omega arith) c.index-slots-left.is in
    let whole = ap (λ n. look_ups (take n slots)) (sym at) ∙ ap look_ups here ∙ look_ups-push (take (left - 1) slots) slot in
    let all = ap look_ups c.slots-slots.ensures.value in
    let most = look_ups_most c.args.self.now c.slots-slots.ensures.version in
    let cost = c.prev.ensures.cost in
    let before = c.loop-left.invariant.cost in
    omega arith

pub loop-left-preserved : goal.loop-left-preserved
loop-left-preserved g c =
    let term = g.T.LookUp.term c.args.term.now in
    let slots = c.slots-slots.result.now in
    let left = c.loop-left.left in
    let slot = c.index-slots-left.result in
    let rest = take (left - 1) slots in
    let within = c.loop-left.invariant.within in
    let at : suc (left - 1) ≡ left = omega arith in
    let here = take_here slots (left - 1) slot (omega arith) c.index-slots-left.is in
    let none = sym c.in_default.is ∙ c.prev.ensures.answer in
    let step = c.prev.ensures.cost in
    let counted = c.prev.ensures.counted in
    let before = c.loop-left.invariant.cost in
    let from = c.loop-left.invariant.counted in
    let whole = ap (λ n. look_ups (take n slots)) (sym at) ∙ ap look_ups here ∙ look_ups-push rest slot in
    record {
      within = omega arith;
      same = sym (previous_in_rest rest slot term c.args.k none) ∙ ap (λ ss. previous_place (live_of ss) term c.args.k) (sym here)
          ∙ ap (λ n. previous_place (live_of (take n slots)) term c.args.k) at ∙ c.loop-left.invariant.same;
      counted = omega arith;
      cost = omega arith;
    }

pub returns-clause-answer : goal.returns-clause-answer
returns-clause-answer g c =
    let term = g.T.LookUp.term c.args.term.now in
    let zero : c.loop-left.left ≡ 0 = omega arith in
    sym (ap (λ n. previous_place (live_of (take n c.slots-slots.result.now)) term c.args.k) zero) ∙ c.loop-left.invariant.same
    ∙ ap (λ ss. previous_place (live_of ss) term c.args.k) c.slots-slots.ensures.value

pub returns-clause-cost : goal.returns-clause-cost
returns-clause-cost g c =
    let all = ap look_ups c.slots-slots.ensures.value in
    let most = look_ups_most c.args.self.now c.slots-slots.ensures.version in
    let before = c.loop-left.invariant.cost in
    omega arith

pub returns-in-Some-clause-sound : goal.returns-in-Some-clause-sound
returns-in-Some-clause-sound g c = version_is_text c.args.self.now c.slots-slots.ensures.version

pub returns-clause-sound : goal.returns-clause-sound
returns-clause-sound g c = version_is_text c.args.self.now c.slots-slots.ensures.version
