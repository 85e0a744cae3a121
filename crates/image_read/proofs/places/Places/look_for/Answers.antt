use Rattle.std.proofs.Common.{◌≡◌, ◌+◌, ◌-◌, Some, sym, subst, arith, ap, ◌∙◌}
use Rattle.std.specs.List.{prefix_len}
use Rattle.std.proofs.lemmas.Bool.{true≢false}
use Rattle.image_read.specs.Reading.{IsRankOf, SeenContent, role_in}
use Rattle.image_read.specs.Stretches.{AreInRow, ends_before}
use Rattle.image_read.proofs.StretchLemmas.{found_behind, found_none, found_other, found_rank, in_row, near_now, searched}
use Rattle.image_read.proofs.places.Places.look_for.Goals as goal
use Rattle.image_read.proofs.places.Places.look_for.Goals.{then-address-stretch-via-then-address-stretch, then-address-stretch-via-else-address-stretch+then-not-has_role}

pub ended_by-i-requires : goal.ended_by-i-requires
ended_by-i-requires c = subst AreInRow (sym (c.deref.ensures.value ∙ c.self.invariant.each)) (in_row 0 c.self.inside.files.now c.self.invariant.run)

pub returns-then-i-len-clause-none : goal.returns-then-i-len-clause-none
returns-then-i-len-clause-none c none =
    subst (λ (s : SeenContent). role_in s.files c.args.address ≡ Some c.args.role → ⊥) c.self.view_is
    (found_none c.self.inside.files.now c.self.inside.stretches.items c.args.address _ c.args.role c.self.invariant.run c.self.invariant.each
    (c.ended_by-i.ensures.value ∙ ap (prefix_len (ends_before c.args.address)) c.deref.ensures.value) (omega (arith, c.if-i-len.true, c.len.ensures, c.self.inside.stretches.ok)))

pub invariant_of-self : goal.invariant_of-self
invariant_of-self c =
    let found = searched _ _ _ _ _ c.args.address _ _ _ c.self.invariant c.deref.ensures.value c.ended_by-i.ensures.value c.ended_by-i.ensures.within (omega (arith, c.len.ensures, c.self.inside.stretches.ok)) c.if-i-len.false c.index-stretch.ensures in
    near_now _ _ _ _ _ _ _ _ c.self.invariant found.1

pub returns-then-address-stretch-clause-none : goal.returns-then-address-stretch-clause-none
returns-then-address-stretch-clause-none c none =
    let found = searched _ _ _ _ _ c.args.address _ _ _ c.self.invariant c.deref.ensures.value c.ended_by-i.ensures.value c.ended_by-i.ensures.within (omega (arith, c.len.ensures, c.self.inside.stretches.ok)) c.if-i-len.false c.index-stretch.ensures in
    subst (λ (s : SeenContent). role_in s.files c.args.address ≡ Some c.args.role → ⊥) c.self.view_is
    (elim c.then-address-stretch.branch [
      | then-address-stretch-via-then-address-stretch w ↦ found_behind _ _ _ _ _ _ c.self.invariant.run found.1 w.if-address-stretch.true
      | then-address-stretch-via-else-address-stretch+then-not-has_role w ↦ found_other _ _ _ _ _ _ found.1 w.if-address-stretch.false (λ same. true≢false (sym (w.has_role.ensures.1 same) ∙ w.if-not-has_role.true))
    ])

pub overflow_add-result : goal.overflow_add-result
overflow_add-result c =
    let found = searched _ _ _ _ _ c.args.address _ _ _ c.self.invariant c.deref.ensures.value c.ended_by-i.ensures.value c.ended_by-i.ensures.within (omega (arith, c.len.ensures, c.self.inside.stretches.ok)) c.if-i-len.false c.index-stretch.ensures in
    let rank = found_rank _ c.self.inside.seen _ _ _ _ c.args.role c.self.invariant.marks found.1 c.if-address-stretch.false (c.has_role.ensures.0 c.if-not-has_role.false) in
    let small = rank.marked in
    omega (arith, small, c.self.invariant.marks, c.self.invariant.small)

pub invariant_of-self-2 : goal.invariant_of-self-2
invariant_of-self-2 c =
    let found = searched _ _ _ _ _ c.args.address _ _ _ c.self.invariant c.deref.ensures.value c.ended_by-i.ensures.value c.ended_by-i.ensures.within (omega (arith, c.len.ensures, c.self.inside.stretches.ok)) c.if-i-len.false c.index-stretch.ensures in
    near_now _ _ _ _ _ _ _ _ c.self.invariant found.1

pub returns-clause-some : goal.returns-clause-some
returns-clause-some c =
    let found = searched _ _ _ _ _ c.args.address _ _ _ c.self.invariant c.deref.ensures.value c.ended_by-i.ensures.value c.ended_by-i.ensures.within (omega (arith, c.len.ensures, c.self.inside.stretches.ok)) c.if-i-len.false c.index-stretch.ensures in
    subst (λ (s : SeenContent). IsRankOf s.files s.seen c.args.address c.args.role (c.index-stretch.result.now.before + (c.args.address - c.index-stretch.result.now.first))) c.self.view_is
    (found_rank _ c.self.inside.seen _ _ _ _ c.args.role c.self.invariant.marks found.1 c.if-address-stretch.false (c.has_role.ensures.0 c.if-not-has_role.false))
