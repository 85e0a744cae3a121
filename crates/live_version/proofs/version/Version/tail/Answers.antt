use Rattle.std.proofs.Common.{◌≡◌, ◌-◌, ◌*◌, ◌<◌, suc, true, false, nat_le, length, List, take, reverse, Some, sym, ap, ◌∙◌, subst, arith, refl}
use Rattle.std.proofs.lemmas.Option.{slice_get_read}
use Rattle.gcl_model.specs.Slots.{SlotRange, slot_range, slot_width, joined_count, tail_count, AreRangesWithin}
use Rattle.live_version.specs.Contents.{SlotContent, ranges_of}
use Rattle.live_version.proofs.PlaceLemmas.{begins_before}
use Rattle.live_version.proofs.Tails.{counted_joined, counted_alone}
use Rattle.live_version.proofs.version.Version.tail.Goals as goal
use Rattle.live_version.proofs.version.Version.tail.Goals.{then-loop-at-test+else-is_joined, else-loop-at-test}

pub loop-at-preserved : goal.loop-at-preserved
loop-at-preserved c =
    let v = c.args.self.now in
    let slots = c.slots-slots.result.now in
    let at = c.loop-at.at in
    let tested = c.index-slots-at.result in
    let slot = c.index-slots-at-in-loop-at.result in
    let last = c.index-slots-count.result in
    let within : at < length slots = c.loop-at.invariant.within in
    let some : suc (at - 1) ≡ at = omega arith in
    let there : Some tested ≡ Some slot = sym (slice_get_read slots (length slots) (at - 1) tested refl (omega arith) c.index-slots-at.is) ∙ slice_get_read slots (length slots) (at - 1) slot refl (omega arith) c.index-slots-at-in-loop-at.is in
    let same : tested ≡ slot = cc in
    let first : c.first.inside.first ≡ slot.range.first = ap (λ (r : SlotRange). r.first) (c.first.view_is ∙ c.range-in-loop-at.ensures.value) in
    let end : c.end.inside.last ≡ last.range.last = ap (λ (r : SlotRange). r.last) (c.end.view_is ∙ c.range-end.ensures.value) in
    let test : nat_le (slot_width slot.range) (4 * slot_width (slot_range c.loop-at.first c.end.inside.last)) ≡ true =
    ap (λ (s : SlotContent). nat_le (slot_width s.range) (4 * slot_width (slot_range c.loop-at.first c.end.inside.last))) (sym same)
    ∙ ap (λ r. nat_le (slot_width r) (4 * slot_width (slot_range c.loop-at.first c.end.inside.last))) (sym c.range.ensures.value) ∙ sym c.is_joined.ensures ∙ c.if-is_joined.true in
    let apart = subst (λ (ss : List SlotContent). AreRangesWithin v.first v.next (ranges_of ss)) (sym c.slots-slots.ensures.value) c.slots-slots.ensures.version.apart in
    let begins = begins_before v.first v.next slots (at - 1) (length slots - 1) slot last apart (omega arith) (omega arith) c.index-slots-at-in-loop-at.is c.index-slots-count.is in
    let more = counted_joined slots at (at - 1) slot c.loop-at.first c.end.inside.last some (omega arith) c.index-slots-at-in-loop-at.is test in
    let before = c.loop-at.invariant.same in
    let now : joined_count (slot_range slot.range.first c.end.inside.last) (reverse (ranges_of (take (at - 1) slots))) ≡ joined_count (slot_range c.first.inside.first c.end.inside.last) (reverse (ranges_of (take (at - 1) slots))) =
    ap (λ n. joined_count (slot_range n c.end.inside.last) (reverse (ranges_of (take (at - 1) slots)))) (sym first) in
    record { within = omega arith; ordered = omega arith; same = omega arith }

pub returns-clause-value : goal.returns-clause-value
returns-clause-value c =
    let slots = c.slots-slots.result.now in
    let at = c.loop-at.at in
    let whole = ap (λ ss. tail_count (ranges_of ss)) c.slots-slots.ensures.value in
    let within : at < length slots = c.loop-at.invariant.within in
    let before = c.loop-at.invariant.same in
    elim c.loop-at-test.branch [
      | then-loop-at-test+else-is_joined w ↦
          let tested = w.index-slots-at.result in
          let some : suc (at - 1) ≡ at = omega arith in
          let test : nat_le (slot_width tested.range) (4 * slot_width (slot_range c.loop-at.first c.end.inside.last)) ≡ false =
          ap (λ r. nat_le (slot_width r) (4 * slot_width (slot_range c.loop-at.first c.end.inside.last))) (sym w.range.ensures.value) ∙ sym w.is_joined.ensures ∙ w.if-is_joined.false in
          let one = counted_alone slots at (at - 1) tested c.loop-at.first c.end.inside.last some (omega arith) w.index-slots-at.is test in
          omega arith
      | else-loop-at-test w ↦
          let zero : at ≡ 0 = omega arith in
          let one = ap (λ n. joined_count (slot_range c.loop-at.first c.end.inside.last) (reverse (ranges_of (take n slots)))) zero in
          omega arith
    ]
