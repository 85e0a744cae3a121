use Rattle.std.proofs.Common.{◌≡◌, List, [], length, sym, ◌∙◌, subst, arith}
use Rattle.live_version.specs.Contents.{SlotContent, dead_of}
use Rattle.collection.proofs.ChangeLemmas.{merges-none, merges-one, merges-some, same-none}
use Rattle.collection.proofs.edits.merged.Goals as goal

pub with_slot-requires-clause-same : goal.with_slot-requires-clause-same
with_slot-requires-clause-same c =
    same-none c.args.last.now c.slot_count-count.result c.slot_count-count.ensures.version (sym c.file_count.ensures.value ∙ c.if-file_count-eq0.true) c.slot_count-count.ensures.value

pub returns-then-file_count-eq0 : goal.returns-then-file_count-eq0
returns-then-file_count-eq0 c =
    merges-none c.args.last.now c.in_ok-empty.empty c.slot_count-count.result (sym c.file_count.ensures.value ∙ c.if-file_count-eq0.true) c.slot_count-count.ensures.value c.in_ok-empty.ensures.value c.in_ok-empty.ensures.stands

pub returns-then-is_one_slot : goal.returns-then-is_one_slot
returns-then-is_one_slot c =
    let slots = c.slots.ensures.value in
    let one : length c.args.last.now.slots ≡ 1 = subst (λ (ss : List SlotContent). length ss ≡ 1) slots (c.is_one_slot.ensures.one c.if-is_one_slot.true) in
    let alive : dead_of c.args.last.now.slots ≡ [] = subst (λ (ss : List SlotContent). dead_of ss ≡ []) slots (c.is_one_slot.ensures.alive c.if-is_one_slot.true) in
    merges-one c.args.last.now c.in_ok-kept.kept (omega (arith, c.file_count.ensures.value, c.if-file_count-eq0.false)) one alive c.in_ok-kept.ensures.value c.in_ok-kept.ensures.stands

pub returns : goal.returns
returns c =
    merges-some c.args.last.now c.in_ok-version.version c.slot_count-count.result c.in_ok-slot.slot (omega (arith, c.file_count.ensures.value, c.if-file_count-eq0.false)) c.slot_count-count.ensures.value
    c.in_ok-slot.ensures.range c.in_ok-slot.ensures.mask c.in_ok-version.ensures.value c.in_ok-version.ensures.stands
