use Rattle.std.proofs.Common.{◌≡◌, ℕ, ◌<◌, List, ◌++◌, length, drop, refl, sym, ap, subst, ◌∙◌, arith, append-nil}
use Rattle.std.specs.List.{concat}
use Rattle.std.proofs.lemmas.List.{nil_from_length}
use Rattle.gcl_model.specs.Slots.{SlotRange, slot_range}
use Rattle.slot_terms.specs.Parts.{alive}
use Rattle.slot_terms.proofs.Between.{IsBetween, IsParted, between_apart, between_goes, between_ends, between_passes}
use Rattle.slot_terms.proofs.Firsts.{concat_push}
use Rattle.slot_terms.proofs.part.lend_between.Goals as goal

pub loop-range-preserved : goal.loop-range-preserved
loop-range-preserved c =
    let parted : IsParted (slot_range c.range.inside.first c.range.inside.last) c.loop-range.rest c.split-live.result.0 c.split-live.result.1 c.split.result.0 c.split.result.1 = record {
      whole = c.split-live.ensures.whole;
      below = c.split-live.ensures.below;
      from = c.split-live.ensures.from;
      others_are = c.split.ensures.whole;
      within = c.split.ensures.below;
      behind = c.split.ensures.from;
    } in
    let parted = subst (λ (r : SlotRange). IsParted r c.loop-range.rest c.split-live.result.0 c.split-live.result.1 c.split.result.0 c.split.result.1) c.range.view_is parted in
    between_goes c.args.ranges.now c.args.block (concat c.args.lists.now.items) (concat c.loop-range.lists.items) c.loop-range.rest (concat c.push-in-loop-range.new.self.items) c.split-live.result.0 c.split-live.result.1 c.split.result.0 c.split.result.1
    c.loop-range.range-index c.range-item.result c.loop-range-test.true c.range-item.is c.requires.apart c.loop-range.invariant parted
    (ap concat c.in_ok-push-2.ensures.items ∙ concat_push c.loop-range.lists.items c.split-live.result.0)

pub returns-then-last-range : goal.returns-then-last-range
returns-then-last-range c =
    let range = c.range-item.result in
    between_apart c.args.ranges.now c.args.block (concat c.args.lists.now.items) (concat c.loop-range.lists.items) c.loop-range.rest (concat c.push.new.self.items) c.loop-range.range-index range c.loop-range-test.true
    c.range-item.is c.requires.apart c.len.ensures.rising (subst (λ l. l < range.first) c.last.ensures (subst (λ (r : SlotRange). c.last.result < r.first) c.range.view_is c.if-last-range.true)) c.loop-range.invariant
    (ap concat c.in_ok-push.ensures.items ∙ concat_push c.loop-range.lists.items c.loop-range.rest)

pub returns : goal.returns
returns c =
    ap concat c.in_ok-push-3.ensures.items
    ∙ concat_push c.loop-range.lists.items c.loop-range.rest
    ∙ between_ends c.args.ranges.now c.args.block (concat c.args.lists.now.items) (concat c.loop-range.lists.items) c.loop-range.rest c.loop-range.range-index c.loop-range-test.false c.loop-range.invariant

pub loop-range-preserved-then-len : goal.loop-range-preserved-then-len
loop-range-preserved-then-len c =
    let parted : IsParted (slot_range c.range.inside.first c.range.inside.last) c.loop-range.rest c.split-live.result.0 c.split-live.result.1 c.split.result.0 c.split.result.1 = record {
      whole = c.split-live.ensures.whole;
      below = c.split-live.ensures.below;
      from = c.split-live.ensures.from;
      others_are = c.split.ensures.whole;
      within = c.split.ensures.below;
      behind = c.split.ensures.from;
    } in
    let parted = subst (λ (r : SlotRange). IsParted r c.loop-range.rest c.split-live.result.0 c.split-live.result.1 c.split.result.0 c.split.result.1) c.range.view_is parted in
    between_passes c.args.ranges.now c.args.block (concat c.args.lists.now.items) (concat c.loop-range.lists.items) c.loop-range.rest c.split-live.result.0 c.split-live.result.1 c.split.result.0 c.split.result.1
    c.loop-range.range-index c.range-item.result c.loop-range-test.true c.range-item.is c.requires.apart c.loop-range.invariant parted
    (omega (arith, c.if-len.true, c.len-in-loop-range.ensures.value, c.len-in-loop-range-2.ensures.value))

-- if nothing is left, all is put
between_none : (ranges : List SlotRange) (block out put rest : List ℕ) (i : ℕ) → length rest ≡ 0 → IsBetween ranges block out put rest i → put ≡ out ++ alive ranges block
between_none ranges block out put rest i none was = sym (append-nil put) ∙ ap (λ l. put ++ alive (drop i ranges) l) (sym (nil_from_length rest none)) ∙ was.all

pub loop-range-init : goal.loop-range-init
loop-range-init c = record { all = refl; few = c.requires.few }

pub returns-then-len-eq0 : goal.returns-then-len-eq0
returns-then-len-eq0 c =
    between_none c.args.ranges.now c.args.block (concat c.args.lists.now.items) (concat c.loop-range.lists.items) c.loop-range.rest c.loop-range.range-index (sym c.len.ensures.value ∙ c.if-len-eq0.true) c.loop-range.invariant
