use Rattle.std.proofs.Common.{◌≡◌, ◌++◌, ◌∷◌, [], sym, ap, ◌∙◌, subst}
use Rattle.std.specs.List.{AllByRecursion}
use Rattle.index_shard.proofs.TableLaws.{all_push}
use Rattle.slot_terms.specs.Parts.{IsPart, part_of}
use Rattle.slot_terms.proofs.Loops.{map_item}
use Rattle.slot_terms.proofs.terms.SlotTerms.new.Goals as goal

pub loop-slot-preserved : goal.loop-slot-preserved
loop-slot-preserved c =
    let slot = c.slot-item.result in
    let mask = c.in_ok-mask.ensures ∙ c.mask.ensures.value in
    let shard = c.shard.ensures.value in
    let part : c.new.result ≡ part_of slot =
    c.new.ensures ∙ ap (λ m. record { mask = m; left = c.shard.result.now.table }) mask ∙ ap (λ s. record { mask = slot.mask; left = s.table }) shard in
    let put : c.push.new.self.items ≡ c.loop-slot.parts.items ++ part_of slot ∷ [] = c.in_ok-push.ensures.items ∙ ap (λ p. c.loop-slot.parts.items ++ p ∷ []) part in
    record {
      same = map_item part_of c.args.slots.now c.loop-slot.slot-index c.loop-slot.parts.items c.push.new.self.items slot c.loop-slot-test.true c.slot-item.is c.loop-slot.invariant.same put;
      tables = subst (AllByRecursion IsPart) (sym put) (all_push IsPart c.loop-slot.parts.items (part_of slot) c.loop-slot.invariant.tables (slot.shard.range, c.shard.ensures.slot.shard.table));
    }
