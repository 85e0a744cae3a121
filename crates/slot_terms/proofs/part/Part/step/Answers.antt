use Rattle.std.proofs.Common.{◌+◌, drop, refl, ap, ◌∙◌}
use Rattle.slot_terms.specs.Parts.{PartContent}
use Rattle.slot_terms.proofs.Firsts.{left_next}
use Rattle.slot_terms.proofs.Heads.{part_content}
use Rattle.slot_terms.proofs.part.Part.step.Goals as goal

pub returns-then-self-term_count : goal.returns-then-self-term_count
returns-then-self-term_count c =
    let table = c.self.inside.shard.now.table in
    let next = c.self.inside.next in
    ap (part_content c.self.inside.mask) (left_next table next (next + 1) refl) ∙ ap (λ (p : PartContent). part_content p.mask (drop 1 p.left)) c.self.view_is
