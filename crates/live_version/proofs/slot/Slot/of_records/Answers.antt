use Rattle.std.proofs.Common.{ap, ◌∙◌}
use Rattle.live_version.proofs.SlotLemmas.{new_slot}
use Rattle.live_version.proofs.slot.Slot.of_records.Goals as goal

pub invariant_of-result : goal.invariant_of-result
invariant_of-result c =
    let parts = c.in_ok-parts.ensures.ok in
    new_slot c.args.range c.args.shard c.in_ok-parts.parts.value.shard.value c.in_ok-parts.parts.value.mask c.args.files c.in_ok-parts.parts.value.files c.known.ensures c.requires.indexed c.requires.files c.requires.owned
    (ap (λ p. p.shard.value) parts ∙ c.in_ok-shard.ensures.ok) (ap (λ p. p.mask) parts ∙ c.new-mask.ensures) (ap (λ p. p.files) parts)

pub returns-clause-slot : goal.returns-clause-slot
returns-clause-slot c =
    let parts = c.in_ok-parts.ensures.ok in
    new_slot c.args.range c.args.shard c.in_ok-parts.parts.value.shard.value c.in_ok-parts.parts.value.mask c.args.files c.in_ok-parts.parts.value.files c.known.ensures c.requires.indexed c.requires.files c.requires.owned
    (ap (λ p. p.shard.value) parts ∙ c.in_ok-shard.ensures.ok) (ap (λ p. p.mask) parts ∙ c.new-mask.ensures) (ap (λ p. p.files) parts)
