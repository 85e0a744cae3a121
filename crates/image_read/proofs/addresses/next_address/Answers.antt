use Rattle.std.proofs.Common.{sym, ◌∙◌, arith}
use Rattle.std.proofs.lemmas.Bool.{true≢false}
use Rattle.image_read.proofs.AddressTracking.{next_met, next_refused}
use Rattle.image_read.proofs.addresses.next_address.Goals as goal
use Rattle.image_read.proofs.addresses.next_address.Goals.{then-address-least-via-then-address-least, then-address-least-via-else-address-least+then-head-address, then-address-least-via-else-address-least+else-head-address+then-not-see}

pub returns-then-address-least-clause-none : goal.returns-then-address-least-clause-none
returns-then-address-least-clause-none c none =
    next_refused c.args.before c.args.least c.args.head.next c.in_ok-gap.gap.value c.args.places.now c.args.role c.args.bytes.now _ c.requires.in_range c.requires.after c.in_ok-gap.ensures.some
    (elim c.then-address-least.branch [
      | then-address-least-via-then-address-least w ↦ λ from below place fresh. omega (arith, from, w.if-address-least.true)
      | then-address-least-via-else-address-least+then-head-address w ↦ λ from below place fresh. omega (arith, below, w.if-head-address.true)
      | then-address-least-via-else-address-least+else-head-address+then-not-see w ↦ λ from below place fresh. true≢false (sym (w.see.ensures.refused w.if-not-see.true place) ∙ fresh)
    ])

pub returns-clause-some : goal.returns-clause-some
returns-clause-some c =
    next_met c.args.before c.args.least c.args.head.next c.in_ok-gap.gap.value c.args.places.now _ c.args.role _ _ c.in_ok-gap.ensures.some c.if-address-least.false c.if-head-address.false
    (c.see.ensures.may c.if-not-see.false) (c.see.ensures.fresh c.if-not-see.false) (c.see.ensures.sees c.if-not-see.false)
