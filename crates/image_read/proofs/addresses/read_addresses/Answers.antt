use Rattle.std.proofs.Common.{◌+◌, ◌-◌, ◌++◌, List, refl, sym, subst, arith, ap, ◌∙◌, ℕ}
use Rattle.posting_code.specs.Numbers.{spelling}
use Rattle.image_read.specs.Reading.{HasNoNextAddress, IsNextAddress}
use Rattle.image_read.proofs.AddressTracking.{address_rises, addresses_as, addresses_begin, addresses_end, addresses_none, addresses_step, addresses_stop, addresses_uncounted, last_read}
use Rattle.image_read.proofs.addresses.read_addresses.Goals as goal

pub returns-in_default-clause-none : goal.returns-in_default-clause-none
returns-in_default-clause-none c none = addresses_uncounted _ _ _ _ _ _ c.requires.in_range (c.in_default.ensures.none refl)

pub returns-in_default-next_address-clause-none : goal.returns-in_default-next_address-clause-none
returns-in_default-next_address-clause-none c none =
    addresses_none _ _ _ _ _ _ _ _ c.requires.in_range c.in-Some.ensures.some
    (addresses_stop _ _ _ _ _ _ _ _ _ _ _ _ c.in-Some.ensures.some.some (addresses_begin _ _ _ _ _ _ c.requires.ordered) (c.in_default-next_address.ensures.none refl))

pub loop-i-init : goal.loop-i-init
loop-i-init c = (
  c.in-Some.count.rest.now,
  c.in-Some.ensures.some,
  addresses_as _ _ _ _ _ _ _ _ _ _ _ _ _ _
      (addresses_step _ _ _ _ _ _ _ _ _ _ _ _ _ _ _ c.requires.in_range c.in-Some.ensures.some.some (addresses_begin _ _ _ _ _ _ c.requires.ordered) c.in-Some-next_address.ensures.some)
      c.new-list.ensures.list c.new-list.ensures.rest,
)

pub returns-in_default-next_address-2-clause-none : goal.returns-in_default-next_address-2-clause-none
returns-in_default-next_address-2-clause-none c none =
    addresses_none _ _ _ _ _ _ _ _ c.requires.in_range c.loop-i.invariant.1
    (addresses_stop _ _ _ _ _ _ _ _ _ _ _ _ (omega (arith, c.loop-i-test.true)) c.loop-i.invariant.2
    (subst (HasNoNextAddress (c.loop-i.before + 1) c.args.head.next c.loop-i.places c.args.role c.loop-i.before) c.rest.ensures (c.in_default-next_address-2.ensures.none refl)))

pub pass-requires-clause-rising : goal.pass-requires-clause-rising
pass-requires-clause-rising c =
    let met = c.in-Some-next_address-2.ensures.some in
    address_rises _ _ _ _ _ _ _ _ _ _ _ _ _ c.requires.in_range c.loop-i.invariant.2 met.from met.below

pub pass-requires-clause-spelled : goal.pass-requires-clause-spelled
pass-requires-clause-spelled c =
    let met = c.in-Some-next_address-2.ensures.some in
    let last = last_read _ _ _ _ _ _ _ _ _ _ _ _ (omega (arith, c.loop-i.auto.i)) c.loop-i.invariant.2 in
    sym c.rest.ensures ∙ met.bytes ∙ ap (λ n. spelling (c.in-Some-next_address-2.next.address - n) ++ c.in-Some-next_address-2.next.rest.now) (sym last)

pub loop-i-preserved : goal.loop-i-preserved
loop-i-preserved c =
    let next = c.in-Some-next_address-2.next in
    let met = subst (λ (r : List ℕ). IsNextAddress (c.loop-i.before + 1) c.args.head.next c.loop-i.places c.next_address-in-loop-i.new.places c.args.role c.loop-i.before r next.address next.rest.now) c.rest.ensures c.in-Some-next_address-2.ensures.some in (
      c.loop-i.invariant.0,
      c.loop-i.invariant.1,
      addresses_as _ _ _ _ _ _ _ _ _ _ _ _ _ _ (addresses_step _ _ _ _ _ _ _ _ _ _ _ _ _ _ _ c.requires.in_range (omega (arith, c.loop-i-test.true)) c.loop-i.invariant.2 met) c.in_ok-pass.ensures.list c.in_ok-pass.ensures.rest,
    )

pub returns-clause-some : goal.returns-clause-some
returns-clause-some c =
    addresses_end c.args.head.format _ _ _ _ _ c.in-Some.count.value _ c.loop-i.i _ _ _ _ _ c.requires.in_range (omega (arith, c.loop-i-test.false, c.loop-i.auto.i-end, c.in-Some.ensures.some.some)) c.loop-i.invariant.1 c.loop-i.invariant.2
