use Rattle.std.proofs.Common.{◌-◌, arith}
use Rattle.collection.proofs.SettlingLemmas.{is-tail, settles-alone, settles-joined}
use Rattle.collection.proofs.add.settled.Goals as goal

pub returns-then-count-lt2 : goal.returns-then-count-lt2
returns-then-count-lt2 c =
    settles-alone c.args.last.now c.args.grown c.tail-count.result c.requires.grown c.tail-count.ensures.value c.if-count-lt2.true

pub overflow_sub-at : goal.overflow_sub-at
overflow_sub-at c =
    let tail = is-tail c.args.last.now c.args.grown c.requires.grown in
    omega (arith, tail.few, c.tail-count.ensures.value, c.slot_count.ensures.value)

pub merge-requires-clause-within : goal.merge-requires-clause-within
merge-requires-clause-within c =
    let tail = is-tail c.args.last.now c.args.grown c.requires.grown in
    omega (arith, tail.few, c.tail-count.ensures.value, c.slot_count.ensures.value)

pub with_slot-requires-clause-within : goal.with_slot-requires-clause-within
with_slot-requires-clause-within c =
    let tail = is-tail c.args.last.now c.args.grown c.requires.grown in
    omega (arith, tail.few, c.tail-count.ensures.value, c.slot_count.ensures.value)

pub with_slot-requires-clause-number : goal.with_slot-requires-clause-number
with_slot-requires-clause-number c = omega (arith, c.requires.grown.number, c.requires.number)

pub after-requires : goal.after-requires
after-requires c = omega (arith, c.requires.number)

pub returns : goal.returns
returns c =
    let tail = is-tail c.args.last.now c.args.grown c.requires.grown in
    settles-joined c.args.last.now c.args.grown c.in_ok-joined.joined c.after.result (c.slot_count.result - c.tail-count.result) c.tail-count.result c.in_ok-slot.slot c.requires.grown c.tail-count.ensures.value
    c.if-count-lt2.false (omega (arith, tail.few, c.tail-count.ensures.value, c.slot_count.ensures.value)) c.in_ok-slot.ensures.range c.in_ok-slot.ensures.mask c.in_ok-joined.ensures.value c.in_ok-joined.ensures.stands
    c.in_ok-joined.ensures.joined c.after.ensures.value c.after.ensures.stands
