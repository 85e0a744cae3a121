use Rattle.std.proofs.Common.{get_or, refl, arith}
use Rattle.posting_code.proofs.Packed.{next_is}
use Rattle.posting_code.proofs.Joining.{number_within}
use Rattle.posting_code.proofs.Runs.{mixed_number, mixed_small}
use Rattle.posting_code.proofs.unpack.mixed_member.Goals as goal

pub returns-then-more-second-lt2-clause-next : goal.returns-then-more-second-lt2-clause-next
returns-then-more-second-lt2-clause-next c =
    (next_is _ _ _ _ _ c.requires.can c.requires.some (mixed_number _ _ _ _ _ c.requires.can c.requires.some refl c.byte_at-second.ensures (omega (arith, c.type_inv.packed c.args.at)) (omega (arith, c.if-more-second-lt2.true)))).next

pub returns-then-more-second-lt2-clause-above : goal.returns-then-more-second-lt2-clause-above
returns-then-more-second-lt2-clause-above c =
    (next_is _ _ _ _ _ c.requires.can c.requires.some (mixed_number _ _ _ _ _ c.requires.can c.requires.some refl c.byte_at-second.ensures (omega (arith, c.type_inv.packed c.args.at)) (omega (arith, c.if-more-second-lt2.true)))).above

pub returns-then-more-second-lt2-clause-within : goal.returns-then-more-second-lt2-clause-within
returns-then-more-second-lt2-clause-within c =
    number_within _ _ _ _ (mixed_number _ _ _ _ _ c.requires.can c.requires.some refl c.byte_at-second.ensures (omega (arith, c.type_inv.packed c.args.at)) (omega (arith, c.if-more-second-lt2.true)))

pub returns-then-more-second-lt2-clause-can : goal.returns-then-more-second-lt2-clause-can
returns-then-more-second-lt2-clause-can c =
    (next_is _ _ _ _ _ c.requires.can c.requires.some (mixed_number _ _ _ _ _ c.requires.can c.requires.some refl c.byte_at-second.ensures (omega (arith, c.type_inv.packed c.args.at)) (omega (arith, c.if-more-second-lt2.true)))).can

pub overflow_add-result : goal.overflow_add-result
overflow_add-result c =
    let small = (next_is _ _ _ _ _ c.requires.can c.requires.some (mixed_number _ _ _ _ _ c.requires.can c.requires.some refl c.byte_at-second.ensures (omega (arith, c.type_inv.packed c.args.at)) (omega (arith, c.if-more-second-lt2.true)))).small in
    omega (arith, small)

pub returns-clause-next : goal.returns-clause-next
returns-clause-next c = c.next_member.ensures.next

pub returns-clause-above : goal.returns-clause-above
returns-clause-above c = c.next_member.ensures.above

pub returns-clause-within : goal.returns-clause-within
returns-clause-within c = c.next_member.ensures.within

pub returns-clause-can : goal.returns-clause-can
returns-clause-can c = c.next_member.ensures.can

pub overflow_mul-value-then-more-second-lt2 : goal.overflow_mul-value-then-more-second-lt2
overflow_mul-value-then-more-second-lt2 c =
    let few = mixed_small (get_or c.args.packed.now c.args.at 0) c.byte_at-second.result (c.type_inv.packed c.args.at).fits c.byte_at-second.type_inv in
    omega (arith, few)

pub overflow_add-value : goal.overflow_add-value
overflow_add-value c =
    let few = mixed_small (get_or c.args.packed.now c.args.at 0) c.byte_at-second.result (c.type_inv.packed c.args.at).fits c.byte_at-second.type_inv in
    omega (arith, few)
