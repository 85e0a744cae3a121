use Rattle.std.proofs.Common.{refl, arith}
use Rattle.posting_code.proofs.Packed.{next_absurd, next_is}
use Rattle.posting_code.proofs.Joining.{number_within}
use Rattle.posting_code.proofs.unpack.next_member.Goals as goal

pub unreachable-requires : goal.unreachable-requires
unreachable-requires c = next_absurd _ _ _ c.requires.can c.requires.some (c.in-None.ensures.none.0 refl)

pub returns-clause-next : goal.returns-clause-next
returns-clause-next c = (next_is _ _ _ _ _ c.requires.can c.requires.some c.in-Some.ensures.some).next

pub returns-clause-above : goal.returns-clause-above
returns-clause-above c = (next_is _ _ _ _ _ c.requires.can c.requires.some c.in-Some.ensures.some).above

pub returns-clause-can : goal.returns-clause-can
returns-clause-can c = (next_is _ _ _ _ _ c.requires.can c.requires.some c.in-Some.ensures.some).can

pub returns-clause-within : goal.returns-clause-within
returns-clause-within c = number_within _ _ _ _ c.in-Some.ensures.some

pub overflow_add-result : goal.overflow_add-result
overflow_add-result c = let small = (next_is _ _ _ _ _ c.requires.can c.requires.some c.in-Some.ensures.some).small in omega (arith, small)
