use Rattle.std.proofs.Common.{refl, arith}
use Rattle.posting_code.proofs.Steps.{no_ok}
use Rattle.posting_code.proofs.Taking.{taken_few, taken_next}
use Rattle.posting_code.proofs.packed_maker.PackedMaker.pass.Goals as goal

pub overflow_add-self : goal.overflow_add-self
overflow_add-self c = let few = taken_few _ _ _ _ _ _ c.self.invariant in omega (arith, few)

pub invariant_of-self-2 : goal.invariant_of-self-2
invariant_of-self-2 c = (taken_next _ _ _ _ _ _ _ _ _ _ _ c.self.invariant c.self.view_is c.requires.rising c.requires.spelled refl refl c.in_ok-push_head.ensures.ok).taken

pub returns-clause-list : goal.returns-clause-list
returns-clause-list c = (taken_next _ _ _ _ _ _ _ _ _ _ _ c.self.invariant c.self.view_is c.requires.rising c.requires.spelled refl refl c.in_ok-push_head.ensures.ok).list

pub returns-in_err-push_head-clause-list : goal.returns-in_err-push_head-clause-list
returns-in_err-push_head-clause-list c = no_ok _ c.from_residual.result _ c.from_residual.ensures.1

pub returns-in_err-push_head-clause-rest : goal.returns-in_err-push_head-clause-rest
returns-in_err-push_head-clause-rest c = no_ok _ c.from_residual.result _ c.from_residual.ensures.1
