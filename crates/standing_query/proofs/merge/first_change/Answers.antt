use Rattle.std.proofs.Common.{◌∙◌, sym}
use Rattle.standing_query.proofs.ChangeLemmas.{step_went, step_came}
use Rattle.standing_query.proofs.merge.first_change.Goals as goal

pub returns-then-comes_before-clause-some : goal.returns-then-comes_before-clause-some
returns-then-comes_before-clause-some g c =
    rw c.first-first_new.ensures.left
    (step_went c.args.old.now.left c.args.new.now.left c.pass-then-comes_before.new.self.left c.in-Some-Some.went c.in-Some-Some.came c.requires.old_rises c.requires.new_rises
    (sym c.first-first_old.ensures.left ∙ c.pass-then-comes_before.ensures.left) (sym c.in-Some-Some.is-1 ∙ c.first-first_new.ensures.first) (sym c.comes_before.ensures ∙ c.if-comes_before.true))

pub returns-else-comes_before-clause-some : goal.returns-else-comes_before-clause-some
returns-else-comes_before-clause-some g c =
    rw c.first-first_old.ensures.left
    (step_came c.args.old.now.left c.args.new.now.left c.pass-in-Some-Some.new.self.left c.in-Some-Some.went c.in-Some-Some.came c.requires.old_rises c.requires.new_rises
    (sym c.in-Some-Some.is-0 ∙ c.first-first_old.ensures.first) (sym c.first-first_new.ensures.left ∙ c.pass-in-Some-Some.ensures.left) c.requires.differ (sym c.comes_before.ensures ∙ c.if-comes_before.false))
