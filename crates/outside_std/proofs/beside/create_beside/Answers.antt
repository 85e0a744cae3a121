use Rattle.std.proofs.Common.{[], ◌∷◌, subst}
use Rattle.outside_std.specs.Saving.{Adds}
use Rattle.outside_std.specs.declared.step.Step.TheVariants.{Creates}
use Rattle.outside_std.proofs.Steps.{Adds-behind, Adds-nil, no_value, on_err}
use Rattle.outside_std.proofs.beside.create_beside.Goals as goal

pub loop-n-init : goal.loop-n-init
loop-n-init g c = Adds-nil (g.D.Disk.steps c.args.disk.now)

pub returns-in_err-beside-clause-ok : goal.returns-in_err-beside-clause-ok
returns-in_err-beside-clause-ok g c = no_value _ c.from_residual.result _ c.from_residual.ensures.1

pub returns-in_err-beside-clause-err : goal.returns-in_err-beside-clause-err
returns-in_err-beside-clause-err g c = on_err _ c.from_residual.result c.loop-n.invariant

pub returns-in-Ok-clause-ok : goal.returns-in-Ok-clause-ok
returns-in-Ok-clause-ok g c =
    let steps = g.D.Disk.steps in
    let made = subst (λ name. Adds (steps c.loop-n.disk) (steps c.create.new.self) (Creates name ∷ [])) c.as_str.ensures.value c.in-Ok.ensures.ok in
    Adds-behind (steps c.args.disk.now) (steps c.loop-n.disk) (steps c.create.new.self) _ c.loop-n.invariant made

pub returns-clause-err : goal.returns-clause-err
returns-clause-err g c = c.loop-n.invariant
