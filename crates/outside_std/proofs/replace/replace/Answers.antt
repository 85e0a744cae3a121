use Rattle.std.proofs.Common.{[], ◌∷◌, sym, subst, inl}
use Rattle.outside_std.specs.Saving.{Adds}
use Rattle.outside_std.specs.declared.step.Step.TheVariants.{Creates}
use Rattle.outside_std.proofs.Steps.{no_ok, on_err}
use Rattle.outside_std.proofs.replace.replace.Goals as goal

pub returns-in_err-beside-clause-ok : goal.returns-in_err-beside-clause-ok
returns-in_err-beside-clause-ok g c = no_ok _ c.from_residual.result _ c.from_residual.ensures.1

pub returns-in_err-beside-clause-err : goal.returns-in_err-beside-clause-err
returns-in_err-beside-clause-err g c = on_err _ c.from_residual.result (inl c.in_err-beside.ensures.err)

pub returns-clause-ok : goal.returns-clause-ok
returns-clause-ok g c =
    let steps = g.D.Disk.steps in
    let made = subst (λ name. Adds (steps c.args.disk.now) (steps c.create_beside.new.disk) (Creates name ∷ [])) (sym c.as_str.ensures.value) c.in_ok-beside.ensures.ok in
    c.take_path.ensures.ok (steps c.args.disk.now) made

pub returns-clause-err : goal.returns-clause-err
returns-clause-err g c =
    let steps = g.D.Disk.steps in
    let made = subst (λ name. Adds (steps c.args.disk.now) (steps c.create_beside.new.disk) (Creates name ∷ [])) (sym c.as_str.ensures.value) c.in_ok-beside.ensures.ok in
    c.take_path.ensures.err (steps c.args.disk.now) made
