use Rattle.gcl_model.proofs.Cases.{on_err}
use Rattle.script_answers.proofs.SaveReplies.{held_but_one}
use Rattle.script_answers.proofs.saving.save.Goals as goal

pub returns-in_err-keep-clause-unmade : goal.returns-in_err-keep-clause-unmade
returns-in_err-keep-clause-unmade g c = on_err _ c.from_residual-in_err-keep.result (λ state at.
    held_but_one state c.args.name.now (g.F.Files.unkept c.args.files.now) (g.F.Files.unkept c.keep.new.self) c.args.engine.now (g.F.Files.held c.args.files.now) (g.F.Files.held c.keep.new.self) at c.in_err-keep.ensures.kept c.in_err-keep.ensures.unkept)
