use Rattle.outside_std.proofs.Steps.{no_ok, nothing_written, on_err, text_cut}
use Rattle.outside_std.proofs.replace.store.Goals as goal

pub returns-in_err-allow_some-clause-ok : goal.returns-in_err-allow_some-clause-ok
returns-in_err-allow_some-clause-ok g c = no_ok _ c.from_residual.result _ c.from_residual.ensures.1

pub returns-in_err-allow_some-clause-err : goal.returns-in_err-allow_some-clause-err
returns-in_err-allow_some-clause-err g c = on_err _ c.from_residual.result (nothing_written _ _ c.allow_some.ensures)

pub returns-in_err-write_whole-clause-ok : goal.returns-in_err-write_whole-clause-ok
returns-in_err-write_whole-clause-ok g c = no_ok _ c.from_residual-in_err-write_whole.result _ c.from_residual-in_err-write_whole.ensures.1

pub returns-in_err-write_whole-clause-err : goal.returns-in_err-write_whole-clause-err
returns-in_err-write_whole-clause-err g c = on_err _ c.from_residual-in_err-write_whole.result (text_cut _ _ _ c.allow_some.ensures c.in_err-write_whole.ensures.err)
