use Rattle.std.proofs.Common.{[]}
use Rattle.outside_std.specs.Saving.{Adds}
use Rattle.outside_std.proofs.beside.create_beside.Given as goal

-- no file was created yet
abbrev pub invariant-loop-n : goal.invariant-loop-n
invariant-loop-n g l = Adds (g.D.Disk.steps l.initial.disk) (g.D.Disk.steps l.disk) []
