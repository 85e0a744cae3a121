use Rattle.std.specs.Io.KnownBytes.{Keeps}
use Rattle.outside_std.proofs.sink.write_again.Given as goal

-- an interrupted write wrote nothing
abbrev pub invariant-loop : goal.invariant-loop
invariant-loop g l = Keeps (g.W.Write.contents l.initial.inner) (g.W.Write.contents l.inner)
