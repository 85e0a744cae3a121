use Rattle.std.specs.Io.KnownBytes.{Keeps}
use Rattle.outside_std.proofs.sink.write_waiting.Given as goal

-- a write that would wait wrote nothing
abbrev pub invariant-loop-turn : goal.invariant-loop-turn
invariant-loop-turn g l = Keeps (g.W.Write.contents l.initial.inner) (g.W.Write.contents l.inner)
