use Rattle.std.specs.Io.KnownBytes.{Keeps}
use Rattle.outside_std.proofs.source.read_waiting.Given as goal

-- a read that would wait took nothing
abbrev pub invariant-loop-turn : goal.invariant-loop-turn
invariant-loop-turn g l = Keeps (g.R.Read.remaining l.initial.inner) (g.R.Read.remaining l.inner)
