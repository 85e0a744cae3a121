use Rattle.std.specs.Io.KnownBytes.{Keeps}
use Rattle.outside_std.proofs.source.read_again.Given as goal

-- an interrupted read took nothing
abbrev pub invariant-loop : goal.invariant-loop
invariant-loop g l = Keeps (g.R.Read.remaining l.initial.inner) (g.R.Read.remaining l.inner)
