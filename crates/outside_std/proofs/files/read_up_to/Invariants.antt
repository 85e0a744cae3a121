use Rattle.std.proofs.Common.{◌≤◌, length}
use Rattle.std.specs.Io.KnownBytes.{Consumes}
use Rattle.outside_std.proofs.files.read_up_to.Given as goal

-- the buffer has room left, and holds what was read
abbrev pub invariant-pieces : goal.invariant-pieces
invariant-pieces g l = record {
  short : length l.out.items ≤ l.most;
  read : Consumes (g.R.Read.remaining l.initial.file) (g.R.Read.remaining l.file) l.out.items;
}
