use Rattle.std.proofs.Common.{◌≡◌}
use Rattle.index_tests.proofs.publications.read_all.Given as goal

abbrev pub invariant-loop : goal.invariant-loop
invariant-loop g l = l.reader.publisher ≡ g.N.Named.publisher
