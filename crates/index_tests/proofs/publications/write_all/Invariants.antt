use Rattle.std.proofs.Common.{◌≡◌}
use Rattle.index_tests.proofs.publications.write_all.Given as goal

abbrev pub invariant-loop-count : goal.invariant-loop-count
invariant-loop-count g l = l.publisher.publisher ≡ g.N.Named.publisher
