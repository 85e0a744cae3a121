use Rattle.std.proofs.Common.{[]}
use Rattle.shard_build.specs.Met.{AreNumbered, names_of}
use Rattle.shard_build.proofs.numbers.forget_above.Given as goal

-- the names that are left have their numbers
abbrev pub invariant-loop : goal.invariant-loop
invariant-loop l = AreNumbered l.numbers (names_of l.lists.items [])
