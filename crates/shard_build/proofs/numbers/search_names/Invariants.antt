use Rattle.std.proofs.Common.{◌≡◌, bytes_eq, drop}
use Rattle.std.specs.List.{position_from}
use Rattle.std.specs.Map.{keys_of}
use Rattle.shard_build.proofs.numbers.search_names.Given as goal

-- the token is where it is among the names that are left
abbrev pub invariant-loop-number : goal.invariant-loop-number
invariant-loop-number l = position_from (bytes_eq l.token) l.number (drop l.number (keys_of l.lists.items)) ≡ position_from (bytes_eq l.token) 0 (keys_of l.lists.items)
