use Rattle.std.proofs.Common.{◌≡◌, ◌++◌, length}
use Rattle.std.specs.Map.{keys_of}
use Rattle.shard_build.specs.Groups.{table_of}
use Rattle.shard_build.specs.Met.{AreNames, names_of, rows_of}
use Rattle.shard_build.proofs.lists.hand_over.Given as goal

-- the maker has the rows so far, and the rest is still to come
abbrev pub invariant-loop-last : goal.invariant-loop-last
invariant-loop-last l = record {
  names : AreNames (names_of l.lists.items l.seen.items);
  kept : keys_of l.lists.items ≡ keys_of l.fn.lists.items;
  range : l.maker.range ≡ l.fn.maker.range;
  rest : l.maker.table ++ table_of (rows_of (names_of l.lists.items l.seen.items)) ≡ table_of (rows_of (names_of l.fn.lists.items l.fn.seen.items));
}

abbrev pub decreases-loop-last : goal.decreases-loop-last
decreases-loop-last l = length l.seen.items
