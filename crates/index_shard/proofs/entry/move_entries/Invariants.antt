use Rattle.std.proofs.Common.{◌≡◌, ◌++◌, map, take, drop}
use Rattle.index_shard.specs.Kept.{moved_entry}
use Rattle.index_shard.proofs.entry.move_entries.Given as goal

-- the entries so far are moved up, and the others are as they were
abbrev pub invariant-loop-entry : goal.invariant-loop-entry
invariant-loop-entry l = l.entries ≡ map (moved_entry l.by) (take l.entry-index l.fn.entries) ++ drop l.entry-index l.fn.entries
