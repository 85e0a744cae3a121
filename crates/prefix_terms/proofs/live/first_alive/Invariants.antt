use Rattle.std.proofs.Common.{◌≡◌, ◌+◌, ◌≤◌, length, filter}
use Rattle.index_shard.specs.Searched.{nearest}
use Rattle.index_shard.specs.Tables.{postings_of}
use Rattle.gcl_model.specs.declared.direction.Direction.TheVariants.{Forward}
use Rattle.live_version.specs.LookUps.{is_alive}
use Rattle.live_version.proofs.LeapLemmas.{ahead}
use Rattle.prefix_terms.proofs.live.first_alive.Given as goal

-- nothing alive was passed, and each look-up so far met a dead range that is not passed yet
abbrev pub invariant-loop-p : goal.invariant-loop-p
invariant-loop-p g l = record {
  same : nearest Forward (filter (is_alive l.mask) (postings_of l.shard.table l.term)) l.from ≡ nearest Forward (filter (is_alive l.mask) (postings_of l.shard.table l.term)) 0;
  counted : l.fn.steps ≤ l.steps;
  cost : l.steps + ahead l.mask l.from ≤ l.fn.steps + length l.mask;
}

abbrev pub decreases-loop-p : goal.decreases-loop-p
decreases-loop-p g l = ahead l.mask l.from
