use Rattle.std.proofs.Common.{◌≡◌, ℕ, ◌-◌, ◌<◌, ◌≤◌, true, List, length, slice_get, Some}
use Rattle.gcl_model.specs.Wide.{begins_with}
use Rattle.prefix_terms.specs.Runs.{names}
use Rattle.prefix_terms.proofs.rows.run_of.Given as goal

-- the terms so far begin with the prefix
abbrev pub invariant-loop-end : goal.invariant-loop-end
invariant-loop-end l = record {
  ordered : l.from ≤ l.end;
  within : l.end ≤ length l.shard.table;
  inside : (k : ℕ) (token : List ℕ) → slice_get (names l.shard.table) k ≡ Some token → l.from ≤ k → k < l.end → begins_with l.prefix token ≡ true;
}

abbrev pub decreases-loop-end : goal.decreases-loop-end
decreases-loop-end l = length l.shard.table - l.end
