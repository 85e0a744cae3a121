use Rattle.std.proofs.Common.{◌-◌, ◌<◌, ◌≤◌, ℕ}
use Rattle.posting_code.specs.Ends.{IsStep}
use Rattle.posting_code.proofs.unpack.start_of.Given as goal

-- the spelling begins here or further back
abbrev pub invariant-loop-at : goal.invariant-loop-at
invariant-loop-at l = record {
  below : l.at < l.end;
  back : (at : ℕ) → IsStep l.packed l.from at l.end → at ≤ l.at;
}

abbrev pub decreases-loop-at : goal.decreases-loop-at
decreases-loop-at l = l.at - l.from
