use Rattle.std.proofs.Common.{◌≡◌, ◌+◌, ◌-◌, ◌≤◌, ◌++◌, length}
use Rattle.wide_terms.specs.Vocabulary.{in_byte_order}
use Rattle.prefix_terms.specs.Runs.{tokens_in}
use Rattle.prefix_terms.proofs.Merges.{left_of}
use Rattle.prefix_terms.proofs.merging.merged.Given as goal

-- the words so far, and then those that are left of both lists
abbrev pub invariant-loop-i : goal.invariant-loop-i
invariant-loop-i l = record {
  first_within : l.i ≤ length l.first;
  second_within : l.j ≤ length l.second;
  words : tokens_in l.all.items ++ left_of l.first l.second l.i l.j ≡ in_byte_order (tokens_in l.first ++ tokens_in l.second);
}

abbrev pub decreases-loop-i : goal.decreases-loop-i
decreases-loop-i l = (length l.first - l.i) + (length l.second - l.j)
