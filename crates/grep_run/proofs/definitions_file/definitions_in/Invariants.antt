use Rattle.std.proofs.Common.{◌≡◌, ◌-◌, ◌≤◌, ◌++◌, drop, length}
use Rattle.grep_run.specs.Definitions.{are_short, definition_lines}
use Rattle.grep_run.proofs.definitions_file.definitions_in.Given as goal

-- the lines so far, with those that are left
abbrev pub invariant-loop-cut : goal.invariant-loop-cut
invariant-loop-cut l = record {
  within : l.at ≤ length l.bytes;
  short : are_short (drop l.at l.bytes) ≡ are_short l.bytes;
  lines : l.texts ++ definition_lines (drop l.at l.bytes) ≡ definition_lines l.bytes;
}

abbrev pub decreases-loop-cut : goal.decreases-loop-cut
decreases-loop-cut l = length l.bytes - l.at
