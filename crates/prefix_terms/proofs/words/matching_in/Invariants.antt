use Rattle.std.proofs.Common.{◌≡◌, ◌+◌, ◌≤◌, take}
use Rattle.live_version.specs.Contents.{live_of}
use Rattle.wide_terms.specs.Vocabulary.{matching_words}
use Rattle.prefix_terms.specs.Runs.{run_costs, tokens_in}
use Rattle.prefix_terms.proofs.words.matching_in.Given as goal

-- the words of the slots so far, and what they took
abbrev pub invariant-loop-slot : goal.invariant-loop-slot
invariant-loop-slot g l = record {
  words : tokens_in l.words.items ≡ matching_words (live_of (take l.slot-index l.slots)) l.prefix;
  counted : l.fn.steps ≤ l.steps;
  cost : l.steps ≤ l.fn.steps + run_costs l.prefix (take l.slot-index l.slots);
}
