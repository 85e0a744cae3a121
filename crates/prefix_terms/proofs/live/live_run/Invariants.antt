use Rattle.std.proofs.Common.{◌≡◌, ◌+◌, ◌*◌, ◌≤◌, length, filter, take}
use Rattle.gcl_model.specs.Wide.{begins_with}
use Rattle.prefix_terms.specs.Runs.{live_in, names, tokens_in}
use Rattle.prefix_terms.proofs.live.live_run.Given as goal

-- the live ones of the terms so far, and what their look-ups took
abbrev pub invariant-loop-place : goal.invariant-loop-place
invariant-loop-place g l = record {
  words : tokens_in l.words.items ≡ live_in l.slot.mask l.prefix (take l.place l.slot.shard.table);
  counted : l.fn.steps ≤ l.steps;
  cost : l.steps ≤ l.fn.steps + length (filter (begins_with l.prefix) (take l.place (names l.slot.shard.table))) * (1 + length l.slot.mask);
}
