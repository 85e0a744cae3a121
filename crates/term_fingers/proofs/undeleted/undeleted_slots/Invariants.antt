use Rattle.std.proofs.Common.{◌≡◌, length, take}
use Rattle.term_fingers.specs.Lists.{undeleted_of}
use Rattle.term_fingers.proofs.undeleted.undeleted_slots.Given as goal

-- the slots so far
abbrev pub invariant-loop-number : goal.invariant-loop-number
invariant-loop-number l = record {
  undeleted : take l.number l.undeleted ≡ undeleted_of (take l.number l.slots);
  all : length l.undeleted ≡ 32;
}
