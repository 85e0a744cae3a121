use Rattle.std.proofs.Common.{◌≡◌, length, take}
use Rattle.term_fingers.specs.Lists.{places_of}
use Rattle.term_fingers.proofs.term.places.Given as goal

-- the slots so far
abbrev pub invariant-loop-number : goal.invariant-loop-number
invariant-loop-number l = record {
  places : take l.number l.places ≡ places_of l.bytes (take l.number l.slots);
  all : length l.places ≡ 32;
}
