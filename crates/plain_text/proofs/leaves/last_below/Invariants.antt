use Rattle.std.proofs.Common.{◌≡◌, ◌≤◌, length, take}
use Rattle.plain_text.specs.Holders.{last_holder}
use Rattle.plain_text.proofs.leaves.last_below.Given as goal

-- none of those passed is the term
abbrev pub invariant-loop-left : goal.invariant-loop-left
invariant-loop-left l = record {
  within : l.left ≤ length l.text.words;
  same : last_holder (take l.left l.text.words) l.term ≡ last_holder (take l.end l.text.words) l.term;
}

abbrev pub decreases-loop-left : goal.decreases-loop-left
decreases-loop-left l = l.left
