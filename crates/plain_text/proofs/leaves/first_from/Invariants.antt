use Rattle.std.proofs.Common.{◌≡◌, drop}
use Rattle.plain_text.specs.Holders.{first_holder}
use Rattle.plain_text.proofs.leaves.first_from.Given as goal

-- none so far is the term
abbrev pub invariant-loop-i : goal.invariant-loop-i
invariant-loop-i l = first_holder (drop l.i l.text.words) l.term ≡ first_holder (drop l.start l.text.words) l.term
