use Rattle.std.proofs.Common.{◌≡◌, ℕ, ◌<◌, ◌≤◌, true, false, get_or}
use Rattle.image_read.proofs.marks.Marks.marked_from.Given as goal

-- each mark so far is set
abbrev pub invariant-loop-i : goal.invariant-loop-i
invariant-loop-i l = (k : ℕ) → l.fn.at ≤ k → k < l.i → get_or l.fn.self k false ≡ true
