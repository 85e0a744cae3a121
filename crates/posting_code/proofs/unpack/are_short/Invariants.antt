use Rattle.std.proofs.Common.{ℕ, ◌+◌, ◌<◌, ◌≤◌, get_or}
use Rattle.posting_code.proofs.unpack.are_short.Given as goal

-- each byte so far has only bits that are in all of them
abbrev pub invariant-loop-i : goal.invariant-loop-i
invariant-loop-i l = (j : ℕ) → j < l.i → get_or l.packed (l.at + j) 0 ≤ l.all
