use Rattle.std.proofs.Common.{◌≡◌, ℕ, ◌+◌, ◌-◌, ◌<◌, ◌≤◌, List, ◌++◌, length, take, drop}
use Rattle.posting_code.specs.Rows.{ComesBehind, HasHeads}
use Rattle.posting_code.proofs.InRows.{ArePlaced}
use Rattle.posting_code.proofs.rows.put_heads.Given as goal

-- there is a head for each block that begins before the place
abbrev pub invariant-loop-place : goal.invariant-loop-place
invariant-loop-place l = record {
  placed : (before : List ℕ) (start : ℕ) → ComesBehind before l.fn.list l.fn.front l.fn.shift → start ≤ length l.fn.heads.items → HasHeads before (drop start l.fn.heads.items)
      → ArePlaced (before ++ l.fn.list) (drop start l.heads.items) (l.fn.front + l.place);
  near : l.place < length l.fn.list + 64;
  begins : take (length l.fn.heads.items) l.heads.items ≡ l.fn.heads.items;
}

abbrev pub decreases-loop-place : goal.decreases-loop-place
decreases-loop-place l = l.behind - l.place
