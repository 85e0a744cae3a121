use Rattle.std.proofs.Common.{◌≡◌, ◌++◌, ◌<◌, ◌≤◌, ◌^◌, take, length}
use Rattle.posting_code.specs.Numbers.{spelling}
use Rattle.posting_code.proofs.number.put_bytes.Given as goal

-- what is there and the spelling of what is left are what was there and the whole spelling
abbrev pub invariant-loop-left : goal.invariant-loop-left
invariant-loop-left l = record {
  small : l.left < 2 ^ 56;
  spelled : l.out.items ++ spelling l.left ≡ l.fn.out.items ++ spelling l.n;
  long : length l.fn.out.items ≤ length l.out.items;
  kept : take (length l.fn.out.items) l.out.items ≡ l.fn.out.items;
}

abbrev pub decreases-loop-left : goal.decreases-loop-left
decreases-loop-left l = l.left
