use Rattle.std.proofs.Common.{◌≡◌, ◌≤◌, ◌-◌, length}
use Rattle.posting_code.proofs.Unpacking.{IsUnpacking}
use Rattle.posting_code.proofs.unpack.unpack.Given as goal

-- the members so far are there
abbrev pub invariant-loop-into : goal.invariant-loop-into
invariant-loop-into l = record {
  are : IsUnpacking l.packed l.first l.at l.into l.place l.member.value l.member.after;
  long : length l.into ≡ length l.fn.into;
  within : l.place ≤ length l.into;
}

abbrev pub decreases-loop-into : goal.decreases-loop-into
decreases-loop-into l = length l.into - l.place
