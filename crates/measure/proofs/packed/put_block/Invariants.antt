use Rattle.std.proofs.Common.{◌^◌, ◌≤◌}
use Rattle.posting_code.specs.Postings.{RiseWithin}
use Rattle.measure.proofs.packed.put_block.Given as goal

abbrev pub invariant-loop-p : goal.invariant-loop-p
invariant-loop-p l = record {
  rising : RiseWithin 0 l.next l.maker;
  below : l.next ≤ 2 ^ 56;
}
