use Rattle.std.proofs.Common.{◌^◌, ◌≤◌}
use Rattle.posting_code.specs.Postings.{RiseWithin}
use Rattle.measure.proofs.packed.copied.Given as goal

abbrev pub invariant-loop-block : goal.invariant-loop-block
invariant-loop-block l = record {
  rising : RiseWithin 0 l.next l.maker;
  below : l.next ≤ 2 ^ 56;
}
