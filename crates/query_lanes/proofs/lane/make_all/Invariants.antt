use Rattle.std.proofs.Common.{◌≡◌, ◌+◌, ◌*◌, ◌-◌, ◌<◌, length}
use Rattle.gcl_model.specs.Limits.{most_readers}
use Rattle.query_lanes.specs.Readers.{IsLater}
use Rattle.query_lanes.specs.inner.Lanes.{AreMadeOn}
use Rattle.query_lanes.proofs.lane.make_all.Given as goal

abbrev pub invariant-loop-next : goal.invariant-loop-next
invariant-loop-next g l = record {
  place : l.next ≡ l.at + length l.made.items * l.dealt.lanes;
  room : l.next < length l.dealt.asks.now + most_readers;
  later : IsLater l.initial.reader l.reader;
  made : AreMadeOn l.dealt.asks.now l.dealt.lanes l.at l.initial.reader l.reader l.made.items;
}

abbrev pub decreases-loop-next : goal.decreases-loop-next
decreases-loop-next g l = length l.dealt.asks.now - l.next
