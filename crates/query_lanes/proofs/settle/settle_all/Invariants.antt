use Rattle.query_lanes.specs.Readers.{EachIsOf}
use Rattle.query_lanes.proofs.EachLane.{SettledUpto}
use Rattle.query_lanes.proofs.settle.settle_all.Given as goal

abbrev pub invariant-loop-i : goal.invariant-loop-i
invariant-loop-i l = record {
  upto : SettledUpto l.engine.history l.i l.initial.readers l.readers l.initial.works l.works;
  of : EachIsOf l.engine.publisher l.readers;
}
