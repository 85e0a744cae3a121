use Rattle.query_lanes.specs.Readers.{EachIsOf}
use Rattle.query_lanes.proofs.EachLane.{ToldUpto}
use Rattle.query_lanes.proofs.settle.tell_all.Given as goal

abbrev pub invariant-loop-i : goal.invariant-loop-i
invariant-loop-i l = record {
  upto : ToldUpto l.engine.history l.i l.initial.readers l.readers;
  of : EachIsOf l.engine.publisher l.readers;
}
