use Rattle.std.proofs.Common.{◌≡◌, length}
use Rattle.query_lanes.proofs.lane.Work.of_lanes.Given as goal

abbrev pub invariant-loop : goal.invariant-loop
invariant-loop l = length l.works.items ≡ l.counter
