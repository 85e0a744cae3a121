use Rattle.std.proofs.Common.{◌+◌, ◌*◌, length}
use Rattle.query_lanes.proofs.lanes.+parts.Given as goal

abbrev pub decreases-run_lanes : goal.decreases-run_lanes
decreases-run_lanes g l = 3 * length l.readers.now

abbrev pub decreases-run_parts : goal.decreases-run_parts
decreases-run_parts g l = 3 * length l.readers_high.now + 2

abbrev pub decreases-run_parts-high : goal.decreases-run_parts-high
decreases-run_parts-high g l = 3 * length l.readers_high.now + 1
