use Rattle.std.proofs.Common.{◌≡◌, ◌≤◌, ◌-◌, length}
use Rattle.gcl_parser.specs.Refusal.{refused}
use Rattle.gcl_parser.specs.Reading.{fault_from}
use Rattle.gcl_parser.specs.Scanned.{tokens_from}
use Rattle.gcl_parser.proofs.refusal.refusal.Given as goal

-- what is left has the fault of the whole text
abbrev pub invariant-loop-placed : goal.invariant-loop-placed
invariant-loop-placed l = record {
  within : l.at ≤ length l.text;
  same : fault_from l.state.wants_operand l.state.opened l.state.operands (length l.text) (tokens_from l.text l.at) ≡ refused l.text;
}

abbrev pub decreases-loop-placed : goal.decreases-loop-placed
decreases-loop-placed l = length l.text - l.at
