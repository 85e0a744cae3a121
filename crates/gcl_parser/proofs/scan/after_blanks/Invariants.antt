use Rattle.std.proofs.Common.{◌≡◌, ◌≤◌, ◌-◌, length}
use Rattle.gcl_parser.specs.Scanned.{tokens_from}
use Rattle.gcl_parser.proofs.scan.after_blanks.Given as goal

abbrev pub invariant-loop-at : goal.invariant-loop-at
invariant-loop-at l = record { later : l.from ≤ l.at; within : l.at ≤ length l.text; same : tokens_from l.text l.at ≡ tokens_from l.text l.from }

abbrev pub decreases-loop-at : goal.decreases-loop-at
decreases-loop-at l = length l.text - l.at
