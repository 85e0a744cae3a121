use Rattle.posting_code.proofs.Numbers.{IsReading}
use Rattle.posting_code.proofs.number.longer_number.Given as goal

-- the number is what was read so far and what is found after it
abbrev pub invariant-loop-i : goal.invariant-loop-i
invariant-loop-i l = IsReading l.bytes l.at l.first l.i l.value l.scale
