use Rattle.std.proofs.Common.{◌≡◌, take}
use Rattle.term_fingers.proofs.term.Term.has_bytes.Given as goal

-- the bytes so far are the same
abbrev pub invariant-loop-i : goal.invariant-loop-i
invariant-loop-i g l = take l.i l.self.bytes.now ≡ take l.i l.bytes
