use Rattle.std.proofs.Common.{◌≡◌, take}
use Rattle.word_tokens.proofs.cut.tokens.Given as goal

abbrev pub invariant-loop-i : goal.invariant-loop-i
invariant-loop-i l = l.list ≡ take l.i l.text
