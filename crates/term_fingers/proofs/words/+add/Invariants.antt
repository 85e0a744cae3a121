use Rattle.std.proofs.Common.{◌≡◌}
use Rattle.term_fingers.proofs.words.+add.Given as goal

-- what was found changes nothing that is seen
abbrev pub invariant-add_each-loop-operand : goal.invariant-add_each-loop-operand
invariant-add_each-loop-operand g l = l.fingers ≡ l.fn.fingers

abbrev pub invariant-add_words-loop-token : goal.invariant-add_words-loop-token
invariant-add_words-loop-token g l = l.fingers ≡ l.fn.fingers
