use Rattle.std.proofs.Common.{◌≡◌, take}
use Rattle.gcl_model.specs.Collections.{words_from}
use Rattle.plain_text.proofs.tokens.of_tokens.Given as goal

-- the tokens so far are in the text
abbrev pub invariant-loop-i : goal.invariant-loop-i
invariant-loop-i l = l.text ≡ record { first = l.first; next = l.next; words = words_from l.first (take l.i l.token-items) }
