use Rattle.std.proofs.Common.{◌≡◌, ◌+◌, drop}
use Rattle.gcl_model.specs.Meaning.{holds_in_row}
use Rattle.plain_text.proofs.holding.holds_in_row.Given as goal

-- the tokens so far are there
abbrev pub invariant-loop-i : goal.invariant-loop-i
invariant-loop-i l = holds_in_row l.text.words (drop l.i l.tokens) (l.start + l.i) ≡ holds_in_row l.text.words l.tokens l.start
