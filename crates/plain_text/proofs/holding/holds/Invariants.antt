use Rattle.std.proofs.Common.{◌≡◌, drop}
use Rattle.gcl_model.specs.Texts.{holds}
use Rattle.plain_text.proofs.holding.holds.Given as goal

-- no word so far is it
abbrev pub invariant-loop-i : goal.invariant-loop-i
invariant-loop-i l = holds (drop l.i l.text.words) l.token l.address ≡ holds l.text.words l.token l.address
