use Rattle.std.proofs.Common.{◌≡◌, drop}
use Rattle.grep_run.specs.Definitions.{defined_by_all}
use Rattle.grep_run.proofs.defining.define_all.Given as goal

-- the rest is defined after what was, as all is after what was there before
abbrev pub invariant-loop-text : goal.invariant-loop-text
invariant-loop-text g l = defined_by_all l.definitions (drop l.text-index l.texts) ≡ defined_by_all l.initial.definitions l.texts
