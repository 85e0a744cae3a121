use Rattle.std.proofs.Common.{◌≡◌, map, take}
use Rattle.gcl_model.specs.FormOf.{form_of}
use Rattle.gcl_model.specs.Forms.{term}
use Rattle.wide_terms.proofs.expanding.terms.Given as goal

-- the words so far are terms
abbrev pub invariant-loop-word : goal.invariant-loop-word
invariant-loop-word l = map form_of l.exprs.items ≡ map term (take l.word-index l.words)
