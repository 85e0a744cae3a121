use Rattle.std.proofs.Common.{◌≡◌, take}
use Rattle.prefix_terms.specs.Runs.{tokens_in}
use Rattle.prefix_terms.proofs.words.tokens_of.Given as goal

-- the words so far
abbrev pub invariant-loop-word : goal.invariant-loop-word
invariant-loop-word l = l.tokens ≡ tokens_in (take l.word-index l.words)
