use Rattle.std.proofs.Common.{◌≡◌, ◌++◌, take, drop}
use Rattle.wide_terms.specs.Vocabulary.{with_token}
use Rattle.text_search.proofs.matching.place_of.Given as goal

-- the word comes behind those so far
abbrev pub invariant-loop-at : goal.invariant-loop-at
invariant-loop-at l = with_token l.word l.words ≡ take l.at l.words ++ with_token l.word (drop l.at l.words)
