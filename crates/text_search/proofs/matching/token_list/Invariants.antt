use Rattle.std.proofs.Common.{◌≡◌, take}
use Rattle.text_search.proofs.matching.token_list.Given as goal

-- the words so far are in the list
abbrev pub invariant-loop-word : goal.invariant-loop-word
invariant-loop-word l = l.list ≡ take l.word-index l.words
