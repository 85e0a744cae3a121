use Rattle.std.proofs.Common.{◌≡◌, take}
use Rattle.grep_words.proofs.word_list.WordList.copy_of.Given as goal

-- the copies so far
abbrev pub invariant-loop-word : goal.invariant-loop-word
invariant-loop-word l = l.items.items ≡ take l.word-index l.words
