use Rattle.std.proofs.Common.{◌≡◌, map, take}
use Rattle.grep_words.proofs.word_list.WordList.of.Given as goal

-- the copies so far
abbrev pub invariant-loop-word : goal.invariant-loop-word
invariant-loop-word l = l.items.items ≡ map (λ word. word.now) (take l.word-index l.words)
