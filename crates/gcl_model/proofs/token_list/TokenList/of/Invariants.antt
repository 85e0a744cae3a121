use Rattle.std.proofs.Common.{◌≡◌, map, take}
use Rattle.gcl_model.proofs.token_list.TokenList.of.Given as goal

-- those so far are the words
abbrev pub invariant-loop-word : goal.invariant-loop-word
invariant-loop-word l = l.items.items ≡ map (λ word. word.now) (take l.word-index l.words)
