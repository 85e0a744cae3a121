use Rattle.std.proofs.Common.{◌≡◌, ◌+◌, ℕ, List, ◌++◌, length, map, take, drop}
use Rattle.gcl_model.specs.Collections.{words_from}
use Rattle.gcl_model.specs.Texts.{Word}
use Rattle.gcl_model.specs.Tokens.{tokens_of}
use Rattle.text_search.specs.Tables.{filled}
use Rattle.text_search.proofs.text.note_tokens.Given as goal

-- the tokens so far are noted, and the others are still to come
abbrev pub invariant-loop-token : goal.invariant-loop-token
invariant-loop-token l = record {
  rest : map (λ t. t.token) l.cursor ≡ drop l.passed (tokens_of l.bytes);
  size : l.passed + length l.cursor ≡ length (tokens_of l.bytes);
  noted : (words : List Word) (names : List (List ℕ)) → l.fn.table ≡ filled words names → l.table ≡ filled (words ++ words_from 1 (take l.passed (tokens_of l.bytes))) names;
}

abbrev pub decreases-loop-token : goal.decreases-loop-token
decreases-loop-token l = length l.cursor
