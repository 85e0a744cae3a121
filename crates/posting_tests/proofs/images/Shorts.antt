-- Short tokens.
use Rattle.std.proofs.Common.{◌≡◌, ℕ, ◌+◌, ◌^◌, ◌<◌, List, [], length, drop, get_or, sym, subst}
use Rattle.std.specs.List.{AllByRecursion}
use Rattle.std.proofs.lemmas.List.{drop_more}
use Rattle.gcl_model.specs.Collections.{IsToken}
use Rattle.gcl_model.specs.Tokens.{tokens_of}
use Rattle.word_tokens.proofs.TokenLemmas.{tokens_are_tokens}

-- a short token before others
pub short_left : (tokens : List (List ℕ)) (i : ℕ) → i < length tokens → length (get_or tokens i []) < 2 ^ 56 → AllByRecursion (λ (t : List ℕ). length t < 2 ^ 56) (drop (i + 1) tokens) → AllByRecursion (λ (t : List ℕ). length t < 2 ^ 56) (drop i tokens)
short_left tokens i lt short left = subst (AllByRecursion (λ (t : List ℕ). length t < 2 ^ 56)) (sym (drop_more tokens i [] lt)) (short, left)

-- what a text is cut into are tokens
pub tokens_are : (tokens : List (List ℕ)) (bytes : List ℕ) → tokens ≡ tokens_of bytes → AllByRecursion IsToken tokens
tokens_are tokens bytes is = subst (AllByRecursion IsToken) (sym is) (tokens_are_tokens bytes)
