-- Tokens in a row, by their numbers in the phrase.
use Rattle.std.proofs.Common.{◌≡◌, ℕ, zero, suc, ◌+◌, ◌<◌, ◌≤◌, true, List, [], ◌∷◌, length, get_or, min, refl, subst, arith}
use Rattle.std.proofs.lemmas.Bool.{and_parts, and_from}
use Rattle.gcl_model.specs.Texts.{Text, Word, holds, places}
use Rattle.gcl_model.specs.Meaning.{holds_in_row}
use Rattle.gcl_model.specs.Cost.{fewest_places}
pub use Rattle.phrase_walk.specs.Starts.{IsInPlace, token_at}
use Rattle.phrase_walk.proofs.Places.{Held}

-- the tokens are in a row that starts at p
abbrev pub InRow : Text → List (List ℕ) → ℕ → Type 0
InRow text tokens p = holds_in_row text.words tokens p ≡ true

pub row_parts : (text : Text) (token : List ℕ) (tokens : List (List ℕ)) (r : ℕ) → InRow text (token ∷ tokens) r → Held text token r × InRow text tokens (r + 1)
row_parts text token tokens r row = and_parts (holds text.words token r) (holds_in_row text.words tokens (r + 1)) row

-- the token with a number, whatever stands for those that are not there
pub token_is : (tokens : List (List ℕ)) (i : ℕ) (d token : List ℕ) → i < length tokens → token ≡ get_or tokens i d → token ≡ token_at tokens i
token_is [] i d token lt is = absurd (omega arith)
token_is (t ∷ ts) zero d token lt is = is
token_is (t ∷ ts) (suc i) d token lt is = token_is ts i d token (omega arith) is

-- in a row each token is in its place, and if each is, they are a row
pub row_place : (text : Text) (tokens : List (List ℕ)) (r i : ℕ) → i < length tokens → InRow text tokens r → IsInPlace text tokens r i
row_place text [] r i lt row = absurd (omega arith)
row_place text (token ∷ tokens) r zero lt row =
    let same : r ≡ r + 0 = omega arith in
    subst (Held text token) same (row_parts text token tokens r row).0
row_place text (token ∷ tokens) r (suc i) lt row =
    let same : r + 1 + i ≡ r + suc i = omega arith in
    subst (Held text (token_at tokens i)) same (row_place text tokens (r + 1) i (omega arith) (row_parts text token tokens r row).1)

pub places_row : (text : Text) (tokens : List (List ℕ)) (r : ℕ) → ((i : ℕ) → i < length tokens → IsInPlace text tokens r i) → InRow text tokens r
places_row text [] r each = refl
places_row text (token ∷ tokens) r each =
    let same : r + 0 ≡ r = omega arith in
    and_from (holds text.words token r) (holds_in_row text.words tokens (r + 1))
    (subst (Held text token) same (each 0 (omega arith)))
    (places_row text tokens (r + 1) (λ i lt.
    let next : r + suc i ≡ r + 1 + i = omega arith in
    subst (Held text (token_at tokens i)) next (each (suc i) (omega arith))))

-- what is at most the number of places of each token is so of the rarest
pub fewest_of_each : (words : List Word) (tokens : List (List ℕ)) (n : ℕ) → 1 ≤ length tokens → ((i : ℕ) → i < length tokens → n ≤ length (places words (token_at tokens i))) → n ≤ fewest_places words tokens
fewest_of_each words [] n some each = absurd (omega arith)
fewest_of_each words (token ∷ []) n some each = each 0 (omega arith)
fewest_of_each words (token ∷ next ∷ tokens) n some each =
    less_of_both n (length (places words token)) (fewest_places words (next ∷ tokens)) (each 0 (omega arith))
    (fewest_of_each words (next ∷ tokens) n (omega arith) (λ i lt. each (suc i) (omega arith)))
  where
    less_of_both : (n p q : ℕ) → n ≤ p → n ≤ q → n ≤ min p q
    less_of_both n p q a b = omega arith
