-- Where rows of tokens start.
use Rattle.std.specs.Prelude.{◌≡◌, ℕ, ◌+◌, ◌-◌, ◌<◌, ◌≤◌, Bool, true, List, [], length, get_or, bytes_eq}
use Rattle.std.specs.List.{list_all}
use Rattle.gcl_model.specs.Extents.{Extent}
use Rattle.gcl_model.specs.Texts.{Text, holds}
use Rattle.gcl_model.specs.Meaning.{holds_in_row}

-- no row of the tokens starts at or after k and before s: none of "a b" does at or after 1 and before 3 in `0 a, 1 b, 2 c, 3 a, 4 b`
abbrev pub NoneBefore : Text → List (List ℕ) → ℕ → ℕ → Type 0
NoneBefore text tokens k s = (r : ℕ) → k ≤ r → r < s → holds_in_row text.words tokens r ≡ true → ⊥

-- no row of the tokens starts at or after k: none of "a b" does at or after 4 there
abbrev pub NoneFrom : Text → List (List ℕ) → ℕ → Type 0
NoneFrom text tokens k = (r : ℕ) → k ≤ r → holds_in_row text.words tokens r ≡ true → ⊥

-- the token with this number in a phrase
abbrev pub token_at : List (List ℕ) → ℕ → List ℕ
token_at tokens i = get_or tokens i []

-- the token with a number is in its place of the row that starts at s: token 1 of "a b" is in the row that starts at 3 there
abbrev pub IsInPlace : Text → List (List ℕ) → ℕ → ℕ → Type 0
IsInPlace text tokens s i = holds text.words (token_at tokens i) (s + i) ≡ true

-- the token at this turn is at place q, and no row starts at or after s and before the row in which it is there
pub record LeadsTo (text : Text) (tokens : List (List ℕ)) (turn s q : ℕ) : Type 0 where
  pub held : holds text.words (token_at tokens turn) q ≡ true
  pub from : s + turn ≤ q
  pub within : q < text.next
  pub none : NoneBefore text tokens s (q - turn)

-- the token that comes after the one at this turn is right after q, the place of that one
pub record IsFollowed (text : Text) (tokens : List (List ℕ)) (turn q : ℕ) : Type 0 where
  pub more : turn + 1 < length tokens
  pub behind : IsInPlace text tokens (q - turn) (turn + 1)

-- all tokens are one word: those of "ha ha ha" are, and those of "ha ha he" are not
abbrev pub is_one_word : List (List ℕ) → Bool
is_one_word tokens = list_all (bytes_eq (token_at tokens 0)) tokens

-- the tokens are in order at the addresses from the start to the end: "to be" is at (4, 5) in `0 to, 1 be, 2 or, 3 not, 4 to, 5 be`
pub record IsRow (text : Text) (tokens : List (List ℕ)) (a : Extent) : Type 0 where
  pub wide : a.end + 1 ≡ a.start + length tokens
  pub row : holds_in_row text.words tokens a.start ≡ true
