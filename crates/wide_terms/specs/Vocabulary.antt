-- The words that a text has, each of them once.
use Rattle.std.specs.Prelude.{◌≡◌, ℕ, List, [], ◌∷◌, map, filter}
use Rattle.std.specs.List.{AllByRecursion}
use Rattle.std.specs.Ordering.{nat_cmp, match_ordering}
use Rattle.std.specs.declared.cmp.Ordering.TheVariants.{Less}
use Rattle.std.specs.Cmp.Lexicographic.{slice_cmp}
use Rattle.gcl_model.specs.Texts.{Word}
use Rattle.gcl_model.specs.Wide.{begins_with}

-- byte order: the first byte that differs decides, and else the shorter comes first
abbrev pub ComesBefore : List ℕ → List ℕ → Type 0
ComesBefore a b = slice_cmp nat_cmp a b ≡ Less

-- each token comes before all that follow it
abbrev pub RiseInBytes : List (List ℕ) → Type 0
RiseInBytes [] = Unit {0}
RiseInBytes (token ∷ tokens) = AllByRecursion (ComesBefore token) tokens × RiseInBytes tokens

-- rising tokens with one more, if they do not have it: be and or with not are be, not and or
abbrev pub with_token : List ℕ → List (List ℕ) → List (List ℕ)
with_token token [] = token ∷ []
with_token token (other ∷ others) = match_ordering (slice_cmp nat_cmp token other) (token ∷ other ∷ others) (other ∷ others) (other ∷ with_token token others)

-- the tokens in rising byte order, each once: of or, be and or they are be and or
abbrev pub in_byte_order : List (List ℕ) → List (List ℕ)
in_byte_order [] = []
in_byte_order (token ∷ tokens) = with_token token (in_byte_order tokens)

-- the tokens of the words: of `to be or not to be` they are be, not, or and to
abbrev pub vocabulary : List Word → List (List ℕ)
vocabulary words = in_byte_order (map (λ w. w.token) words)

-- those that begin with the prefix: of the same words and `o` it is or alone
abbrev pub matching_words : List Word → List ℕ → List (List ℕ)
matching_words words prefix = filter (begins_with prefix) (vocabulary words)
