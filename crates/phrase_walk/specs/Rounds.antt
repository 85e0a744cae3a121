-- How many look-ups a walk over a phrase takes at most.
use Rattle.std.specs.Prelude.{ℕ, ◌+◌, ◌*◌, ◌&&◌, List, [], ◌∷◌, length, filter, min, nat_le, nat_lt, Option, Some, None}
use Rattle.gcl_model.specs.Extents.{Extent}
use Rattle.gcl_model.specs.Texts.{Text, Word, places}
use Rattle.gcl_model.specs.Cost.{fewest_places}

-- each token is looked up once for each place of the rarest, and once more, at `most` each: for two tokens at 5 and 3 places 8 times `most`
abbrev pub rounds_cost : List Word → ℕ → List (List ℕ) → ℕ
rounds_cost words most tokens = (fewest_places words tokens + 1) * length tokens * most

-- how many places of a token are at or after one address and before another: of "to" in `0 to, 1 be, 2 or, 3 not, 4 to` there is one at or
-- after 1 and before 5
abbrev pub places_between : List Word → List ℕ → ℕ → ℕ → ℕ
places_between words token from to = length (filter (λ p. nat_le from p && nat_lt p to) (places words token))

-- the fewest such places of a token, each counted from its place in the row that starts at `from` up to before that in the row at `to`
abbrev pub fewest_between : List Word → List (List ℕ) → ℕ → ℕ → ℕ
fewest_between words [] from to = 0
fewest_between words (token ∷ []) from to = places_between words token from to
fewest_between words (token ∷ next ∷ tokens) from to = min (places_between words token from to) (fewest_between words (next ∷ tokens) (from + 1) (to + 1))

-- which starts of rows a walk has left behind: those before this one, which comes right after the start of the row that it found
abbrev pub walk_end : Text → Option Extent → ℕ
walk_end text None = text.next
walk_end text (Some row) = row.start + 1

-- a walk from k to what it found: each token is looked up once for each place of the rarest that it left behind, and once more
abbrev pub passed_cost : Text → ℕ → List (List ℕ) → ℕ → Option Extent → ℕ
passed_cost text most tokens k found = (fewest_between text.words tokens k (walk_end text found) + 1) * (length tokens * most)
