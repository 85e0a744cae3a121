-- For proofs alone: the words of a block of bytes that is cut by entries.
use Rattle.std.specs.Prelude.{◌≡◌, ℕ, zero, suc, ◌≤◌, List, [], ◌∷◌, length, slice_range}
use Rattle.gcl_model.specs.Texts.{Word, IsText}
use Rattle.plain_text.specs.declared.entry.Entry.{Entry}
use Rattle.plain_text.specs.Puts.{word}

-- each entry has an address and the bytes from the end of the entry before up to its own end: of the bytes "tobe" and entries that end at
-- 2 and 4 the words are `to` and `be`
abbrev pub words_in : List ℕ → ℕ → List Entry → List Word
words_in bytes start [] = []
words_in bytes start (entry ∷ entries) = word entry.address (slice_range bytes start entry.end) ∷ words_in bytes entry.end entries

-- where the bytes of the entry at place i begin: those of the second begin where the first ends
abbrev pub start_at : ℕ → List Entry → ℕ → ℕ
start_at start [] i = start
start_at start (entry ∷ entries) zero = start
start_at start (entry ∷ entries) (suc i) = start_at entry.end entries i

-- the ends never fall, and the last one is the size
abbrev pub AreCuts : ℕ → ℕ → List Entry → Type 0
AreCuts size start [] = start ≡ size
AreCuts size start (entry ∷ entries) = (start ≤ entry.end) × AreCuts size entry.end entries

-- the entries cut the whole block, and are at rising addresses of the span
pub record IsKept (first next : ℕ) (bytes : List ℕ) (entries : List Entry) : Type 0 where
  pub sound : IsText record { first = first; next = next; words = words_in bytes 0 entries }
  pub cuts : AreCuts (length bytes) 0 entries
