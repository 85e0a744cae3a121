-- Words as bits in a row, for this crate alone.
use Rattle.std.specs.Prelude.{ℕ, ◌/◌, ◌%◌, ◌==◌, Bool, List, get_or, map}
use Rattle.std.specs.List.{range_with_len}
use Rattle.std.specs.Int.{bit_at}

-- bit n of the words, counted from the lowest one of the first: of 4, 1 the bits 2 and 64 are set
abbrev pub bit_of : List ℕ → ℕ → Bool
bit_of words n = bit_at (get_or words (n / 64) 0) (n % 64) == 1

-- the first bits of the words
unfoldable pub bits_of : List ℕ → ℕ → List Bool
bits_of words count = map (bit_of words) (range_with_len 0 count)
