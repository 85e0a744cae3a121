-- Laws of packed numbers.
use Rattle.std.specs.Prelude.{◌≡◌, ℕ, ◌^◌, ◌<◌, ◌↔◌, List, ◌++◌}
use Rattle.posting_code.specs.Numbers.{IsSpelling, spelling}

-- each number has one spelling
abbrev pub SpellingIsTheOnlyOne : Type 0
SpellingIsTheOnlyOne = (bytes : List ℕ) (n : ℕ) → IsSpelling bytes n ↔ ((n < 2 ^ 56) × (bytes ≡ spelling n))

-- what begins with a spelling begins with no other: no spelling is a prefix of another's
abbrev pub NoSpellingBeginsAnother : Type 0
NoSpellingBeginsAnother = (a b : ℕ) (rest more : List ℕ) → a < 2 ^ 56 → b < 2 ^ 56 → spelling a ++ rest ≡ spelling b ++ more → (a ≡ b) × (rest ≡ more)
