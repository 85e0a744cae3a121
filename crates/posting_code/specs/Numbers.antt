-- Packed numbers: 7 bits a byte, the lowest first.
use Rattle.std.specs.Prelude.{◌≡◌, ℕ, zero, suc, ◌+◌, ◌*◌, ◌/◌, ◌%◌, ◌^◌, ◌<◌, ◌≤◌, List, [], ◌∷◌, ◌++◌, length, drop, nat_lt, if◌then◌else◌}

-- packed numbers and addresses are below this
abbrev pub number_end : ℕ
number_end = 2 ^ 56

-- the number that some bytes hold, 7 bits each and the lowest first: ac 02 hold 44 + 128 · 2, which is 300
abbrev pub value_of : List ℕ → ℕ
value_of [] = 0
value_of (b ∷ bs) = b % 128 + 128 * value_of bs

-- every byte except the last has the top bit: of ac 02 the first alone
abbrev pub EndsAtLast : List ℕ → Type 0
EndsAtLast [] = ⊥
EndsAtLast (b ∷ []) = b < 128
EndsAtLast (b ∷ c ∷ cs) = (128 ≤ b) × (b < 256) × EndsAtLast (c ∷ cs)

-- the last byte is not 0 unless it is the only one: 00 is such, and 87 00 is not
abbrev pub IsUnpadded : List ℕ → Type 0
IsUnpadded [] = Unit {0}
IsUnpadded (b ∷ []) = Unit {0}
IsUnpadded (b ∷ c ∷ []) = 0 < c
IsUnpadded (b ∷ c ∷ d ∷ ds) = IsUnpadded (c ∷ d ∷ ds)

-- the bytes spell the number: ac 02 spell 300
pub record IsSpelling (bytes : List ℕ) (n : ℕ) : Type 0 where
  pub ends : EndsAtLast bytes
  pub unpadded : IsUnpadded bytes
  pub value : value_of bytes ≡ n
  pub small : n < 2 ^ 56

-- the bytes of a number that has at most `most` of them: the low 7 bits, then the bytes of what is left
abbrev pub spelling_within : ℕ → ℕ → List ℕ
spelling_within zero n = []
spelling_within (suc most) n = if nat_lt n 128 then n ∷ [] else (128 + n % 128) ∷ spelling_within most (n / 128)

-- the spelling of a number below 2^56, which has at most eight bytes: that of 300 is ac 02
abbrev pub spelling : ℕ → List ℕ
spelling n = spelling_within 8 n

-- the number's spelling is in the bytes from place `at` to just before `after`
pub record IsNumberAt (bytes : List ℕ) (at value after : ℕ) : Type 0 where
  pub small : value < 2 ^ 56
  pub spelled : drop at bytes ≡ spelling value ++ drop after bytes
  pub behind : after ≡ at + length (spelling value)

-- no number's spelling begins at the place
abbrev pub HasNoNumberAt : List ℕ → ℕ → Type 0
HasNoNumberAt bytes at = (n : ℕ) (rest : List ℕ) → n < 2 ^ 56 → drop at bytes ≡ spelling n ++ rest → ⊥
