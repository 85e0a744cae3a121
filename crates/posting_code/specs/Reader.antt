-- How a number is read, for this crate alone.
use Rattle.std.specs.Prelude.{ℕ, zero, suc, ◌+◌, ◌-◌, ◌*◌, List, [], ◌∷◌, nat_lt, Option, None, Some, if◌then◌else◌}
use Rattle.posting_code.specs.declared.number.Number.{Number}

-- a number and the length of its spelling
pub record Read : Type 0 where
  pub value : ℕ
  pub size : ℕ

-- a number, and how many bytes it had
abbrev pub read : ℕ → ℕ → Read
read value size = record { value = value; size = size }

-- a byte with its top bit before what was read
abbrev pub behind_value : ℕ → ℕ → ℕ → Option Read
behind_value b zero size = None
behind_value b (suc v) size = Some (read (b - 128 + 128 * suc v) (size + 1))

-- the same, if anything was read
abbrev pub behind : ℕ → Option Read → Option Read
behind b None = None
behind b (Some r) = behind_value b r.value r.size

-- what a reader that takes at most k bytes finds
abbrev pub reads : ℕ → List ℕ → Option Read
reads zero bs = None
reads (suc k) [] = None
reads (suc k) (b ∷ bs) = if nat_lt b 128 then Some (read b 1) else behind b (reads k bs)

-- what was found, with the place after it
abbrev pub number_at : ℕ → Option Read → Option Number
number_at at None = None
number_at at (Some r) = Some (record { value = r.value; after = at + r.size })
