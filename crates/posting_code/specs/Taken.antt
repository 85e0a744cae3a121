-- Lists whose packed differences are taken from bytes that have them already.
use Rattle.std.specs.Prelude.{◌≡◌, ℕ, ◌-◌, ◌<◌, List, ◌++◌, length, take}
use Rattle.posting_code.specs.Packed.{IsKeptTo}
use Rattle.posting_code.specs.declared.head.Head.{Head}

-- the members that were taken so far, and the bytes behind the last of them
pub record TakenList : Type 0 where
  pub list : List ℕ
  pub rest : List ℕ

-- some bytes without the rest at their end: of 1, 2, 3, 4 with the rest 3, 4 they are 1, 2
abbrev pub front_of : List ℕ → List ℕ → List ℕ
front_of bytes rest = take (length bytes - length rest) bytes

-- the bytes begin with the packed differences of some members, and the rest comes after them; for this crate alone
pub record IsTaken (last count first : ℕ) (bytes rest : List ℕ) (heads : List Head) : Type 0 where
  pub some : 0 < count
  pub whole : bytes ≡ front_of bytes rest ++ rest
  pub parts : IsKeptTo last count first (front_of bytes rest) heads
