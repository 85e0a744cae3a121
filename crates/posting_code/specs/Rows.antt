-- How lists are stored in rows, for this crate alone: the packed differences of all in one row, the heads of their blocks in another.
use Rattle.std.specs.Prelude.{◌≡◌, ℕ, ◌+◌, ◌-◌, ◌*◌, ◌/◌, ◌<◌, ◌≤◌, List, ◌++◌, length, map, take, drop, get_or}
use Rattle.std.specs.List.{AllByRecursion}
use Rattle.posting_code.specs.Postings.{ArePostings}
use Rattle.posting_code.specs.Packed.{IsHead, IsKeptTo, kept, packed_of}
use Rattle.posting_code.specs.declared.head.Head.{Head}
use Rattle.posting_code.specs.declared.rows.RowList.{RowList}
use Rattle.posting_code.specs.declared.rows.RowList.TheVariants.{Own, Shared}
use Rattle.posting_code.specs.declared.rows.RowPart.{RowPart}

-- the part of a row from one place to another: of 1, 2, 3, 4 the one from 1 to 3 is 2, 3
abbrev pub between : List ℕ → ℕ → ℕ → List ℕ
between row start end = take (end - start) (drop start row)

abbrev pub heads_between : List Head → ℕ → ℕ → List Head
heads_between row start end = take (end - start) (drop start row)

-- the addresses of a list: in the rows, or its own
abbrev pub list_in : List ℕ → RowList → List ℕ
list_in packed (Shared part) = kept part.count part.first (between packed part.start part.end)
list_in packed (Own list) = list

-- those of all lists
abbrev pub lists_in : List ℕ → List RowList → List (List ℕ)
lists_in packed lists = map (list_in packed) lists

-- what a list has of the rows lies within them, and makes a list
pub record IsPartIn (packed : List ℕ) (heads : List Head) (part : RowPart) : Type 0 where
  pub spelled : (part.start ≤ part.end) × (part.end ≤ length packed)
  pub headed : (part.heads_start ≤ part.heads_end) × (part.heads_end ≤ length heads)
  pub whole : IsKeptTo part.last part.count part.first (between packed part.start part.end) (heads_between heads part.heads_start part.heads_end)

-- a list with memory of its own has nothing of them
abbrev pub IsListIn : List ℕ → List Head → RowList → Type 0
IsListIn packed heads (Shared part) = IsPartIn packed heads part
IsListIn packed heads (Own list) = Unit {0}

abbrev pub AreListsIn : List ℕ → List Head → List RowList → Type 0
AreListsIn packed heads lists = AllByRecursion (IsListIn packed heads) lists

-- the heads are those of all blocks of the list after the first
pub record HasHeads (list : List ℕ) (heads : List Head) : Type 0 where
  pub marked : length heads ≡ (length list + 63) / 64 - 1
  pub blocks : (b : ℕ) (d : Head) → b < length heads → IsHead list (packed_of list) (64 * (b + 1)) (get_or heads b d)

-- a list comes after `count` members, and its packed differences after `shift` bytes
pub record ComesBehind (before list : List ℕ) (count shift : ℕ) : Type 0 where
  pub rising : ArePostings (before ++ list)
  pub counted : count ≡ length before
  pub shifted : shift + length (packed_of list) ≡ length (packed_of (before ++ list))
