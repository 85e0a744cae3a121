-- The files of a collection by their ids, addresses and names, in order.
use Rattle.std.specs.Prelude.{ℕ, ◌+◌, ◌-◌, ◌≤◌, ◌<◌, List, [], ◌∷◌, Option, None, Some}
use Rattle.std.specs.List.{AllByRecursion}
use Rattle.gcl_model.specs.Limits.{address_end}
use Rattle.gcl_model.specs.Slots.{SlotRange, slot_range}

-- a file: its id, its first address, how many addresses it has, and its name
pub record FileEntry : Type 0 where
  pub id : ℕ
  pub base : ℕ
  pub len : ℕ
  pub name : List ℕ

-- the addresses of a file: of three starting at 7 they are 7 to 9
abbrev pub range_of : FileEntry → SlotRange
range_of file = slot_range file.base (file.base + file.len - 1)

-- a file has its two boundary tokens at least, and its addresses are below the limit of addresses
pub record IsPlaced (file : FileEntry) : Type 0 where
  pub bounded : 2 ≤ file.len
  pub in_range : file.base + file.len ≤ address_end

-- the second file has a later id and lies after the first: of (id 0, 0 to 7) and (id 2, 10 to 11) it does
pub record Precedes (first second : FileEntry) : Type 0 where
  pub ids : first.id < second.id
  pub addresses : first.base + first.len ≤ second.base

-- ids rise, and ranges rise without a common address
abbrev pub IsFileRun : List FileEntry → Type 0
IsFileRun [] = Unit {0}
IsFileRun (file ∷ files) = IsPlaced file × AllByRecursion (Precedes file) files × IsFileRun files

-- the last file of a list, if it has one
abbrev pub last_file : List FileEntry → Option FileEntry
last_file [] = None
last_file (file ∷ []) = Some file
last_file (file ∷ next ∷ files) = last_file (next ∷ files)
