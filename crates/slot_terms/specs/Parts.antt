-- Slots, read term by term.
use Rattle.std.specs.Prelude.{◌≡◌, ℕ, ◌+◌, Bool, true, false, List, [], ◌∷◌, length, filter, flat_map, bytes_eq, Option, None, Some, if◌then◌else◌}
use Rattle.std.specs.List.{AllByRecursion, list_any}
use Rattle.gcl_model.specs.Slots.{SlotRange}
use Rattle.index_shard.specs.Tables.{TermEntry, IsTable, postings_of}
use Rattle.live_version.specs.Contents.{SlotContent}
use Rattle.live_version.specs.LookUps.{is_alive}
pub use Rattle.live_version.specs.Terms.{IsNoLater}

-- the dead ranges of a slot, and the entries of its index that are still to come
pub record PartContent : Type 0 where
  pub mask : List SlotRange
  pub left : List TermEntry

-- of a slot, all entries are still to come
abbrev pub part_of : SlotContent → PartContent
part_of slot = record { mask = slot.mask; left = slot.shard.table }

-- the addresses that are not dead
abbrev pub alive : List SlotRange → List ℕ → List ℕ
alive mask addresses = filter (is_alive mask) addresses

-- the live postings of a term among what is still to come, slot by slot
abbrev pub postings_left : List PartContent → List ℕ → List ℕ
postings_left parts term = flat_map (λ part. alive part.mask (postings_of part.left term)) parts

-- how many entries are still to come
abbrev pub entries_left : List PartContent → ℕ
entries_left [] = 0
entries_left (part ∷ parts) = length part.left + entries_left parts

-- the entries are those of a table
abbrev pub IsPart : PartContent → Type 0
IsPart part = (range : SlotRange) × IsTable range part.left

-- the term of the first entry
abbrev pub head_term : List TermEntry → Option (List ℕ)
head_term [] = None
head_term (entry ∷ entries) = Some entry.term

-- whether the first entry is the term's
abbrev pub is_headed : List TermEntry → List ℕ → Bool
is_headed [] term = false
is_headed (entry ∷ entries) term = bytes_eq entry.term term

-- the postings of the first entry, if it is the term's
abbrev pub head_postings : List TermEntry → List ℕ → List ℕ
head_postings [] term = []
head_postings (entry ∷ entries) term = if bytes_eq entry.term term then entry.addresses else []

-- the entries without the first one, if it is the term's
abbrev pub behind : List TermEntry → List ℕ → List TermEntry
behind [] term = []
behind (entry ∷ entries) term = if bytes_eq entry.term term then entries else entry ∷ entries

-- after the term was passed
abbrev pub past : List ℕ → PartContent → PartContent
past term part = record part { left = behind part.left term }

-- no part has an earlier first term
abbrev pub NoneEarlier : List ℕ → List PartContent → Type 0
NoneEarlier term parts = AllByRecursion (λ part. IsNoLater (Some term) (head_term part.left)) parts

-- a term that is the least of what is still to come, and all of its live postings
pub record IsNext (parts : List PartContent) (term addresses : List ℕ) : Type 0 where
  pub least : NoneEarlier term parts
  pub member : list_any (λ part. is_headed part.left term) parts ≡ true
  pub all : addresses ≡ postings_left parts term
