-- How a shard keeps its terms, for this crate alone except the first two: their bytes in one row, the packed differences of short lists
-- in another one, and longer lists in rows of theirs.
use Rattle.std.specs.Prelude.{◌≡◌, ℕ, zero, suc, ◌+◌, ◌*◌, ◌<◌, ◌≤◌, List, [], ◌∷◌, length, map, take, drop, get_or}
use Rattle.std.specs.List.{AllByRecursion}
use Rattle.std.specs.Ordering.{nat_cmp, ordering_then}
use Rattle.std.specs.declared.cmp.Ordering.{Ordering}
use Rattle.std.specs.Cmp.Lexicographic.{slice_cmp}
use Rattle.posting_code.specs.Moved.{moved_address}
use Rattle.posting_code.specs.Packed.{IsKeptTo, kept, last_of}
use Rattle.index_shard.specs.Tables.{TermEntry}
use Rattle.index_shard.specs.declared.entry.Entry.{Entry}
use Rattle.index_shard.specs.declared.entry.Kept.{Kept}
use Rattle.index_shard.specs.declared.entry.Kept.TheVariants.{Short, Long}
use Rattle.index_shard.specs.declared.parts.Ends.{Ends}

-- a number and the next n bytes after it, read as one number in base 256, with a 0 for each byte that is not there:
-- two bytes of "be" after 0 give 98 * 256 + 101
abbrev pub leading : ℕ → ℕ → List ℕ → ℕ
leading zero before bytes = before
leading (suc n) before [] = leading n (before * 256) []
leading (suc n) before (b ∷ bs) = leading n (before * 256 + b) bs

-- each is a byte
abbrev pub AreBytes : List ℕ → Type 0
AreBytes bytes = (k : ℕ) → get_or bytes k 0 < 256

-- the part of a row of bytes: of 1, 2, 3, 4 the two starting at place 1 are 2, 3
abbrev pub part_of : List ℕ → ℕ → ℕ → List ℕ
part_of bytes start size = take size (drop start bytes)

-- the addresses that are kept: up to 64 as a part of the packed differences, and more as one of the lists
abbrev pub list_in : List ℕ → List (List ℕ) → Kept → List ℕ
list_in packed long (Short first last at size count) = kept count first (part_of packed at size)
list_in packed long (Long place) = get_or long place []

-- the term and the addresses of an entry
abbrev pub entry_in : List ℕ → List ℕ → List (List ℕ) → Entry → TermEntry
entry_in bytes packed long entry = record { term = part_of bytes entry.start entry.size; addresses = list_in packed long entry.list }

-- the table that the entries make
abbrev pub table_in : List ℕ → List ℕ → List (List ℕ) → List Entry → List TermEntry
table_in bytes packed long entries = map (entry_in bytes packed long) entries

-- the term of an entry lies within the bytes, and its head is the term's first eight
pub record IsTermIn (bytes : List ℕ) (entry : Entry) : Type 0 where
  pub within : entry.start + entry.size ≤ length bytes
  pub head : entry.head ≡ leading 8 0 (part_of bytes entry.start entry.size)

-- the addresses are there: the part lies within the packed differences and is a whole list, or the lists have the place
abbrev pub IsListIn : List ℕ → List (List ℕ) → Kept → Type 0
IsListIn packed long (Short first last at size count) = (at + size ≤ length packed) × IsKeptTo last count first (part_of packed at size) []
IsListIn packed long (Long place) = place < length long

-- each entry has its term and its addresses
pub record AreKeptIn (bytes packed : List ℕ) (long : List (List ℕ)) (entries : List Entry) : Type 0 where
  pub terms : AllByRecursion (IsTermIn bytes) entries
  pub lists : AllByRecursion (λ (entry : Entry). IsListIn packed long entry.list) entries

-- the order of an entry's term to another one, whose first eight bytes are given: these decide if they differ
abbrev pub order_in : List ℕ → ℕ → List ℕ → Entry → Ordering
order_in bytes head term entry = ordering_then (nat_cmp entry.head head) (slice_cmp nat_cmp (part_of bytes entry.start entry.size) term)

-- the first and the last of some addresses, with 0 for both of none, and how many they are
pub record AreEndsOf (ends : Ends) (addresses : List ℕ) : Type 0 where
  pub first : ends.first ≡ get_or addresses 0 0
  pub last : ends.last ≡ last_of addresses
  pub count : ends.count ≡ length addresses

-- the addresses are kept as a part of the packed differences
pub record IsPutShort (packed : List ℕ) (addresses : List ℕ) (list : Kept) : Type 0 where
  pub is : (long : List (List ℕ)) → list_in packed long list ≡ addresses
  pub within : (long : List (List ℕ)) → IsListIn packed long list

-- the entry of a term that is put after the bytes
abbrev pub kept_entry : List ℕ → List ℕ → Kept → Entry
kept_entry bytes term list = record { head = leading 8 0 term; start = length bytes; size = length term; list = list }

-- where postings are kept once they are moved up: long lists keep their places
abbrev pub moved_kept : ℕ → Kept → Kept
moved_kept by (Short first last at size count) = Short (moved_address by first) (moved_address by last) at size count
moved_kept by (Long place) = Long place

abbrev pub moved_entry : ℕ → Entry → Entry
moved_entry by entry = record entry { list = moved_kept by entry.list }
