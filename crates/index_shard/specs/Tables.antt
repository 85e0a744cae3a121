-- Terms and their postings inside a range of addresses.
use Rattle.std.specs.Prelude.{◌≡◌, ℕ, zero, suc, ◌+◌, ◌-◌, ◌<◌, ◌≤◌, Bool, true, false, ◌==◌, List, [], ◌∷◌, length, flat_map, map, find, bytes_eq, Option, None, Some, if◌then◌else◌}
use Rattle.std.specs.List.{AllByRecursion, list_any, range_with_len}
use Rattle.std.specs.Ordering.{nat_cmp}
use Rattle.std.specs.declared.cmp.Ordering.{Ordering}
use Rattle.std.specs.Option.{option_to_list, option_map}
use Rattle.std.specs.Cmp.Lexicographic.{slice_cmp}
use Rattle.std.specs.declared.cmp.Ordering.TheVariants.{Less, Equal, Greater}
use Rattle.gcl_model.specs.Limits.{address_end}
use Rattle.gcl_model.specs.Slots.{SlotRange}
use Rattle.gcl_model.specs.Texts.{Word}
pub use Rattle.posting_code.specs.Postings.{RiseWithin}

-- a term and the addresses that hold it
pub record TermEntry : Type 0 where
  pub term : List ℕ
  pub addresses : List ℕ

-- the addresses that an index is about, and its table of terms
pub record ShardContent : Type 0 where
  pub range : SlotRange
  pub table : List TermEntry

-- byte order: the first byte that differs decides, and otherwise the shorter comes first
abbrev pub ComesBefore : List ℕ → List ℕ → Type 0
ComesBefore a b = slice_cmp nat_cmp a b ≡ Less

-- whether the list has the address
abbrev pub has_address : List ℕ → ℕ → Bool
has_address addresses p = list_any (λ q. q == p) addresses

-- no address is in both lists
abbrev pub AreApart : List ℕ → List ℕ → Type 0
AreApart first second = (p : ℕ) → has_address first p ≡ true → has_address second p ≡ false

-- some addresses, strictly rising, inside the range
pub record ArePostingsIn (range : SlotRange) (addresses : List ℕ) : Type 0 where
  pub some : 0 < length addresses
  pub rising : RiseWithin range.first (range.last + 1) addresses

-- an earlier entry of a table: its term comes before, and no address is listed under both
pub record Precedes (first second : TermEntry) : Type 0 where
  pub terms : ComesBefore first.term second.term
  pub addresses : AreApart first.addresses second.addresses

-- terms in rising byte order, each with postings of the range, no address under two of them
abbrev pub IsTable : SlotRange → List TermEntry → Type 0
IsTable range [] = Unit {0}
IsTable range (entry ∷ entries) = ArePostingsIn range entry.addresses × AllByRecursion (Precedes entry) entries × IsTable range entries

-- the addresses are below the end of addresses, and the table is one of their postings
pub record IsShard (shard : ShardContent) : Type 0 where
  pub ordered : shard.range.first ≤ shard.range.last
  pub in_range : shard.range.last < address_end
  pub table : IsTable shard.range shard.table

-- the last entry of a table
abbrev pub last_entry : List TermEntry → Option TermEntry
last_entry [] = None
last_entry (entry ∷ []) = Some entry
last_entry (entry ∷ next ∷ entries) = last_entry (next ∷ entries)

-- the postings of a term: none if the table does not have it
abbrev pub postings_of : List TermEntry → List ℕ → List ℕ
postings_of [] term = []
postings_of (entry ∷ entries) term = if bytes_eq entry.term term then entry.addresses else postings_of entries term

-- the postings of the entry at place i: none if there is no such place
abbrev pub addresses_at : List TermEntry → ℕ → List ℕ
addresses_at [] i = []
addresses_at (entry ∷ entries) zero = entry.addresses
addresses_at (entry ∷ entries) (suc i) = addresses_at entries i

-- the place of a term in a table, counted from 0, if the table has it
abbrev pub place_of : List TermEntry → List ℕ → Option ℕ
place_of [] term = None
place_of (entry ∷ entries) term = if bytes_eq entry.term term then Some 0 else option_map (λ i. i + 1) (place_of entries term)

-- the term that has the address among its postings
abbrev pub term_at : List TermEntry → ℕ → Option (List ℕ)
term_at [] p = None
term_at (entry ∷ entries) p = if has_address entry.addresses p then Some entry.term else term_at entries p

-- the words of a shard in rising address: at each address of its range the term that has it, if any
abbrev pub words_of : ShardContent → List Word
words_of shard =
    flat_map (λ p. option_to_list (option_map (λ term. record { address = p; token = term }) (term_at shard.table p)))
    (range_with_len shard.range.first (shard.range.last - shard.range.first + 1))

-- whether a term of this order to a lower bound is at or after it, or after it if strict
abbrev pub comes_from : Bool → Ordering → Bool
comes_from strict Less = false
comes_from strict Equal = if strict then false else true
comes_from strict Greater = true

-- the least term of a table that is at least low, or above it if strict: of be, not, or and to the least that is at least "bee" is not
abbrev pub least_term : List TermEntry → List ℕ → Bool → Option (List ℕ)
least_term entries low strict = find (λ term. comes_from strict (slice_cmp nat_cmp term low)) (map (λ (entry : TermEntry). entry.term) entries)
