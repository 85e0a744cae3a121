-- The names that are kept from file to file, and those that occur in the current file.
use Rattle.std.specs.Prelude.{◌≡◌, ℕ, ◌+◌, ◌<◌, ◌≤◌, List, [], ◌∷◌, length, map, reverse, get_or, slice_set, nat_eq, Option, is_some}
use Rattle.std.specs.Option.{unwrap_or}
use Rattle.std.specs.Hash as fed
use Rattle.std.specs.Hash.FoldHasher as folding
use Rattle.std.specs.HashMap.{get}
use Rattle.std.specs.List.{AllByRecursion, IsDistinct, count_by, fold, list_any, position_from}
use Rattle.std.specs.Map.{keys_of, values_of, lookup}
use Rattle.std.specs.declared.hash.FoldHasher.{FoldHasher}
use Rattle.std.specs.Ordering.{nat_cmp, ordering_then}
use Rattle.std.specs.declared.cmp.Ordering.{Ordering}
use Rattle.std.specs.Cmp.Lexicographic.{slice_cmp}
use Rattle.std.specs.Str.{bytes_eq}
use Rattle.gcl_model.specs.Collections.{words_from}
use Rattle.gcl_model.specs.Slots.{SlotRange}
use Rattle.index_shard.specs.Kept.{leading}
use Rattle.shard_build.specs.Groups.{group_of, unless_empty}
use Rattle.shard_build.specs.declared.numbers.Numbers.{Numbers}
use Rattle.shard_build.specs.declared.seen.Seen.{Seen}

-- the names with their lists, in the order of their numbers, and the names that were seen in the current file
pub record NamesContent : Type 0 where
  pub entries : List (List ℕ × List ℕ)
  pub seen : List Seen

-- the name with a number, or no bytes if there is none
abbrev pub name_at : List (List ℕ × List ℕ) → ℕ → List ℕ
name_at entries number = get_or (keys_of entries) number []

-- the list of the name with a number, or an empty one if there is none
abbrev pub list_at : List (List ℕ × List ℕ) → ℕ → List ℕ
list_at entries number = get_or (values_of entries) number []

-- the entries with another list at the name with a number
abbrev pub with_list : List (List ℕ × List ℕ) → ℕ → List ℕ → List (List ℕ × List ℕ)
with_list entries number list = slice_set entries number (name_at entries number, list)

-- the hash of a name, as a hasher that begins with this one gives it for a text
abbrev pub hash_by : FoldHasher → List ℕ → ℕ
hash_by initial name = folding.finish (fold folding.write initial (fed.str name))

-- the place of the first name with a hash, if the names begin at a place
abbrev pub first_with : (List ℕ → ℕ) → ℕ → ℕ → List (List ℕ) → Option ℕ
first_with hashed hash start names = position_from (λ name. nat_eq (hashed name) hash) start names

-- the place that is known for each hash is that of the first name with it
abbrev pub TellsFirsts : (List ℕ → ℕ) → (ℕ → Option ℕ) → List (List ℕ) → Type 0
TellsFirsts hashed told names = (hash : ℕ) → told hash ≡ first_with hashed hash 0 names

-- the place that is kept for a hash
abbrev pub told_by : Numbers → ℕ → Option ℕ
told_by numbers hash = get nat_eq numbers.places hash

-- the numbers of these names, each of which has its place as its number
abbrev pub AreNumbersOf : Numbers → List (List ℕ) → Type 0
AreNumbersOf numbers names = TellsFirsts (hash_by numbers.initial) (told_by numbers) names

-- something is known for the hashes of these names, and for no others
abbrev pub TellsHashes : (List ℕ → ℕ) → (ℕ → Option ℕ) → List (List ℕ) → Type 0
TellsHashes hashed told names = (hash : ℕ) → is_some (told hash) ≡ list_any (λ name. nat_eq (hashed name) hash) names

-- the names with these entries, of which these were seen
abbrev pub names_of : List (List ℕ × List ℕ) → List Seen → NamesContent
names_of entries seen = record { entries = entries; seen = seen }

-- how many of those that were seen have a number
abbrev pub times : ℕ → List Seen → ℕ
times number seen = count_by (λ s. nat_eq s.number number) seen

-- 0 of an empty list, and 1 of any other
abbrev pub filled : List ℕ → ℕ
filled [] = 0
filled (p ∷ ps) = 1

-- each is a byte
abbrev pub AreBytes : List ℕ → Type 0
AreBytes bytes = (k : ℕ) → get_or bytes k 0 < 256

-- the first eight bytes of a name as a number
pub record HasHead (head : ℕ) (name : List ℕ) : Type 0 where
  pub leads : head ≡ leading 8 0 name
  pub bytes : AreBytes name

-- what is noted of a name that was seen is right: it is one of the names, and its head is its first eight bytes
pub record IsNoted (names : List (List ℕ)) (s : Seen) : Type 0 where
  pub within : s.number < length names
  pub head : s.head ≡ leading 8 0 (get_or names s.number [])
  pub bytes : AreBytes (get_or names s.number [])

-- no name is listed twice, and exactly the names with addresses were seen, each of them once
pub record AreNames (n : NamesContent) : Type 0 where
  pub distinct : IsDistinct bytes_eq (keys_of n.entries)
  pub once : (number : ℕ) → times number n.seen ≡ filled (list_at n.entries number)
  pub noted : AllByRecursion (IsNoted (keys_of n.entries)) n.seen

-- the names, and their numbers
pub record AreNumbered (kept : Numbers) (n : NamesContent) : Type 0 where
  pub names : AreNames n
  pub numbers : AreNumbersOf kept (keys_of n.entries)

-- a name that was seen, with its list
abbrev pub row_at : List (List ℕ × List ℕ) → Seen → List ℕ × List ℕ
row_at entries s = (name_at entries s.number, list_at entries s.number)

-- the names that were seen with their lists, the last one first
abbrev pub rows_of : NamesContent → List (List ℕ × List ℕ)
rows_of n = map (row_at n.entries) (reverse n.seen)

-- the order of two that were seen, by their heads first, from the greater down
abbrev pub falling : List (List ℕ) → Seen → Seen → Ordering
falling names x y = ordering_then (nat_cmp y.head x.head) (slice_cmp nat_cmp (get_or names y.number []) (get_or names x.number []))

-- the addresses of a token in the current file, if it has any
abbrev pub addresses_of : NamesContent → List ℕ → Option (List ℕ)
addresses_of n token = unless_empty (unwrap_or (lookup (λ name. bytes_eq token name) n.entries) [])

-- the names have the addresses of these tokens, which are one after the other in a range
pub record HaveTokens (n : NamesContent) (range : SlotRange) (tokens : List (List ℕ)) : Type 0 where
  pub width : range.last + 1 ≡ range.first + length tokens
  pub some : range.first ≤ range.last
  pub lists : (token : List ℕ) → addresses_of n token ≡ group_of (words_from range.first tokens) token
