-- The lists that the terms of a query have in the slots of a version.
use Rattle.std.specs.Prelude.{◌≡◌, ℕ, ◌+◌, ◌-◌, ◌<◌, ◌≤◌, Bool, ◌==◌, nat_lt, if◌then◌else◌, List, [], length, map, Option, None, Some, slice_get, slice_index}
use Rattle.std.specs.Option.{option_map}
use Rattle.gcl_model.specs.declared.direction.Direction.{Direction}
use Rattle.gcl_model.specs.declared.direction.Direction.TheVariants.{Forward, Backward}
use Rattle.index_shard.specs.Searched.{nearest}
use Rattle.index_shard.specs.Tables.{ShardContent, addresses_at, place_of}
use Rattle.live_version.specs.Contents.{SlotContent}
use Rattle.posting_code.specs.Postings.{ArePostings}
use Rattle.posting_access.specs.Search.{least_from, greatest_to}

-- the index of the slot with a number, counted from 0, if there is one
abbrev pub shard_at : List SlotContent → ℕ → Option ShardContent
shard_at slots number = option_map (λ (slot : SlotContent). slot.shard) (slice_get slots number)

-- the postings at a place of an index: none where there is no index
abbrev pub addresses_in : Option ShardContent → ℕ → List ℕ
addresses_in None place = []
addresses_in (Some shard) place = addresses_at shard.table place

-- the postings at a place of the index of the slot with a number
abbrev pub list_of : List SlotContent → ℕ → ℕ → List ℕ
list_of slots number place = addresses_in (shard_at slots number) place

-- for each slot the place of the term in its index, if the term is there
abbrev pub places_of : List ℕ → List SlotContent → List (Option ℕ)
places_of term slots = map (λ (slot : SlotContent). place_of slot.shard.table term) slots

-- whether a slot has no dead range
abbrev pub is_undeleted : SlotContent → Bool
is_undeleted slot = length slot.mask == 0

-- for each slot whether it has no dead range
abbrev pub undeleted_of : List SlotContent → List Bool
undeleted_of slots = map is_undeleted slots

-- the slot with a number has no dead range, if there is one
abbrev pub HasNoDead : List SlotContent → ℕ → Type 0
HasNoDead slots number = (slot : SlotContent) → slice_get slots number ≡ Some slot → slot.mask ≡ []

-- a place in the index of the slot with a number is where a term was found there, and the slot has no dead range
pub record IsOfUndeleted (slots : List SlotContent) (found : List (Option ℕ)) (number place : ℕ) : Type 0 where
  pub here : slice_get found number ≡ Some (Some place)
  pub undeleted : HasNoDead slots number

-- a part of a list determines what is nearest to k on either side: of 2, 5, 9 and 12 the part 5, 9 does so at 6
pub record TellsNearest (list part : List ℕ) (k : ℕ) : Type 0 where
  pub rising : ArePostings part
  pub least : least_from list k ≡ least_from part k
  pub greatest : greatest_to list k ≡ greatest_to part k

-- 1 for a member below k, else 0: of 5 it is 1 below 6, and 0 below 5
abbrev pub one_below : ℕ → ℕ → ℕ
one_below member k = if nat_lt member k then 1 else 0

-- the size of a part whose last member is below k, else 0: a part of 16 that ends with 5 counts as 16 below 6, and as 0 below 5
abbrev pub size_below : ℕ → ℕ → ℕ → ℕ
size_below last k size = if nat_lt last k then size else 0

-- the members below k end at or after place i, and at or before place j: of 2, 5 and 9 those below 6 end between 0 and 2
pub record EndBetween (members : List ℕ) (k i j : ℕ) : Type 0 where
  pub before : 0 < i → slice_index members (i - 1) < k
  pub after : j < length members → k ≤ slice_index members j

-- the first n members are those below k: of 2, 5 and 9 the first two are below 6
pub record AreBelow (members : List ℕ) (k n : ℕ) : Type 0 where
  pub within : n ≤ length members
  pub before : 0 < n → slice_index members (n - 1) < k
  pub after : n < length members → k ≤ slice_index members n

-- the number is the member at a place: 5 is one of 2, 5 and 9, at place 1
pub record IsAt (members : List ℕ) (p : ℕ) : Type 0 where
  pub place : ℕ
  pub within : place < length members
  pub is : slice_index members place ≡ p

-- each member of the first list, at or after k, with a member of the second right after it is at or after place i, and that one at or after j:
-- for 2, 5 and 9 and next to them 4 and 10, at or after 2, the places 2 and 1 are such
abbrev pub ArePassed : (first second : List ℕ) (k i j : ℕ) → Type 0
ArePassed first second k i j = (x y : ℕ) → x < length first → y < length second → k ≤ slice_index first x → slice_index first x + 1 ≡ slice_index second y → (i ≤ x) × (j ≤ y)

-- a member of the first list lies at or before k, and one of the second at or after r
pub record LieAround (first second : List ℕ) (k r : ℕ) : Type 0 where
  pub low : ℕ
  pub begins : IsAt first low
  pub from : low ≤ k
  pub high : ℕ
  pub ends : IsAt second high
  pub upto : r ≤ high

-- at or after k and before r no member of the first list has one of the second right after it, and if k < r, their members lie around
pub record LackPairs (first second : List ℕ) (k r : ℕ) : Type 0 where
  pub none : (p : ℕ) → k ≤ p → p < r → IsAt first p → IsAt second (p + 1) → ⊥
  pub around : k < r → LieAround first second k r

-- k lies between members of the list, and p is the one that is nearest to it on one side: of 2, 5 and 9 it is 5 forward from 3
pub record IsAtHand (direction : Direction) (list : List ℕ) (k p : ℕ) : Type 0 where
  pub is : Some p ≡ nearest direction list k
  pub around : LieAround list list k k

-- p lies forward from k, or backward from it, where it may be k itself: 5 lies forward from 3
abbrev pub LiesOn : Direction → ℕ → ℕ → Type 0
LiesOn Forward k p = k ≤ p
LiesOn Backward k p = p ≤ k
