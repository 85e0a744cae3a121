-- How a list is kept: the differences between its members, packed. Images have them too; the rest is for this crate alone.
use Rattle.std.specs.Prelude.{◌≡◌, ℕ, zero, suc, ◌+◌, ◌-◌, ◌*◌, ◌/◌, ◌%◌, ◌^◌, ◌<◌, ◌≤◌, List, [], ◌∷◌, ◌++◌, length, drop, get_or, nat_lt, ◌==◌, if◌then◌else◌}
use Rattle.posting_code.specs.declared.head.Head.{Head}
use Rattle.posting_code.specs.Numbers.{spelling}
use Rattle.posting_code.specs.Postings.{RiseWithin, ArePostings}

-- the members after one, by their packed differences; value and scale are of the number that is being read
abbrev pub unpacked : ℕ → ℕ → ℕ → List ℕ → List ℕ
unpacked before value scale [] = []
unpacked before value scale (b ∷ bs) =
    if nat_lt b 128 then (before + (value + scale * b)) ∷ unpacked (before + (value + scale * b)) 0 1 bs
    else unpacked before (value + scale * (b - 128)) (scale * 128) bs

-- the members after the one before place `at`
abbrev pub members_behind : List ℕ → ℕ → ℕ → List ℕ
members_behind packed before at = unpacked before 0 1 (drop at packed)

-- the members of a list, by their number, the first and the packed differences
abbrev pub kept : ℕ → ℕ → List ℕ → List ℕ
kept zero first packed = []
kept (suc count) first packed = first ∷ unpacked first 0 1 packed

-- the packed differences of the members after one: of 5 and 8 after 3 they are 2 and 3
abbrev pub packed_from : ℕ → List ℕ → List ℕ
packed_from before [] = []
packed_from before (p ∷ ps) = spelling (p - before) ++ packed_from p ps

-- those of a whole list, whose first member is stored separately
abbrev pub packed_of : List ℕ → List ℕ
packed_of [] = []
packed_of (p ∷ ps) = packed_from p ps

-- starting at the place are the differences of some rising members after `before`
pub record CanUnpack (packed : List ℕ) (before at : ℕ) : Type 0 where
  pub rising : RiseWithin (before + 1) (2 ^ 56) (members_behind packed before at)
  pub spelled : drop at packed ≡ packed_from before (members_behind packed before at)

-- the head is that of the member at a place of the list, and the members after it can be read
pub record StandsAt (list packed : List ℕ) (place : ℕ) (head : Head) : Type 0 where
  pub can : CanUnpack packed head.first head.at
  pub within : head.at ≤ length packed
  pub is : drop place list ≡ head.first ∷ members_behind packed head.first head.at

-- the head of the block whose first member is at the place in the list
pub record IsHead (list packed : List ℕ) (place : ℕ) (head : Head) : Type 0 where
  pub first : head.first ≡ get_or list place 0
  pub within : head.at ≤ length packed
  pub rest : drop head.at packed ≡ packed_from head.first (drop (place + 1) list)

-- the parts of a list belong together
pub record IsKept (count first : ℕ) (packed : List ℕ) (heads : List Head) : Type 0 where
  pub rising : ArePostings (kept count first packed)
  pub counted : count ≡ length (kept count first packed)
  pub differences : packed ≡ packed_of (kept count first packed)
  pub marked : length heads ≡ (count + 63) / 64 - 1
  pub blocks : (b : ℕ) (d : Head) → b < length heads → IsHead (kept count first packed) packed (64 * (b + 1)) (get_or heads b d)

-- the last member, or 0 if there is none
abbrev pub last_of : List ℕ → ℕ
last_of [] = 0
last_of (p ∷ []) = p
last_of (p ∷ q ∷ qs) = last_of (q ∷ qs)

-- the same, and the last member is stored next to them
pub record IsKeptTo (last count first : ℕ) (packed : List ℕ) (heads : List Head) : Type 0 where
  pub parts : IsKept count first packed heads
  pub end : last ≡ last_of (kept count first packed)

-- where a block begins: the first at the beginning, and each later one by its head
abbrev pub head_at : ℕ → List Head → ℕ → Head
head_at first heads zero = record { first = first; at = 0 }
head_at first heads (suc b) = get_or heads b (record { first = first; at = 0 })

-- the heads after one more member than `count`: one more if it begins a block
abbrev pub heads_behind : ℕ → List Head → Head → List Head
heads_behind count heads head = if (count % 64) == 0 then heads ++ head ∷ [] else heads
