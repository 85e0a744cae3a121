-- Where a reader stands in a list, and which members are left to it.
use Rattle.std.specs.Prelude.{◌≡◌, ℕ, ◌+◌, ◌<◌, List, Option, Some, None}
use Rattle.gcl_model.specs.Extents.{Extent}
use Rattle.gcl_model.specs.Limits.{address_end}
use Rattle.gcl_model.specs.Access.{first_start}
use Rattle.gcl_eval.specs.Members.{members_from}
use Rattle.gcl_readers.specs.declared.front.Front.{Front}
use Rattle.gcl_readers.specs.declared.front.Front.TheVariants.{Before, On, Between, End}

-- the members that are left start here or later: at (2, 5) it is 2
abbrev pub start_left : Front → ℕ
start_left Before = 0
start_left (On a) = a.start
start_left (Between a next) = a.start
start_left End = address_end

-- the members that are left: of (1, 2) and (5, 6) at (5, 6) there is (5, 6)
abbrev pub left_of : List Extent → Front → List Extent
left_of list front = members_from list (start_left front)

-- what the front says about the list: its member is one, and the next one comes right after it
abbrev pub IsFrontOf : List Extent → Front → Type 0
IsFrontOf list Before = Unit {0}
IsFrontOf list (On a) = first_start list a.start ≡ Some a
IsFrontOf list (Between a next) = (first_start list a.start ≡ Some a) × (first_start list (a.start + 1) ≡ next)
IsFrontOf list End = Unit {0}

-- the first of the members that are left, if it is known
abbrev pub member_of : Front → Option Extent
member_of Before = None
member_of (On a) = Some a
member_of (Between a next) = Some a
member_of End = None

-- the front if this was found
abbrev pub front_at : Option Extent → Front
front_at None = End
front_at (Some a) = On a

-- the last that was looked for: if the next member is known, it is that one
abbrev pub asked_of : Front → Front
asked_of Before = Before
asked_of (On a) = On a
asked_of (Between a next) = front_at next
asked_of End = End

-- the first member at or after k is not known: at (2, 5) it is not for k = 3 or more
abbrev pub IsUnknown : Front → ℕ → Type 0
IsUnknown Before k = Unit {0}
IsUnknown (On a) k = a.start < k
IsUnknown (Between a None) k = ⊥
IsUnknown (Between a (Some next)) k = (a.start < k) × (next.start < k)
IsUnknown End k = ⊥

-- where an answer starts, and past all addresses if there is none
abbrev pub start_or_end : Option Extent → ℕ
start_or_end None = address_end
start_or_end (Some a) = a.start

-- what holds of the last member that was looked for, or of None before the first; if that found no member, nothing is said
abbrev pub WhereAsked : (Option Extent → Type 0) → Front → Type 0
WhereAsked P Before = P None
WhereAsked P (On a) = P (Some a)
WhereAsked P (Between a None) = Unit {0}
WhereAsked P (Between a (Some next)) = P (Some next)
WhereAsked P End = Unit {0}

-- after the start of a member: for (2, 5) it is 3, and for none 0
abbrev pub after : Option Extent → ℕ
after None = 0
after (Some a) = a.start + 1

-- after its end: for (2, 5) it is 6, and for none 0
abbrev pub past : Option Extent → ℕ
past None = 0
past (Some a) = a.end + 1

-- the new front is at the first member at or after k that is left at the old front
pub record IsTold (list : List Extent) (front : Front) (k : ℕ) (new : Front) : Type 0 where
  pub kept : IsFrontOf list new
  pub answer : member_of new ≡ first_start (left_of list front) k
  pub moved : start_left new ≡ start_or_end (member_of new)
