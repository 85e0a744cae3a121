-- What contracts say of readers.
use Rattle.std.specs.Prelude.{◌≡◌, ℕ, ◌+◌, ◌<◌, List, [], ◌∷◌, Option, Some, None}
use Rattle.gcl_model.specs.Extents.{Extent}
use Rattle.gcl_model.specs.Access.{first_start, first_end}
use Rattle.gcl_eval.specs.Members.{members_from}

-- where a page goes on: after the start of its last member, or where it began if it has none; for (1, 2) and (5, 6), begun at 0, that is 6
abbrev pub behind_page : ℕ → List Extent → ℕ
behind_page k [] = k
behind_page k (a ∷ members) = behind_page (a.start + 1) members

-- what going on from a member that ends before k comes to: a later member, at or after which the first one that ends at k or later is the
-- same; or none, if no member at or after the first one ends there
abbrev pub GoesOn : List Extent → ℕ → Extent → Option Extent → Type 0
GoesOn list k member None = first_end (members_from list member.start) k ≡ None
GoesOn list k member (Some a) =
    (first_start list a.start ≡ Some a) × (member.start < a.start) × (first_end (members_from list a.start) k ≡ first_end (members_from list member.start) k)
