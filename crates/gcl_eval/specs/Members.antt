-- The members of a list at or after a position.
use Rattle.std.specs.Prelude.{◌≡◌, ℕ, ◌<◌, ◌≤◌, nat_le, List, filter, Some}
use Rattle.gcl_model.specs.Extents.{Extent}
use Rattle.gcl_model.specs.Access.{first_start}

-- the members that start at or after k: of (1, 2) and (5, 6) at or after 2 there is (5, 6)
abbrev pub members_from : List Extent → ℕ → List Extent
members_from list k = filter (λ a. nat_le k a.start) list

-- of two members that are found, the later one starts at or after the end of the earlier: this holds of (1, 2) and (2, 4), and not of
-- (1, 4) and (2, 5)
abbrev pub AreApart : List Extent → Type 0
AreApart list = (c d : Extent) (k l : ℕ) → Some c ≡ first_start list k → Some d ≡ first_start list l → c.start < d.start → c.end ≤ d.start
