-- One of two lists that are gone through side by side.
use Rattle.std.specs.Prelude.{◌≡◌, ◌⊎◌, ℕ, zero, suc, ◌+◌, ◌*◌, ◌<◌, ◌≤◌, List, ◌++◌, length, drop, take_while}
use Rattle.gcl_model.specs.Extents.{Extent, IsRising}
use Rattle.near_search.specs.Contents.{starts_by}
use Rattle.query_search.specs.Pages.{Way, leaping, reading, ended}
use Rattle.change_search.specs.Costs.{paged_accesses}
use Rattle.change_search.specs.declared.side.Side.{Side}

-- what is left of the page, and what its pages have to come
abbrev pub found_and_left : Side → List Extent
found_and_left side = drop side.at side.page ++ side.rest.to_come

-- the members that are to come: of these, those before the first that starts after the upper address
abbrev pub to_come : Side → List Extent
to_come side = take_while (starts_by side.high) (found_and_left side)

-- the first member is found
abbrev pub IsFound : Side → Type 0
IsFound side = (side.at < length side.page) × (0 < length (to_come side))

-- how many accesses may be made if `left` members are to come, and `at` members of a page of `size` were passed: these pay for the next
-- page, and before the first page all accesses are left
abbrev pub accesses_left : (left at size : ℕ) → ℕ
accesses_left left at zero = paged_accesses (left + at)
accesses_left left at (suc size) = 3 * (left + at)

-- how many look-ups that is
abbrev pub look_ups_by : Way → (accesses : ℕ) → ℕ
look_ups_by (leaping each) accesses = accesses * each
look_ups_by (reading left) accesses = left
look_ups_by ended accesses = 0

-- how many look-ups a side may still make
abbrev pub look_ups : Side → ℕ
look_ups side = look_ups_by side.rest.way (accesses_left (length (to_come side)) side.at side.size)

-- if the next page may be asked for, the last one was full; its size was 0 or at least that of a first page
pub record IsSide (side : Side) : Type 0 where
  pub rising : IsRising (to_come side)
  pub full : (side.rest.way ≡ ended) ⊎ (length side.page ≡ side.size)
  pub size : (side.size ≡ 0) ⊎ (2 ≤ side.size)
