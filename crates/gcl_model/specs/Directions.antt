-- What both directions along a list have in common, defined once: going forward, the near side of a member is its start and the far side
-- its end; going backward it is the other way round.
use Rattle.std.specs.Prelude.{ℕ, ◌≤◌, List, Option, min, max}
use Rattle.gcl_model.specs.Extents.{Extent, extent}
use Rattle.gcl_model.specs.Access.{first_start, first_end, last_end, last_start}
use Rattle.gcl_model.specs.declared.direction.Direction.{Direction}
use Rattle.gcl_model.specs.declared.direction.Direction.TheVariants.{Forward, Backward}

-- the other way: of forward it is backward
abbrev pub opposite : Direction → Direction
opposite Forward = Backward
opposite Backward = Forward

-- the access by the near sides: forward, of (1, 2) and (5, 6) at 2 it gives (5, 6)
abbrev pub near_access : Direction → List Extent → ℕ → Option Extent
near_access Forward = first_start
near_access Backward = last_end

-- the access by the far sides: forward, of (1, 2) and (5, 6) at 2 it gives (1, 2)
abbrev pub far_access : Direction → List Extent → ℕ → Option Extent
far_access Forward = first_end
far_access Backward = last_start

-- the side of an interval that is reached last: forward, of (1, 6) it is 6
abbrev pub far_side : Direction → Extent → ℕ
far_side Forward a = a.end
far_side Backward a = a.start

-- the interval with these sides: backward, from the near side 6 to the far side 4 it is (4, 6)
abbrev pub between : Direction → ℕ → ℕ → Extent
between Forward near far = extent near far
between Backward near far = extent far near

-- the farther of two addresses: forward, of 4 and 6 it is 6
abbrev pub farther : Direction → ℕ → ℕ → ℕ
farther Forward = max
farther Backward = min

-- v lies as far as u in this direction, or farther: forward, 4 lies as far as 3
abbrev pub IsAsFar : Direction → ℕ → ℕ → Type 0
IsAsFar Forward u v = u ≤ v
IsAsFar Backward u v = v ≤ u
