-- The two ways through a list: on to an end, and back to a start. What is proved of both ways is proved once.
use Rattle.std.proofs.Common.{◌≡◌, ℕ, Bool, leb, List, Option}
use Rattle.gcl_model.specs.Extents.{Extent, covers, IsRising}
use Rattle.gcl_model.specs.Directions.{near_access, far_side, between}
use Rattle.gcl_model.specs.declared.direction.Direction.{Direction}
use Rattle.gcl_model.specs.declared.direction.Direction.TheVariants.{Forward, Backward}
use Rattle.std.specs.Option.{option_map}
use Rattle.gcl_model.proofs.Reach.{at_most, at_least, list_reaches}

-- y lies as far as x, or farther
abbrev pub is_as_far : Direction → ℕ → ℕ → Bool
is_as_far Forward x y = leb x y
is_as_far Backward x y = leb y x

-- there is an address, and y lies as far
abbrev pub reaches : Direction → Option ℕ → ℕ → Bool
reaches Forward = at_most
reaches Backward = at_least

-- the answer at k determines what is covered at or after k
pub covers_by : (way : Direction) (list : List Extent) → IsRising list → (k w : ℕ) → covers list (between way k w) ≡ reaches way (option_map (far_side way) (near_access way list k)) w
covers_by Forward list r k w = (list_reaches list r).forward_is k w
covers_by Backward list r k w = (list_reaches list r).backward_is w k
