-- What "both of" and "one of" do, by the direction in which they are asked.
use Rattle.std.specs.Prelude.{ℕ, List, Option}
use Rattle.gcl_model.specs.Extents.{Extent}
use Rattle.gcl_model.specs.declared.direction.Direction.{Direction}
use Rattle.gcl_model.specs.declared.direction.Direction.TheVariants.{Forward, Backward}
use Rattle.gcl_combine.specs.Farthest.{end_so_far, start_so_far}
use Rattle.gcl_combine.specs.Better.{nearer, nearer_back, best_forward, best_backward}

-- both of: the farthest of an address and of the far sides of the lists' answers at k; forward, of 4, (1, 6) and (2, 3) it is 6
abbrev pub farthest : Direction → List (List Extent) → (k so_far : ℕ) → Option ℕ
farthest Forward = end_so_far
farthest Backward = start_so_far

-- one of: the answer that comes first in this direction; forward, of (1, 6) and (2, 4) it is (2, 4)
abbrev pub better : Direction → Option Extent → Option Extent → Option Extent
better Forward = nearer
better Backward = nearer_back

-- the best of an answer and of the lists' answers at k; forward, of none, (2, 5) and (3, 4) it is (3, 4)
abbrev pub best : Direction → List (List Extent) → ℕ → Option Extent → Option Extent
best Forward = best_forward
best Backward = best_backward
