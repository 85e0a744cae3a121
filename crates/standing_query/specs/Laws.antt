-- What the changes of two lists are.
use Rattle.std.specs.Prelude.{◌≡◌, ◌↔◌, ◌⊎◌, true, List, [], ◌∷◌}
use Rattle.std.specs.List.{AllByRecursion}
use Rattle.gcl_locality.specs.Changed.{is_lost}
use Rattle.gcl_model.specs.Extents.{Extent, IsRising}
use Rattle.standing_query.specs.declared.change.Change.{Change}
use Rattle.standing_query.specs.declared.change.Change.TheVariants.{Went, Came}
use Rattle.standing_query.specs.Changes.{interval_of, comes_before, changes}

-- the list has the change
abbrev pub Includes : List Change → Change → Type 0
Includes [] c = ⊥
Includes (d ∷ list) c = (d ≡ c) ⊎ Includes list c

-- the interval of each change comes before those of all that follow it
abbrev pub RiseInOrder : List Change → Type 0
RiseInOrder [] = Unit {0}
RiseInOrder (c ∷ list) = AllByRecursion (λ d. comes_before (interval_of c) (interval_of d) ≡ true) list × RiseInOrder list

-- the changes rise; what went is what is in the old list alone, and what came is what is in the new list alone
pub record AreChanges (old new : List Extent) (list : List Change) : Type 0 where
  pub rising : RiseInOrder list
  pub went : (a : Extent) → Includes list (Went a) ↔ (is_lost old new a ≡ true)
  pub came : (a : Extent) → Includes list (Came a) ↔ (is_lost new old a ≡ true)

-- the list of changes is that
abbrev pub ChangesAreExact : Type 0
ChangesAreExact = (old new : List Extent) → IsRising old → IsRising new → AreChanges old new (changes old new)
