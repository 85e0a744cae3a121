-- One step over two lists that are compared.
use Rattle.std.specs.Prelude.{◌≡◌, Bool, false, List, ◌∷◌, Option, Some, None}
use Rattle.gcl_model.specs.Extents.{Extent, same_extent}

-- the first member of both lists is passed
pub record PassesBoth (old new old_rest new_rest : List Extent) : Type 0 where
  pub member : Extent
  pub old_is : old ≡ member ∷ old_rest
  pub new_is : new ≡ member ∷ new_rest

-- there are two members, and they are the same
abbrev pub are_same : Option Extent → Option Extent → Bool
are_same None b = false
are_same (Some a) None = false
are_same (Some a) (Some b) = same_extent a b
