-- Worked examples of answers.
use Rattle.std.proofs.Common.{◌≡◌, List, [], ◌∷◌, refl}
use Rattle.gcl_model.specs.Extents.{Extent, extent}
use Rattle.query_lanes.specs.declared.asks.Asked.TheVariants.{All, First, Number}
use Rattle.query_lanes.specs.declared.asks.Found.TheVariants.{List as Members, Total}
use Rattle.query_lanes.specs.Answers.{found_in}

-- the members of "to" over `to be or not to be` at address 0
abbrev to_list : List Extent
to_list = extent 1 1 ∷ extent 5 5 ∷ []

found_in-all : found_in All to_list ≡ Members to_list
found_in-all = refl

found_in-first : found_in (First 1) to_list ≡ Members (extent 1 1 ∷ [])
found_in-first = refl

found_in-more : found_in (First 9) to_list ≡ Members to_list
found_in-more = refl

found_in-number : found_in Number to_list ≡ Total 2
found_in-number = refl
