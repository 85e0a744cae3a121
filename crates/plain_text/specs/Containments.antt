-- For proofs alone: what a containment keeps.
use Rattle.std.specs.Prelude.{Bool, not, List}
use Rattle.gcl_model.specs.Extents.{Extent, covers, is_inside}
use Rattle.gcl_model.specs.declared.containment.Containment.{Containment}
use Rattle.gcl_model.specs.declared.containment.Containment.TheVariants.{Containing, ContainedIn, NotContaining, NotContainedIn}

-- whether a member of the first list is kept by the second: `>` keeps those in which a member of the second is nested
abbrev pub keeps : Containment → List Extent → Extent → Bool
keeps Containing second = covers second
keeps ContainedIn second = is_inside second
keeps NotContaining second = λ c. not (covers second c)
keeps NotContainedIn second = λ c. not (is_inside second c)
