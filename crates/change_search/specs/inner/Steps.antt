-- What a step through two lists does.
use Rattle.std.specs.Prelude.{◌≡◌, ◌+◌, ◌<◌, List, [], ◌∷◌, length}
use Rattle.gcl_model.specs.Extents.{Extent}
use Rattle.standing_query.specs.Changes.{changes}
use Rattle.change_search.specs.declared.step.Step.{Step}
use Rattle.change_search.specs.declared.step.Step.TheVariants.{Tells, Skips, Ends}

-- A step from two lists to what it leaves of them: it gives their first change, or skips a member of both, or both are at their end
abbrev pub IsStep : (old new left right : List Extent) → Step → Type 0
IsStep old new left right (Tells change) = changes old new ≡ change ∷ changes left right
IsStep old new left right Skips = (changes old new ≡ changes left right) × (length left + length right < length old + length new)
IsStep old new left right Ends = (old ≡ []) × (new ≡ [])
