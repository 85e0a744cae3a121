-- The three steps that change a collection, as relations.
use Rattle.std.specs.Prelude.{◌≡◌, ℕ, true, List, ◌⊎◌}
use Rattle.gcl_model.specs.Collections.{Collection, CanAdd, with_file, has_file, without_file, IsSound}

-- a file with some name and some tokens was added
abbrev pub Adds : Collection → Collection → Type 0
Adds c d = (name : List ℕ) × (tokens : List (List ℕ)) × CanAdd c name tokens × (d ≡ with_file c name tokens)

-- a surviving file was deleted
abbrev pub Deletes : Collection → Collection → Type 0
Deletes c d = (id : ℕ) × (has_file c id ≡ true) × (d ≡ without_file c id)

-- an image, which is a sound collection of which nothing was deleted, takes the place of a collection that never had a file
pub record Opens (c d : Collection) : Type 0 where
  pub empty : c.next_id ≡ 0
  pub sound : IsSound d
  pub fresh : d.dels ≡ 0

-- d is c after one step
abbrev pub IsStep : Collection → Collection → Type 0
IsStep c d = Adds c d ⊎ (Deletes c d ⊎ Opens c d)
