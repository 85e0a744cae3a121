-- What a save asks of a disk, step by step.
use Rattle.std.specs.Prelude.{◌≡◌, ℕ, List, [], ◌∷◌, ◌++◌, map, Option, None, Some, ⊤, ◌⊎◌}
use Rattle.std.specs.List.{concat}
use Rattle.outside_std.specs.declared.step.Step.{Step}
use Rattle.outside_std.specs.declared.step.Step.TheVariants.{Creates, Writes, Syncs, Renames, Removes, SyncsFolder}

-- if the steps of a disk are known, these came after the earlier ones
abbrev pub Adds : Option (List Step) → Option (List Step) → List Step → Type 0
Adds None now more = ⊤
Adds (Some before) None more = ⊥
Adds (Some before) (Some now) more = now ≡ before ++ more

-- a file gets these pieces, one after the other
abbrev pub written : List (List ℕ) → List Step
written pieces = map (λ piece. Writes piece) pieces

-- a file got this text: "to be" in the pieces "to" and " be", say
pub record Fills (before now : Option (List Step)) (text : List ℕ) : Type 0 where
  pub pieces : List (List ℕ)
  pub whole : concat pieces ≡ text
  pub is : Adds before now (written pieces)

-- a file got some bytes
pub record FillsSome (before now : Option (List Step)) : Type 0 where
  pub pieces : List (List ℕ)
  pub is : Adds before now (written pieces)

-- a file got this text, which then outlived a loss of power
pub record Stores (before now : Option (List Step)) (text : List ℕ) : Type 0 where
  pub pieces : List (List ℕ)
  pub whole : concat pieces ≡ text
  pub is : Adds before now (written pieces ++ Syncs ∷ [])

-- a save: a new file gets the bytes, outlives a loss of power, and only then takes the path, which then outlives one too
pub record Saves (before now : Option (List Step)) (path bytes : List ℕ) : Type 0 where
  pub name : List ℕ
  pub pieces : List (List ℕ)
  pub whole : concat pieces ≡ bytes
  pub is : Adds before now (Creates name ∷ (written pieces ++ (Syncs ∷ (Renames name path ∷ (SyncsFolder path ∷ [])))))

-- a save whose last step failed: the path has the bytes, but a loss of power may bring the old ones back
pub record Renamed (before now : Option (List Step)) (path bytes : List ℕ) : Type 0 where
  pub name : List ℕ
  pub pieces : List (List ℕ)
  pub whole : concat pieces ≡ bytes
  pub is : Adds before now (Creates name ∷ (written pieces ++ (Syncs ∷ (Renames name path ∷ []))))

-- a save that was given up earlier: the new file, synced or not, is removed, and no other name is touched
pub record Cleared (before now : Option (List Step)) : Type 0 where
  pub name : List ℕ
  pub pieces : List (List ℕ)
  pub synced : List Step
  pub whether : (synced ≡ []) ⊎ (synced ≡ Syncs ∷ [])
  pub is : Adds before now (Creates name ∷ (written pieces ++ (synced ++ (Removes name ∷ []))))

-- what a save leaves that does not succeed
abbrev pub GivesUp : Option (List Step) → Option (List Step) → List ℕ → List ℕ → Type 0
GivesUp before now path bytes = Adds before now [] ⊎ (Cleared before now ⊎ Renamed before now path bytes)
