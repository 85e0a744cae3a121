-- Laws of images.
use Rattle.std.specs.Prelude.{◌≡◌, ℕ, List}
use Rattle.gcl_model.specs.Collections.{Collection}
use Rattle.image_file.specs.declared.format.Format.{Format}
use Rattle.image_file.specs.declared.format.Format.TheVariants.{One, Two}
use Rattle.image_file.specs.Images.{CanBeSaid, HasShortTokens, Spells}

-- each collection that can be said has a spelling in version 2
abbrev pub HasSpelling : Type 0
HasSpelling = (c : Collection) → CanBeSaid Two c → HasShortTokens c → (bytes : List ℕ) × Spells Two bytes c

-- and no other in the same version
abbrev pub HasOneSpelling : Type 0
HasOneSpelling = (format : Format) (c : Collection) (bytes other : List ℕ) → Spells format bytes c → Spells format other c → bytes ≡ other

-- no bytes spell two collections
abbrev pub SpellsOne : Type 0
SpellsOne = (format other : Format) (bytes : List ℕ) (c d : Collection) → Spells format bytes c → Spells other bytes d → c ≡ d

-- no bytes are of both versions
abbrev pub IsOfOneVersion : Type 0
IsOfOneVersion = (bytes : List ℕ) (c d : Collection) → Spells One bytes c → Spells Two bytes d → ⊥
