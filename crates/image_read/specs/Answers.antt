-- What the reader of images answers.
use Rattle.std.specs.Prelude.{◌≡◌, ℕ, List, Option, None, Some}
use Rattle.gcl_model.specs.Collections.{Collection}
use Rattle.gcl_model.specs.Slots.{slots_after_open}
use Rattle.live_version.specs.Contents.{VersionContent, ranges_of}
use Rattle.live_version.specs.StandsFor.{StandsFor}
use Rattle.image_file.specs.declared.format.Format.{Format}
use Rattle.image_file.specs.Images.{Spells}

-- the version stands for a collection, as one does that was just opened
pub record IsOpened (v : VersionContent) (c : Collection) : Type 0 where
  pub number : v.number ≡ 0
  pub edition : v.edition ≡ 0
  pub dels : v.dels ≡ 0
  pub stands : StandsFor v c
  pub ranges : ranges_of v.slots ≡ slots_after_open c.files

-- the bytes are an image, in either version of the format, of the collection that the version stands for
abbrev pub IsImageOf : List ℕ → VersionContent → Type 0
IsImageOf bytes v = (format : Format) × (c : Collection) × Spells format bytes c × IsOpened v c

-- the bytes are the image of no collection
abbrev pub IsNoImage : List ℕ → Type 0
IsNoImage bytes = (format : Format) (c : Collection) → Spells format bytes c → ⊥

-- what is said of the bytes is so: they are an image of this collection, in either version of the format, or of none
abbrev pub IsReading : List ℕ → Option Collection → Type 0
IsReading bytes None = IsNoImage bytes
IsReading bytes (Some c) = (format : Format) × Spells format bytes c
