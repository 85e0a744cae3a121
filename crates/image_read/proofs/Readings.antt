-- Bytes are read rightly in one way.
use Rattle.std.proofs.Common.{◌≡◌, ℕ, List, Option, Some, None, refl, ap}
use Rattle.gcl_model.specs.Collections.{Collection}
use Rattle.image_file.specs.declared.format.Format.{Format}
use Rattle.image_file.specs.Images.{Spells}
use Rattle.image_file.proofs.ImageLaws.{spells_one}
use Rattle.image_read.specs.Answers.{IsNoImage, IsReading}

-- an image as one of its collection
pub reads : (bytes : List ℕ) (o : Option Collection) (format : Format) (c : Collection) → Spells format bytes c → IsReading bytes o → o ≡ Some c
reads bytes None format c spells reading = absurd (reading format c spells)
reads bytes (Some d) format c spells reading = ap Some (spells_one reading.0 format bytes d c reading.1 spells)

-- and others as one of none
pub reads_none : (bytes : List ℕ) (o : Option Collection) → IsNoImage bytes → IsReading bytes o → o ≡ None
reads_none bytes None none reading = refl
reads_none bytes (Some c) none reading = absurd (none reading.0 c reading.1)
