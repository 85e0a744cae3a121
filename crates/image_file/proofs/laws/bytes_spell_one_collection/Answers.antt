use Rattle.image_file.proofs.ImageLaws.{spells_one}
use Rattle.image_file.proofs.laws.bytes_spell_one_collection.Goals as goal

pub returns : goal.returns
returns c = spells_one
