use Rattle.image_file.proofs.ImageLaws.{has_one_spelling}
use Rattle.image_file.proofs.laws.a_collection_has_one_spelling.Goals as goal

pub returns : goal.returns
returns c = has_one_spelling
