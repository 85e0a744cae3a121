use Rattle.image_file.proofs.ImageLaws.{has_spelling}
use Rattle.image_file.proofs.laws.collections_have_spellings.Goals as goal

pub returns : goal.returns
returns c = has_spelling
