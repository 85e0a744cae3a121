use Rattle.image_file.proofs.ImageLaws.{is_of_one_version}
use Rattle.image_file.proofs.laws.bytes_are_of_one_version.Goals as goal

pub returns : goal.returns
returns c = is_of_one_version
