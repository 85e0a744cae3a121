use Rattle.live_version.proofs.PartLaws.{words_are_of_files}
use Rattle.live_version.proofs.laws.words_are_of_files.Goals as goal

pub returns : goal.returns
returns c = words_are_of_files
