use Rattle.live_version.proofs.PartLaws.{has_files}
use Rattle.live_version.proofs.laws.a_version_has_the_files.Goals as goal

pub returns : goal.returns
returns c = has_files
