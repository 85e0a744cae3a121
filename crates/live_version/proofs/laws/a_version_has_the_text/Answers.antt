use Rattle.live_version.proofs.PartLaws.{has_text}
use Rattle.live_version.proofs.laws.a_version_has_the_text.Goals as goal

pub returns : goal.returns
returns c = has_text
