use Rattle.live_version.proofs.ChangeLaw.{stands_for_one}
use Rattle.live_version.proofs.laws.a_version_stands_for_one.Goals as goal

pub returns : goal.returns
returns c = stands_for_one
