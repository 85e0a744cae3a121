use Rattle.live_version.proofs.PartLaws.{slots_are_parts}
use Rattle.live_version.proofs.laws.slots_are_parts.Goals as goal

pub returns : goal.returns
returns c = slots_are_parts
