use Rattle.std.proofs.Common.{ap}
use Rattle.std.specs.Option.{is_some}
use Rattle.image_read.proofs.read.read_image.Goals as goal

pub returns-in-None-clause-not_image : goal.returns-in-None-clause-not_image
returns-in-None-clause-not_image c none = c.in_ok-version.ensures.none (ap is_some c.in-None.is)
