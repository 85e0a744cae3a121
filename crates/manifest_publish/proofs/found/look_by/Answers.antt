use Rattle.manifest_publish.proofs.Steps.{enters}
use Rattle.manifest_publish.proofs.found.look_by.Goals as goal

pub enter_as-requires : goal.enter_as-requires
enter_as-requires c = enters _ _
