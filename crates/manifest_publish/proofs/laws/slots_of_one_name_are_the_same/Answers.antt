use Rattle.manifest_publish.proofs.OneName.{slots-keep-files}
use Rattle.manifest_publish.proofs.laws.slots_of_one_name_are_the_same.Goals as goal

pub returns : goal.returns
returns c = slots-keep-files
