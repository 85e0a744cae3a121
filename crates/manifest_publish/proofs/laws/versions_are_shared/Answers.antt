use Rattle.manifest_publish.proofs.PlaceLemmas.{version-shared}
use Rattle.manifest_publish.proofs.laws.versions_are_shared.Goals as goal

pub returns : goal.returns
returns c = version-shared
