use Rattle.manifest_publish.proofs.PlaceLemmas.{each-stands}
use Rattle.manifest_publish.proofs.laws.each_version_stands_for_a_collection.Goals as goal

pub returns : goal.returns
returns c = each-stands
