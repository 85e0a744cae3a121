use Rattle.manifest_publish.proofs.HistoryLemmas.{lawful-snoc}
use Rattle.manifest_publish.proofs.laws.a_next_version_may_be_added.Goals as goal

pub returns : goal.returns
returns c = lawful-snoc
