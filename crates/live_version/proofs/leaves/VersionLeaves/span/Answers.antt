use Rattle.live_version.proofs.WordLemmas.{version_is_text}
use Rattle.live_version.proofs.leaves.VersionLeaves.span.Goals as goal

pub returns-clause-sound : goal.returns-clause-sound
returns-clause-sound c = version_is_text c.args.self.now c.first.ensures.version
