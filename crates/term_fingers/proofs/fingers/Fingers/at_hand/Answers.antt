use Rattle.std.proofs.Common.{subst}
use Rattle.gcl_model.specs.Texts.{IsText}
use Rattle.live_version.specs.Contents.{VersionContent, version_text}
use Rattle.live_version.proofs.WordLemmas.{version_is_text}
use Rattle.term_fingers.proofs.fingers.Fingers.at_hand.Goals as goal

pub returns-clause-sound : goal.returns-clause-sound
returns-clause-sound g c = subst (λ (v : VersionContent). IsText (version_text v)) c.self.view_is (version_is_text c.self.inside.version.now c.next-next.ensures.version)
