use Rattle.std.proofs.Common.{sym, subst}
use Rattle.live_version.specs.Contents.{VersionContent}
use Rattle.live_version.specs.StandsFor.{StandsFor}
use Rattle.script_answers.proofs.saving.image_now.Goals as goal

pub returns : goal.returns
returns c = λ collection stands. c.in_ok-bytes.ensures.is collection (subst (λ (v : VersionContent). StandsFor v collection) (sym c.version.ensures.value) stands)
