use Rattle.std.proofs.Common.{◌≡◌, ◌+◌, ◌≤◌, length, subst}
use Rattle.gcl_model.specs.Texts.{Text}
use Rattle.gcl_model.specs.FormOf.{form_of}
use Rattle.gcl_model.specs.Meaning.{concordance}
use Rattle.live_version.specs.Contents.{VersionContent, version_text}
use Rattle.manifest_publish.proofs.HistoryLemmas.{latest-one}
use Rattle.reader_pass.specs.Members.{look_ups, access_most}
use Rattle.live_version.proofs.PartLaws.{has_text}
use Rattle.reader_pass.proofs.answers.pass_count.Goals as goal

pub returns-clause-version : goal.returns-clause-version
returns-clause-version g c v latest =
    subst (λ (w : VersionContent). c.count.result ≡ length (concordance (version_text w) (form_of c.args.expr.now)))
    (latest-one c.args.pass.now.history c.version.result.now v c.version.ensures.1 latest) c.count.ensures.value

pub returns-clause-collection : goal.returns-clause-collection
returns-clause-collection g c v d latest stands =
    subst (λ (text : Text). c.count.result ≡ length (concordance text (form_of c.args.expr.now))) (has_text v d stands) (returns-clause-version g c v latest)

pub returns-clause-cost : goal.returns-clause-cost
returns-clause-cost g c v latest =
    subst (λ (w : VersionContent). c.count.new.steps ≤ c.args.steps.now + look_ups (version_text w) (access_most w) (form_of c.args.expr.now) c.count.result)
    (latest-one c.args.pass.now.history c.version.result.now v c.version.ensures.1 latest) c.count.ensures.cost
