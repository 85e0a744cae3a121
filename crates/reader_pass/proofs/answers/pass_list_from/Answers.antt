use Rattle.std.proofs.Common.{◌≡◌, ◌+◌, ◌≤◌, length, IfOk, subst}
use Rattle.gcl_model.specs.Texts.{Text}
use Rattle.gcl_model.specs.FormOf.{form_of}
use Rattle.live_version.specs.Contents.{VersionContent, version_text}
use Rattle.manifest_publish.proofs.HistoryLemmas.{latest-one}
use Rattle.reader_pass.specs.Members.{first_members_from, look_ups, access_most}
use Rattle.live_version.proofs.PartLaws.{has_text}
use Rattle.reader_pass.proofs.answers.pass_list_from.Goals as goal

pub returns-clause-version : goal.returns-clause-version
returns-clause-version g c v latest =
    subst (λ (w : VersionContent). IfOk c.list_from.result (λ members. members ≡ first_members_from (version_text w) (form_of c.args.expr.now) c.args.k c.args.most))
    (latest-one c.args.pass.now.history c.version.result.now v c.version.ensures.1 latest) c.list_from.ensures.ok

pub returns-clause-collection : goal.returns-clause-collection
returns-clause-collection g c v d latest stands =
    subst (λ (text : Text). IfOk c.list_from.result (λ members. members ≡ first_members_from text (form_of c.args.expr.now) c.args.k c.args.most)) (has_text v d stands)
    (returns-clause-version g c v latest)

pub returns-clause-cost : goal.returns-clause-cost
returns-clause-cost g c v latest =
    subst (λ (w : VersionContent). c.list_from.new.steps ≤ c.args.steps.now + look_ups (version_text w) (access_most w) (form_of c.args.expr.now) (length (first_members_from (version_text w) (form_of c.args.expr.now) c.args.k c.args.most)))
    (latest-one c.args.pass.now.history c.version.result.now v c.version.ensures.1 latest) c.list_from.ensures.cost
