use Rattle.std.proofs.Common.{◌≡◌, IfSome, length, subst}
use Rattle.gcl_model.specs.Texts.{Text}
use Rattle.gcl_model.specs.FormOf.{form_of}
use Rattle.gcl_model.specs.Meaning.{concordance}
use Rattle.live_version.specs.Contents.{VersionContent, version_text}
use Rattle.live_version.proofs.PartLaws.{has_text}
use Rattle.manifest_publish.proofs.HistoryLemmas.{latest-one}
use Rattle.reader_pass.proofs.answers.pass_listed_count.Goals as goal

pub returns-clause-version : goal.returns-clause-version
returns-clause-version c v latest =
    subst (λ (w : VersionContent). IfSome c.listed_count.result (λ count. count ≡ length (concordance (version_text w) (form_of c.args.expr.now))))
    (latest-one c.args.pass.now.history c.version.result.now v c.version.ensures.1 latest) c.listed_count.ensures

pub returns-clause-collection : goal.returns-clause-collection
returns-clause-collection c v d latest stands =
    subst (λ (text : Text). IfSome c.listed_count.result (λ count. count ≡ length (concordance text (form_of c.args.expr.now)))) (has_text v d stands) (returns-clause-version c v latest)
