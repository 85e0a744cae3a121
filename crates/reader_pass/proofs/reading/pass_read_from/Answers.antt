use Rattle.std.proofs.Common.{◌≡◌, ◌+◌, ◌≤◌, IfOk, subst}
use Rattle.gcl_model.specs.FormOf.{form_of}
use Rattle.gcl_readers.specs.MergeCost.{cost_left}
use Rattle.gcl_readers.specs.Standing.{Stands}
use Rattle.live_version.specs.Contents.{VersionContent, version_text}
use Rattle.manifest_publish.proofs.HistoryLemmas.{latest-one}
use Rattle.reader_pass.specs.Members.{first_members_from, access_most}
use Rattle.reader_pass.proofs.reading.pass_read_from.Goals as goal

pub read_from-requires-clause-stands : goal.read_from-requires-clause-stands
read_from-requires-clause-stands g c = c.requires.stands c.version.result.now c.version.ensures.1

pub returns-clause-version : goal.returns-clause-version
returns-clause-version g c v latest =
    subst (λ (w : VersionContent). IfOk c.read_from.result (λ members. members ≡ first_members_from (version_text w) (form_of c.args.expr.now) c.args.k c.args.most))
    (latest-one c.args.pass.now.history c.version.result.now v c.version.ensures.1 latest) c.read_from.ensures.ok

pub returns-clause-stands : goal.returns-clause-stands
returns-clause-stands g c v latest =
    subst (λ (w : VersionContent). Stands (version_text w) (form_of c.args.expr.now) c.read_from.new.readers)
    (latest-one c.args.pass.now.history c.version.result.now v c.version.ensures.1 latest) c.read_from.ensures.stands

pub returns-clause-cost : goal.returns-clause-cost
returns-clause-cost g c v latest =
    subst (λ (w : VersionContent). c.read_from.new.steps + cost_left (version_text w) (access_most w) (form_of c.args.expr.now) c.read_from.new.readers ≤ c.args.steps.now + cost_left (version_text w) (access_most w) (form_of c.args.expr.now) c.args.readers.now)
    (latest-one c.args.pass.now.history c.version.result.now v c.version.ensures.1 latest) c.read_from.ensures.cost
