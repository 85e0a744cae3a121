use Rattle.std.proofs.Common.{ℕ, ◌<◌, length, IfOk, subst}
use Rattle.gcl_model.specs.FormOf.{form_of}
use Rattle.gcl_cursor.specs.Cursors.{IsAt}
use Rattle.live_version.specs.Contents.{VersionContent, version_text}
use Rattle.manifest_publish.proofs.HistoryLemmas.{latest-one}
use Rattle.reader_pass.proofs.cursors.pass_page.Goals as goal

pub page_of-requires-clause-at : goal.page_of-requires-clause-at
page_of-requires-clause-at g c = c.requires.at c.version.result.now c.version.ensures.1

pub returns-clause-short : goal.returns-clause-short
returns-clause-short g c v latest =
    subst (λ (w : VersionContent). IfOk c.page_of.result (λ members. length members < c.args.page.most → (k : ℕ) → IsAt (version_text w) (form_of c.args.expr.now) k c.page_of.new.cursor))
    (latest-one c.args.pass.now.history c.version.result.now v c.version.ensures.1 latest) c.page_of.ensures.short
