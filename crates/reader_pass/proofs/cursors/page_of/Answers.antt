use Rattle.std.proofs.Common.{ℕ, ◌<◌, length, IfOk, subst}
use Rattle.gcl_model.specs.FormOf.{form_of}
use Rattle.gcl_cursor.specs.Cursors.{IsAt}
use Rattle.live_version.specs.Contents.{VersionContent, version_text}
use Rattle.reader_pass.proofs.cursors.page_of.Goals as goal

pub returns-clause-short : goal.returns-clause-short
returns-clause-short g c =
    subst (λ (v : VersionContent). IfOk c.page.result (λ members. length members < c.args.page.most → (k : ℕ) → IsAt (version_text v) (form_of c.args.expr.now) k c.page.new.self)) c.of-fingers.ensures
    c.page.ensures.short
