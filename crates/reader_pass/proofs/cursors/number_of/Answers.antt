use Rattle.std.proofs.Common.{subst}
use Rattle.gcl_model.specs.FormOf.{form_of}
use Rattle.gcl_cursor.specs.Cursors.{IsAt}
use Rattle.live_version.specs.Contents.{VersionContent, version_text}
use Rattle.reader_pass.proofs.cursors.number_of.Goals as goal

pub returns-clause-at : goal.returns-clause-at
returns-clause-at g c k =
    subst (λ (v : VersionContent). IsAt (version_text v) (form_of c.args.expr.now) k c.count.new.self) c.of-fingers.ensures (c.count.ensures.at k)
