use Rattle.std.proofs.Common.{subst}
use Rattle.gcl_model.specs.FormOf.{form_of}
use Rattle.gcl_cursor.specs.Cursors.{IsAt}
use Rattle.live_version.specs.Contents.{VersionContent, version_text}
use Rattle.manifest_publish.proofs.HistoryLemmas.{latest-one}
use Rattle.reader_pass.proofs.cursors.pass_number.Goals as goal

pub number_of-requires-clause-at : goal.number_of-requires-clause-at
number_of-requires-clause-at g c = c.requires.at c.version.result.now c.version.ensures.1

pub returns-clause-at : goal.returns-clause-at
returns-clause-at g c v latest k =
    subst (λ (w : VersionContent). IsAt (version_text w) (form_of c.args.expr.now) k c.number_of.new.cursor)
    (latest-one c.args.pass.now.history c.version.result.now v c.version.ensures.1 latest) (c.number_of.ensures.at k)
