use Rattle.std.proofs.Common.{◌∙◌, take, ap}
use Rattle.gcl_model.specs.FormOf.{form_of}
use Rattle.gcl_model.specs.Meaning.{concordance}
use Rattle.gcl_readers.specs.Standing.{start_at}
use Rattle.gcl_cursor.proofs.LeftLemmas.{from_later}
use Rattle.gcl_cursor.proofs.cursor.Cursor.read.Goals as goal

pub returns-clause-ok : goal.returns-clause-ok
returns-clause-ok g c =
    c.in_ok-members.ensures.ok
    ∙ ap (take c.args.page.most) (from_later (start_at c.args.readers) c.args.page.from (concordance (g.L.Leaves.text c.args.leaves.now) (form_of c.args.expr.now)) c.requires.behind)
