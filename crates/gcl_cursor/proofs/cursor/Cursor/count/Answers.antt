use Rattle.std.proofs.Common.{◌∙◌, length, sym, ap, subst, arith}
use Rattle.gcl_model.specs.FormOf.{form_of}
use Rattle.gcl_model.specs.Meaning.{concordance}
use Rattle.gcl_readers.specs.Standing.{start_at}
use Rattle.gcl_cursor.specs.Cursors.{IsAt}
use Rattle.gcl_cursor.specs.declared.cursor.Cursor.{Cursor}
use Rattle.gcl_cursor.proofs.LeftLemmas.{from_later}
use Rattle.gcl_cursor.proofs.cursor.Cursor.count.Goals as goal

pub returns-in_default-clause-value : goal.returns-in_default-clause-value
returns-in_default-clause-value g c =
    let at = subst (λ (now : Cursor). IsAt (g.L.Leaves.text c.args.leaves.now) (form_of c.args.expr.now) c.args.from now) (sym c.replace.ensures.value ∙ c.in-Leaping.is) c.requires.at in
    let first = at.first in
    c.read_count-in_default.ensures.value
    ∙ ap length (from_later (start_at c.in-Leaping.readers) c.args.from (concordance (g.L.Leaves.text c.args.leaves.now) (form_of c.args.expr.now)) (omega (arith, first)))

pub returns-in-Reading-clause-value : goal.returns-in-Reading-clause-value
returns-in-Reading-clause-value g c =
    let at = subst (λ (now : Cursor). IsAt (g.L.Leaves.text c.args.leaves.now) (form_of c.args.expr.now) c.args.from now) (sym c.replace.ensures.value ∙ c.in-Reading.is) c.requires.at in
    c.read_count.ensures.value
    ∙ ap length (from_later (start_at c.in-Reading.readers) c.args.from (concordance (g.L.Leaves.text c.args.leaves.now) (form_of c.args.expr.now)) at.behind)
