use Rattle.std.proofs.Common.{sym, subst}
use Rattle.std.proofs.lemmas.Result.{IfOk-weaker}
use Rattle.gcl_model.specs.FormOf.{form_of}
use Rattle.gcl_cursor.specs.Cursors.{IsAt}
use Rattle.gcl_cursor.specs.declared.cursor.Cursor.{Cursor}
use Rattle.gcl_cursor.proofs.cursor.Cursor.page.Goals as goal

pub returns-in_default-clause-short : goal.returns-in_default-clause-short
returns-in_default-clause-short g c =
    IfOk-weaker c.read-in_default.result _ _ (λ members free. λ less k. subst (λ (now : Cursor). IsAt (g.L.Leaves.text c.args.leaves.now) (form_of c.args.expr.now) k now) (sym (free less)) tt) c.read-in_default.ensures.short

pub returns-in-Reading-clause-short : goal.returns-in-Reading-clause-short
returns-in-Reading-clause-short g c =
    IfOk-weaker c.read.result _ _ (λ members free. λ less k. subst (λ (now : Cursor). IsAt (g.L.Leaves.text c.args.leaves.now) (form_of c.args.expr.now) k now) (sym (free less)) tt) c.read.ensures.short
