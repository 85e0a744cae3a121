use Rattle.std.proofs.Common.{sym, ap, subst, ◌∙◌}
use Rattle.gcl_model.specs.FormOf.{form_of}
use Rattle.gcl_model.specs.Meaning.{concordance}
use Rattle.gcl_model.specs.WellFormed.{IsWellFormed}
use Rattle.wide_terms.proofs.Shaping.{expansion_formed}
use Rattle.wide_terms.proofs.Spreading.{expansion_is_wide}
use Rattle.wide_terms.proofs.expanding.expand.Goals as goal

pub returns-clause-wide : goal.returns-clause-wide
returns-clause-wide g c =
    let text = g.T.WordTable.text c.args.table.now in
    ap (concordance text) c.in_ok-expanded.ensures.value ∙ expansion_is_wide text (form_of c.args.expr.now)

pub returns-clause-well_formed : goal.returns-clause-well_formed
returns-clause-well_formed g c =
    subst IsWellFormed (sym c.in_ok-expanded.ensures.value) (expansion_formed (g.T.WordTable.text c.args.table.now) (form_of c.args.expr.now) c.requires)
