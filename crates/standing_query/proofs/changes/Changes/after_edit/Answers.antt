use Rattle.std.proofs.Common.{◌+◌, ◌∙◌, ap, sym, subst, arith}
use Rattle.gcl_locality.specs.Changed.{changed_from, changed_upto}
use Rattle.gcl_locality.specs.Laws.{DifferBetween}
use Rattle.gcl_model.specs.FormOf.{form_of}
use Rattle.gcl_model.specs.Wide.{wide}
use Rattle.live_version.specs.Contents.{version_text}
use Rattle.standing_query.specs.Edits.{touching_cost}
use Rattle.standing_query.proofs.LocalLemmas.{expansions_differ, expansions_change, expansions_cost}
use Rattle.standing_query.proofs.changes.Changes.after_edit.Goals as goal

pub between-requires-clause-local : goal.between-requires-clause-local
between-requires-clause-local g c =
    let old = version_text c.args.old.now in
    let new = version_text c.args.new.now in
    let form = form_of c.args.expr.now in
    let differ : DifferBetween (wide old form) (wide new form) (changed_from old new c.args.edited.first form) (changed_upto old new c.args.edited.last form) = c.changes_are_local.ensures old new c.args.edited.first c.args.edited.last form c.requires.local in
    expansions_differ c.expansions_are_wide.ensures c.args.old.now c.args.new.now form (form_of c.args.old_expr.now) (form_of c.args.new_expr.now) c.requires.old_is c.requires.new_is c.changed_addresses-addresses.result.low c.changed_addresses-addresses.result.high
    (subst (λ low. DifferBetween (wide old form) (wide new form) low c.changed_addresses-addresses.result.high) (sym c.changed_addresses-addresses.ensures.low)
    (subst (λ high. DifferBetween (wide old form) (wide new form) (changed_from old new c.args.edited.first form) high) (sym c.changed_addresses-addresses.ensures.high) differ))

pub returns-clause-to_come : goal.returns-clause-to_come
returns-clause-to_come g c =
    c.between.ensures.to_come ∙ expansions_change c.expansions_are_wide.ensures c.args.old.now c.args.new.now (form_of c.args.expr.now) (form_of c.args.old_expr.now) (form_of c.args.new_expr.now) c.requires.old_is c.requires.new_is

pub returns-clause-cost : goal.returns-clause-cost
returns-clause-cost g c =
    let form = form_of c.args.expr.now in
    let old = version_text c.args.old.now in
    let new = version_text c.args.new.now in
    let sides = expansions_cost c.expansions_are_wide.ensures c.args.old.now c.args.new.now form (form_of c.args.old_expr.now) (form_of c.args.new_expr.now) c.requires.old_is c.requires.new_is c.changed_addresses-addresses.result.low c.changed_addresses-addresses.result.high c.between.result.look_ups c.between.ensures.look_ups in
    let same = sides ∙ ap (λ low. touching_cost c.args.old.now low c.changed_addresses-addresses.result.high form + touching_cost c.args.new.now low c.changed_addresses-addresses.result.high form) c.changed_addresses-addresses.ensures.low
    ∙ ap (λ high. touching_cost c.args.old.now (changed_from old new c.args.edited.first form) high form + touching_cost c.args.new.now (changed_from old new c.args.edited.first form) high form) c.changed_addresses-addresses.ensures.high in
    omega (arith, same, c.changed_addresses-addresses.ensures.cost)
