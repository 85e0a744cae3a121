use Rattle.std.proofs.Common.{sym, ap, ◌∙◌, ◌++◌, subst}
use Rattle.gcl_model.specs.FormOf.{form_of}
use Rattle.gcl_readers.specs.Standing.{Stands}
use Rattle.gcl_readers.specs.NewPlaces.{new_places}
use Rattle.gcl_readers.proofs.NewStands.{stands_new}
use Rattle.gcl_readers.specs.MergeCost.{cost_left}
use Rattle.gcl_readers.proofs.NewCost.{cost_new}
use Rattle.gcl_readers.proofs.readers.Readers.new.Goals as goal

pub returns-clause-stands : goal.returns-clause-stands
returns-clause-stands c =
    let places = c.in_ok-put_places.ensures ∙ ap (λ l. l ++ new_places (form_of c.args.expr.now)) c.new-places.ensures.items in
    λ text. subst (Stands text (form_of c.args.expr.now)) (sym places) (stands_new text (form_of c.args.expr.now))

pub returns-clause-cost : goal.returns-clause-cost
returns-clause-cost c =
    let places = c.in_ok-put_places.ensures ∙ ap (λ l. l ++ new_places (form_of c.args.expr.now)) c.new-places.ensures.items in
    λ text most. ap (cost_left text most (form_of c.args.expr.now)) places ∙ cost_new text most (form_of c.args.expr.now)
