use Rattle.std.proofs.Common.{◌≡◌, ◌+◌, ◌*◌, ◌≤◌, length, take, IfOk, subst}
use Rattle.gcl_model.specs.FormOf.{form_of}
use Rattle.gcl_model.specs.Meaning.{concordance}
use Rattle.gcl_model.specs.Cost.{cost}
use Rattle.gcl_eval.specs.Costs.{near_cost}
use Rattle.gcl_eval.proofs.Listing.{all_members}
use Rattle.gcl_eval.proofs.members.list.Goals as goal

pub returns-clause-ok : goal.returns-clause-ok
returns-clause-ok g c = subst (λ list. IfOk c.list_from.result (λ members. members ≡ take c.args.most list)) (all_members (concordance (g.L.Leaves.text c.args.leaves.now) (form_of c.args.expr.now))) c.list_from.ensures.ok

pub returns-clause-cost : goal.returns-clause-cost
returns-clause-cost g c =
    let text = g.L.Leaves.text c.args.leaves.now in
    subst (λ list. c.list_from.new.steps ≤ c.args.steps.now + (length (take c.args.most list) + 1) * cost text (g.L.Leaves.most c.args.leaves.now) (form_of c.args.expr.now))
    (all_members (concordance text (form_of c.args.expr.now))) c.list_from.ensures.cost

pub returns-clause-near_cost : goal.returns-clause-near_cost
returns-clause-near_cost g c =
    let text = g.L.Leaves.text c.args.leaves.now in
    subst (λ list. c.list_from.new.steps ≤ c.args.steps.now + (length (take c.args.most list) + 1) * near_cost text (g.L.Leaves.most c.args.leaves.now) (form_of c.args.expr.now))
    (all_members (concordance text (form_of c.args.expr.now))) c.list_from.ensures.near_cost
