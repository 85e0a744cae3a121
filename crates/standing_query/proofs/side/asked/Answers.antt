use Rattle.std.proofs.Common.{◌∙◌, ap, leb}
use Rattle.gcl_model.specs.FormOf.{form_of}
use Rattle.gcl_model.proofs.Meanings.{concordance_rises}
use Rattle.live_version.specs.Contents.{version_text}
use Rattle.standing_query.specs.Changes.{members}
use Rattle.standing_query.specs.inner.Sides.{access_cost, head_at}
use Rattle.standing_query.proofs.SideLemmas.{lasts_by_end, lasts_by_start, asked_stands, asked_leaves, asked_costs}
use Rattle.standing_query.proofs.side.asked.Goals as goal

pub returns-in-Ending-clause-head : goal.returns-in-Ending-clause-head
returns-in-Ending-clause-head g c =
    asked_stands (members c.args.version.now (form_of c.args.expr.now)) (concordance_rises (version_text c.args.version.now) (form_of c.args.expr.now)) c.args.high (λ a. leb c.in-Ending.k a.end) (lasts_by_end c.in-Ending.k)
    c.at.result (c.at.ensures ∙ ap (λ o. head_at o c.args.high) c.first_end.ensures.answer)

pub returns-in-Ending-clause-left : goal.returns-in-Ending-clause-left
returns-in-Ending-clause-left g c =
    rw c.in-Ending.is (asked_leaves (members c.args.version.now (form_of c.args.expr.now)) (concordance_rises (version_text c.args.version.now) (form_of c.args.expr.now)) c.args.high (λ a. leb c.in-Ending.k a.end) (lasts_by_end c.in-Ending.k)
    c.at.result (c.at.ensures ∙ ap (λ o. head_at o c.args.high) c.first_end.ensures.answer))

pub returns-in-Ending-clause-cost : goal.returns-in-Ending-clause-cost
returns-in-Ending-clause-cost g c =
    rw c.in-Ending.is (asked_costs (members c.args.version.now (form_of c.args.expr.now)) (concordance_rises (version_text c.args.version.now) (form_of c.args.expr.now)) c.args.high (λ a. leb c.in-Ending.k a.end) (lasts_by_end c.in-Ending.k)
    c.at.result (c.at.ensures ∙ ap (λ o. head_at o c.args.high) c.first_end.ensures.answer) c.args.steps.now c.first_end.new.steps (access_cost c.args.version.now (form_of c.args.expr.now)) c.first_end.ensures.cost)

pub returns-in-Starting-clause-head : goal.returns-in-Starting-clause-head
returns-in-Starting-clause-head g c =
    asked_stands (members c.args.version.now (form_of c.args.expr.now)) (concordance_rises (version_text c.args.version.now) (form_of c.args.expr.now)) c.args.high (λ a. leb c.in-Starting.k a.start) (lasts_by_start c.in-Starting.k)
    c.at-in-Starting.result (c.at-in-Starting.ensures ∙ ap (λ o. head_at o c.args.high) c.first_start.ensures.answer)

pub returns-in-Starting-clause-left : goal.returns-in-Starting-clause-left
returns-in-Starting-clause-left g c =
    rw c.in-Starting.is (asked_leaves (members c.args.version.now (form_of c.args.expr.now)) (concordance_rises (version_text c.args.version.now) (form_of c.args.expr.now)) c.args.high (λ a. leb c.in-Starting.k a.start) (lasts_by_start c.in-Starting.k)
    c.at-in-Starting.result (c.at-in-Starting.ensures ∙ ap (λ o. head_at o c.args.high) c.first_start.ensures.answer))

pub returns-in-Starting-clause-cost : goal.returns-in-Starting-clause-cost
returns-in-Starting-clause-cost g c =
    rw c.in-Starting.is (asked_costs (members c.args.version.now (form_of c.args.expr.now)) (concordance_rises (version_text c.args.version.now) (form_of c.args.expr.now)) c.args.high (λ a. leb c.in-Starting.k a.start) (lasts_by_start c.in-Starting.k)
    c.at-in-Starting.result (c.at-in-Starting.ensures ∙ ap (λ o. head_at o c.args.high) c.first_start.ensures.answer) c.args.steps.now c.first_start.new.steps (access_cost c.args.version.now (form_of c.args.expr.now)) c.first_start.ensures.cost)
