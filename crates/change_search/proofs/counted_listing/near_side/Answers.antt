use Rattle.std.proofs.Common.{◌≡◌, ℕ, ◌≤◌, rules, filter, length, take_while, sym, ap, ◌∙◌, subst, arith}
use Rattle.gcl_model.specs.Extents.{IsRising}
use Rattle.gcl_model.specs.FormOf.{form_of}
use Rattle.gcl_model.specs.Forms.{Form}
use Rattle.gcl_model.specs.declared.expr.Expr.{Expr}
use Rattle.gcl_model.proofs.Meanings.{concordance_rises}
use Rattle.gcl_locality.specs.Changed.{touches}
use Rattle.live_version.specs.Contents.{VersionContent, version_text}
use Rattle.collection.specs.Engines.{last_of}
use Rattle.near_search.specs.Contents.{IsNearWay, starts_by}
use Rattle.near_search.specs.Costs.{near_listing_cost, near_opening_cost}
use Rattle.standing_query.specs.Changes.{members}
use Rattle.standing_query.proofs.LocalLemmas.{kept_rises}
use Rattle.change_search.specs.Costs.{paged_accesses}
use Rattle.change_search.specs.inner.Sides.{look_ups_by, to_come}
use Rattle.change_search.proofs.OpeningLemmas.{near_paid}
use Rattle.change_search.proofs.counted_listing.near_side.Goals as goal

pub of-requires : goal.of-requires
of-requires g c =
    let v : VersionContent = last_of c.args.pass.history in
    let same : c.in-Ok.expr.value ≡ c.args.expr = search rules in
    let kept : take_while (starts_by c.args.near.high) c.of-members.result.to_come ≡ filter (touches c.args.near.low c.args.near.high) (members v (form_of c.args.expr)) =
    c.of-members.ensures.members
    ∙ ap (λ (e : Expr). filter (touches c.args.near.low c.args.near.high) (members v (form_of e))) same in
    subst IsRising (sym kept) (kept_rises (touches c.args.near.low c.args.near.high) (members v (form_of c.args.expr)) (concordance_rises (version_text v) (form_of c.args.expr)))

-- readers over the window make no more look-ups than a merge over it
pub returns-in-Ok-clause-cost : goal.returns-in-Ok-clause-cost
returns-in-Ok-clause-cost g c =
    let v : VersionContent = last_of c.args.pass.history in
    let low : ℕ = c.args.near.low in
    let high : ℕ = c.args.near.high in
    let same : form_of c.in-Ok.expr.value ≡ form_of c.args.expr = ap form_of (search rules) in
    let accesses : ℕ = paged_accesses (length (to_come c.of.result)) in
    let way : IsNearWay v low high (form_of c.args.expr) c.of-members.result.way = subst (λ (f : Form). IsNearWay v low high f c.of-members.result.way) same c.of-members.ensures.way in
    let most : look_ups_by c.of-members.result.way accesses ≤ near_listing_cost v low high (form_of c.args.expr) = near_paid v low high (form_of c.args.expr) c.of-members.result.way accesses way in
    let opening : near_opening_cost v low high (form_of c.in-Ok.expr.value) ≡ near_opening_cost v low high (form_of c.args.expr) = ap (near_opening_cost v low high) same in
    omega (arith, c.of.ensures.look_ups, most, opening, c.of-members.ensures.cost)
