use Rattle.std.proofs.Common.{◌≡◌, ℕ, ◌+◌, ◌*◌, ◌/◌, ◌<◌, ◌%◌, length, slice_get, slice_index_or, Some, rules, refl, sym, subst, arith}
use Rattle.std.proofs.Math.Nat.{mod-add-div'}
use Rattle.query_lanes.specs.declared.lane.Work.{Work}
use Rattle.query_lanes.proofs.LaneLemmas.{trusted_less, kept_is}
use Rattle.query_lanes.proofs.gather.take_kept.Goals as goal

in_lanes : (j lanes : ℕ) → 0 < lanes → j % lanes < lanes
in_lanes j lanes some = omega arith

pub returns-in_err-made-clause-trusted : goal.returns-in_err-made-clause-trusted
returns-in_err-made-clause-trusted c = λ text t.
    let some : 0 < length c.args.works.now = search (rules, c.if-is_empty.ensures) in
    let within : c.args.j % length c.args.works.now < length c.args.works.now = in_lanes c.args.j (length c.args.works.now) some in
    let old : Work = slice_index_or c.args.works.now (c.args.j % length c.args.works.now) c.index-works-j.result in
    let new : Work = record { made = c.take_made.new.made; is_short = old.is_short; is_settled = old.is_settled } in
    trusted_less c.args.asks.now c.args.last text c.args.works.now (c.args.j % length c.args.works.now) c.index-works-j.result new within
    c.take_made.ensures.rest refl t

pub returns-clause-trusted : goal.returns-clause-trusted
returns-clause-trusted c = λ text t.
    let some : 0 < length c.args.works.now = search (rules, c.if-is_empty.ensures) in
    let within : c.args.j % length c.args.works.now < length c.args.works.now = in_lanes c.args.j (length c.args.works.now) some in
    let old : Work = slice_index_or c.args.works.now (c.args.j % length c.args.works.now) c.index-works-j.result in
    let new : Work = record { made = c.take_made.new.made; is_short = old.is_short; is_settled = old.is_settled } in
    trusted_less c.args.asks.now c.args.last text c.args.works.now (c.args.j % length c.args.works.now) c.index-works-j.result new within
    c.take_made.ensures.rest refl t

pub returns-clause-found : goal.returns-clause-found
returns-clause-found c = λ text ask t is.
    let lanes : ℕ = length c.args.works.now in
    let some : 0 < lanes = search (rules, c.if-is_empty.ensures) in
    let within : c.args.j % lanes < lanes = in_lanes c.args.j lanes some in
    let place : slice_get c.args.asks.now (c.args.j % lanes + c.args.j / lanes * lanes) ≡ Some ask =
    subst (λ (n : ℕ). slice_get c.args.asks.now n ≡ Some ask) (sym (mod-add-div' c.args.j lanes)) is in
    kept_is c.kept.result
    (λ counts. t (c.args.j % lanes) c.index-works-j.result within (c.args.j / lanes) c.in_ok-made.made ask c.in_ok-made.ensures.taken place counts)
    c.kept.ensures
