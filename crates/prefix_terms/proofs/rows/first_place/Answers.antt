use Rattle.std.proofs.Common.{sym, ap, subst, ◌∙◌, unwrap_or}
use Rattle.prefix_terms.specs.Runs.{IsFirstAbove, names}
use Rattle.prefix_terms.proofs.InRows.{least_none, least_placed}
use Rattle.prefix_terms.proofs.rows.first_place.Goals as goal

pub returns-in-Some-clause-first : goal.returns-in-Some-clause-first
returns-in-Some-clause-first c =
    let shard = c.args.shard.now in
    let low = c.args.prefix.now in
    let placed = least_placed shard.range shard.table low c.in-Some.term.now c.in-Some.ensures.shard.table c.in-Some.ensures.value in
    subst (IsFirstAbove (names shard.table) low) (sym (c.unwrap_or.ensures ∙ ap (λ o. unwrap_or o c.term_count-count.result) (c.place.ensures.value ∙ placed.is))) placed.first

pub returns-in-None-clause-first : goal.returns-in-None-clause-first
returns-in-None-clause-first c =
    let shard = c.args.shard.now in
    let low = c.args.prefix.now in
    subst (IsFirstAbove (names shard.table) low) (sym c.term_count-count.ensures.value) (least_none shard.table low c.in-None.ensures.value)
