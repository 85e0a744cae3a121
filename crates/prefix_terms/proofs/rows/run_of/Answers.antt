use Rattle.std.proofs.Common.{◌≤◌, length, sym, ◌∙◌, arith}
use Rattle.std.proofs.lemmas.List.{length-map}
use Rattle.index_shard.specs.Tables.{TermEntry}
use Rattle.prefix_terms.specs.Runs.{names}
use Rattle.prefix_terms.proofs.InRows.{run_ends, run_stops, table_rises}
use Rattle.prefix_terms.proofs.rows.run_of.Goals as goal

pub returns-then-not-begins_with-clause-run : goal.returns-then-not-begins_with-clause-run
returns-then-not-begins_with-clause-run c =
    let shard = c.args.shard.now in
    let upto = c.loop-end.invariant.within in
    let within : c.loop-end.end ≤ length (names shard.table) = omega (arith, upto, length-map shard.table (λ (entry : TermEntry). entry.term)) in
    run_stops (names shard.table) c.args.prefix.now c.first_place-from.result c.loop-end.end c.first_place-from.ensures.first c.loop-end.invariant.ordered within c.loop-end.invariant.inside c.term.result.now
    (table_rises shard.range shard.table c.first_place-from.ensures.shard.table) c.term.ensures.value (sym c.begins_with.ensures ∙ c.if-not-begins_with.true)

pub returns-clause-run : goal.returns-clause-run
returns-clause-run c =
    let shard = c.args.shard.now in
    let upto = c.loop-end.invariant.within in
    let long = length-map shard.table (λ (entry : TermEntry). entry.term) in
    let within : c.loop-end.end ≤ length (names shard.table) = omega (arith, upto, long) in
    let all : length (names shard.table) ≤ c.loop-end.end = omega (arith, c.loop-end-test.false, c.term_count.ensures.value, long) in
    run_ends (names shard.table) c.args.prefix.now c.first_place-from.result c.loop-end.end c.first_place-from.ensures.first c.loop-end.invariant.ordered within c.loop-end.invariant.inside all
