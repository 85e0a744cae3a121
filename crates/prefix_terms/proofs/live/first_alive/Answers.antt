use Rattle.std.proofs.Common.{refl, ap, ◌≡◌, ◌+◌, ◌∙◌, Some, arith}
use Rattle.gcl_model.specs.Slots.{SlotRange, slot_range}
use Rattle.index_shard.specs.Tables.{postings_of}
use Rattle.live_version.proofs.LeapLemmas.{ahead-le-length, next_by_none, next_by_alive, next_by_dead, next_by_end, next_falls}
use Rattle.live_version.proofs.WordLemmas.{postings_rise, range_of_shard}
use Rattle.prefix_terms.proofs.Matches.{in_slot}
use Rattle.prefix_terms.proofs.live.first_alive.Goals as goal

pub loop-p-init : goal.loop-p-init
loop-p-init g c = record { same = refl; counted = omega arith; cost = omega (arith, ahead-le-length c.mask-mask.result.now 0) }

pub returns-in_err-p-clause-answer : goal.returns-in_err-p-clause-answer
returns-in_err-p-clause-answer g c =
    let ps = postings_of c.shard-shard.result.now.table c.args.term.now in
    in_slot c.args.slot.now c.shard-shard.result.now c.mask-mask.result.now c.args.term.now _ c.shard-shard.ensures.value c.mask-mask.ensures.value
    (c.from_residual.ensures ∙ next_by_none c.mask-mask.result.now ps 0 c.loop-p.from c.loop-p.invariant.same c.in_err-p.ensures.answer)

pub returns-in-None-clause-answer : goal.returns-in-None-clause-answer
returns-in-None-clause-answer g c =
    let ps = postings_of c.shard-shard.result.now.table c.args.term.now in
    in_slot c.args.slot.now c.shard-shard.result.now c.mask-mask.result.now c.args.term.now _ c.shard-shard.ensures.value c.mask-mask.ensures.value
    (next_by_alive c.mask-mask.result.now ps 0 c.loop-p.from c.in_ok-p.p c.loop-p.invariant.same c.in_ok-p.ensures.answer c.in-None.ensures.value)

pub returns-then-range-dead-clause-answer : goal.returns-then-range-dead-clause-answer
returns-then-range-dead-clause-answer g c =
    let term = c.args.term.now in
    let shard = c.shard-shard.result.now in
    let dead = slot_range c.dead-in-Some.inside.first c.dead-in-Some.inside.last in
    let range = range_of_shard c.args.slot.now shard c.range.inside.first c.range.inside.last c.range-range.result c.shard-shard.ensures.slot c.shard-shard.ensures.value c.range.view_is c.range-range.ensures.value in
    let end : c.range.inside.last ≡ shard.range.last = ap (λ (r : SlotRange). r.last) range in
    let le = c.if-range-dead.true in
    in_slot c.args.slot.now shard c.mask-mask.result.now term _ c.shard-shard.ensures.value c.mask-mask.ensures.value
    (next_by_end c.mask-mask.result.now (postings_of shard.table term) 0 c.loop-p.from shard.range.first (shard.range.last + 1) c.in_ok-p.p dead (postings_rise shard term c.look_up.ensures.shard)
    c.loop-p.invariant.same c.in_ok-p.ensures.answer (ap Some c.dead-in-Some.view_is ∙ c.in-Some.ensures.value) (omega arith))

pub loop-p-smaller : goal.loop-p-smaller
loop-p-smaller g c =
    next_falls c.mask-mask.result.now (postings_of c.shard-shard.result.now.table c.args.term.now) 0 c.loop-p.from c.in_ok-p.p (slot_range c.dead-in-Some.inside.first c.dead-in-Some.inside.last) c.in_ok-p.ensures.answer
    (ap Some c.dead-in-Some.view_is ∙ c.in-Some.ensures.value)

pub loop-p-preserved : goal.loop-p-preserved
loop-p-preserved g c =
    let term = c.args.term.now in
    let shard = c.shard-shard.result.now in
    let mask = c.mask-mask.result.now in
    let ps = postings_of shard.table term in
    let dead = slot_range c.dead-in-Some.inside.first c.dead-in-Some.inside.last in
    let met = ap Some c.dead-in-Some.view_is ∙ c.in-Some.ensures.value in
    let falls = next_falls mask ps 0 c.loop-p.from c.in_ok-p.p dead c.in_ok-p.ensures.answer met in
    let counted = c.loop-p.invariant.counted in
    let cost = c.loop-p.invariant.cost in
    let step = c.look_up.ensures.step in
    record {
      same = next_by_dead mask ps 0 c.loop-p.from shard.range.first (shard.range.last + 1) c.in_ok-p.p dead (postings_rise shard term c.look_up.ensures.shard) c.loop-p.invariant.same c.in_ok-p.ensures.answer met;
      counted = omega arith;
      cost = omega arith;
    }
