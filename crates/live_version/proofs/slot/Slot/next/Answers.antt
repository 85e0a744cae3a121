use Rattle.std.proofs.Common.{refl, sym, ap, ◌≡◌, ◌+◌, ◌∙◌, Some, arith}
use Rattle.gcl_model.specs.Slots.{SlotRange, slot_range}
use Rattle.gcl_model.specs.Texts.{next_place}
use Rattle.index_shard.specs.Tables.{postings_of}
use Rattle.live_version.proofs.LeapLemmas.{ahead-le-length, next_by_none, next_by_alive, next_by_dead, next_by_end, next_falls}
use Rattle.live_version.proofs.WordLemmas.{no_words, next_by_slot, postings_rise, range_of_shard}
use Rattle.live_version.proofs.slot.Slot.next.Goals as goal

pub returns-then-files-eq0-clause-answer : goal.returns-then-files-eq0-clause-answer
returns-then-files-eq0-clause-answer g c =
    sym (ap (λ words. next_place words (g.T.LookUp.term c.args.term.now) c.args.k) (no_words c.args.self.now c.files.result c.files.ensures.slot c.files.ensures.value c.if-files-eq0.true))

pub loop-p-init : goal.loop-p-init
loop-p-init g c = record { same = refl; counted = omega arith; cost = omega (arith, ahead-le-length c.mask-mask.result.now c.args.k) }

pub returns-in_err-p-clause-answer : goal.returns-in_err-p-clause-answer
returns-in_err-p-clause-answer g c =
    let term = g.T.LookUp.term c.args.term.now in
    let ps = postings_of c.shard-shard.result.now.table term in
    next_by_slot c.args.self.now c.shard-shard.result.now c.mask-mask.result.now term c.args.k _ c.shard-shard.ensures.slot c.shard-shard.ensures.value c.mask-mask.ensures.value
    (c.from_residual.ensures ∙ next_by_none c.mask-mask.result.now ps c.args.k c.loop-p.from c.loop-p.invariant.same c.in_err-p.ensures.answer)

pub returns-in-None-clause-answer : goal.returns-in-None-clause-answer
returns-in-None-clause-answer g c =
    let term = g.T.LookUp.term c.args.term.now in
    let ps = postings_of c.shard-shard.result.now.table term in
    next_by_slot c.args.self.now c.shard-shard.result.now c.mask-mask.result.now term c.args.k _ c.shard-shard.ensures.slot c.shard-shard.ensures.value c.mask-mask.ensures.value
    (next_by_alive c.mask-mask.result.now ps c.args.k c.loop-p.from c.in_ok-p.p c.loop-p.invariant.same c.in_ok-p.ensures.answer c.in-None.ensures.value)

pub returns-then-range-dead-clause-answer : goal.returns-then-range-dead-clause-answer
returns-then-range-dead-clause-answer g c =
    let term = g.T.LookUp.term c.args.term.now in
    let shard = c.shard-shard.result.now in
    let dead = slot_range c.dead-in-Some.inside.first c.dead-in-Some.inside.last in
    let range = range_of_shard c.args.self.now shard c.range.inside.first c.range.inside.last c.range-range.result c.shard-shard.ensures.slot c.shard-shard.ensures.value c.range.view_is c.range-range.ensures.value in
    let end : c.range.inside.last ≡ shard.range.last = ap (λ (r : SlotRange). r.last) range in
    let le = c.if-range-dead.true in
    next_by_slot c.args.self.now c.shard-shard.result.now c.mask-mask.result.now term c.args.k _ c.shard-shard.ensures.slot c.shard-shard.ensures.value c.mask-mask.ensures.value
    (next_by_end c.mask-mask.result.now (postings_of shard.table term) c.args.k c.loop-p.from shard.range.first (shard.range.last + 1) c.in_ok-p.p dead (postings_rise shard term c.nearest.ensures.shard)
    c.loop-p.invariant.same c.in_ok-p.ensures.answer (ap Some c.dead-in-Some.view_is ∙ c.in-Some.ensures.value) (omega arith))

pub loop-p-smaller : goal.loop-p-smaller
loop-p-smaller g c =
    let term = g.T.LookUp.term c.args.term.now in
    next_falls c.mask-mask.result.now (postings_of c.shard-shard.result.now.table term) c.args.k c.loop-p.from c.in_ok-p.p (slot_range c.dead-in-Some.inside.first c.dead-in-Some.inside.last) c.in_ok-p.ensures.answer
    (ap Some c.dead-in-Some.view_is ∙ c.in-Some.ensures.value)

pub loop-p-preserved : goal.loop-p-preserved
loop-p-preserved g c =
    let term = g.T.LookUp.term c.args.term.now in
    let shard = c.shard-shard.result.now in
    let mask = c.mask-mask.result.now in
    let ps = postings_of shard.table term in
    let dead = slot_range c.dead-in-Some.inside.first c.dead-in-Some.inside.last in
    let met = ap Some c.dead-in-Some.view_is ∙ c.in-Some.ensures.value in
    let falls = next_falls mask ps c.args.k c.loop-p.from c.in_ok-p.p dead c.in_ok-p.ensures.answer met in
    let counted = c.loop-p.invariant.counted in
    let cost = c.loop-p.invariant.cost in
    let step = c.nearest.ensures.step in
    record {
      same = next_by_dead mask ps c.args.k c.loop-p.from shard.range.first (shard.range.last + 1) c.in_ok-p.p dead (postings_rise shard term c.nearest.ensures.shard) c.loop-p.invariant.same c.in_ok-p.ensures.answer met;
      counted = omega arith;
      cost = omega arith;
    }
