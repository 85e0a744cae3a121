use Rattle.std.proofs.Common.{◌∙◌, ap, subst, option_map}
use Rattle.std.proofs.lemmas.List.{take_all}
use Rattle.index_shard.specs.Tables.{ShardContent, least_term}
use Rattle.live_version.specs.Terms.{terms_from, terms_of}
use Rattle.live_version.proofs.TermLemmas.{IsFound, found_more, least_of_all, now_is}
use Rattle.live_version.proofs.version.Version.term_from.Goals as goal

pub loop-slot-preserved : goal.loop-slot-preserved
loop-slot-preserved c =
    let slot = c.slot-item.result in
    let low = c.args.low.now in
    let strict = c.args.strict in
    found_more c.slots-slots.result.now c.loop-slot.slot-index slot low strict (option_map (λ term. term.now) c.loop-slot.least) (option_map (λ term. term.now) c.term_from.result)
    (option_map (λ term. term.now) c.earlier_term-least.result) c.loop-slot-test.true c.slot-item.is c.shard.ensures.slot.shard.table
    (now_is c.term_from.result (least_term c.shard.result.now.table low strict) c.term_from.ensures.value ∙ ap (λ (s : ShardContent). least_term s.table low strict) c.shard.ensures.value)
    c.loop-slot.invariant c.earlier_term-least.ensures.first c.earlier_term-least.ensures.second c.earlier_term-least.ensures.among

pub returns-clause-value : goal.returns-clause-value
returns-clause-value c =
    let slots = c.slots-slots.result.now in
    least_of_all (terms_from (terms_of c.args.self.now.slots) c.args.low.now c.args.strict) c.loop-slot.least
    (subst (λ ss. IsFound (terms_from (terms_of ss) c.args.low.now c.args.strict) (option_map (λ term. term.now) c.loop-slot.least))
    (take_all c.loop-slot.slot-index slots c.loop-slot-test.false ∙ c.slots-slots.ensures.value) c.loop-slot.invariant)
