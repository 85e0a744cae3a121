use Rattle.std.proofs.Common.{◌++◌, ◌+◌, take, sym, ap, subst, ◌∙◌, arith}
use Rattle.live_version.specs.Contents.{live_of, live_words}
use Rattle.wide_terms.specs.Vocabulary.{RiseInBytes, in_byte_order, matching_words}
use Rattle.wide_terms.proofs.Vocabularies.{matching-append, matching_rise}
use Rattle.prefix_terms.specs.Runs.{tokens_in}
use Rattle.prefix_terms.proofs.Costs.{costs_more, costs_upto, live_of_more}
use Rattle.prefix_terms.proofs.words.matching_in.Goals as goal

pub returns-in_err-run-clause-cost : goal.returns-in_err-run-clause-cost
returns-in_err-run-clause-cost g c =
    let slots = c.args.slots.now in
    let i = c.loop-slot.slot-index in
    let before = c.loop-slot.invariant.cost in
    let here = c.live_run.ensures.cost in
    omega (arith, before, here, costs_more c.args.prefix.now slots i c.slot-item.result c.loop-slot-test.true c.slot-item.is, costs_upto c.args.prefix.now slots (i + 1))

pub merged-requires-clause-first : goal.merged-requires-clause-first
merged-requires-clause-first g c =
    subst RiseInBytes (sym (ap tokens_in c.as_slice.ensures.value ∙ c.loop-slot.invariant.words)) (matching_rise (live_of (take c.loop-slot.slot-index c.args.slots.now)) c.args.prefix.now)

pub merged-requires-clause-second : goal.merged-requires-clause-second
merged-requires-clause-second g c =
    subst RiseInBytes (sym (ap tokens_in c.as_slice-in-loop-slot.ensures.value ∙ c.in_ok-run.ensures.words)) (matching_rise (live_words c.slot-item.result) c.args.prefix.now)

pub returns-in_err-words-clause-cost : goal.returns-in_err-words-clause-cost
returns-in_err-words-clause-cost g c =
    let slots = c.args.slots.now in
    let i = c.loop-slot.slot-index in
    let before = c.loop-slot.invariant.cost in
    let here = c.live_run.ensures.cost in
    omega (arith, before, here, costs_more c.args.prefix.now slots i c.slot-item.result c.loop-slot-test.true c.slot-item.is, costs_upto c.args.prefix.now slots (i + 1))

pub loop-slot-preserved : goal.loop-slot-preserved
loop-slot-preserved g c =
    let slots = c.args.slots.now in
    let prefix = c.args.prefix.now in
    let i = c.loop-slot.slot-index in
    let slot = c.slot-item.result in
    let before = c.loop-slot.invariant in
    let here = c.live_run.ensures in
    let first = ap tokens_in c.as_slice.ensures.value ∙ before.words in
    let second = ap tokens_in c.as_slice-in-loop-slot.ensures.value ∙ c.in_ok-run.ensures.words in
    record {
      words = c.in_ok-words.ensures
          ∙ ap (λ l. in_byte_order (l ++ tokens_in c.as_slice-in-loop-slot.result.now)) first
          ∙ ap (λ l. in_byte_order (matching_words (live_of (take i slots)) prefix ++ l)) second
          ∙ sym (matching-append (live_of (take i slots)) (live_words slot) prefix)
          ∙ ap (λ words. matching_words words prefix) (sym (live_of_more slots i slot c.loop-slot-test.true c.slot-item.is));
      counted = omega (arith, before.counted, here.counted);
      cost = omega (arith, before.cost, here.cost, costs_more prefix slots i slot c.loop-slot-test.true c.slot-item.is);
    }
