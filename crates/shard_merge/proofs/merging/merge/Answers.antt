use Rattle.std.proofs.Common.{◌≡◌, ◌+◌, ◌-◌, ◌∷◌, [], Some, take, drop, true, sym, ap, ◌∙◌, subst, arith}
use Rattle.std.specs.List.{AllByRecursion}
use Rattle.std.proofs.lemmas.Result.{IfOk-weaker}
use Rattle.index_shard.specs.Tables.{words_of}
use Rattle.live_version.specs.Contents.{LiesIn, SlotContent, is_of_files, files_of, live_of, ranges_of}
use Rattle.live_version.specs.Changes.{IsSameLive, LiesInside, slots_at, whole_range}
use Rattle.shard_merge.proofs.Runs.{run_lent, range_of_run, files_lie, words_owned, slots_lent, same_live, lies_inside}
use Rattle.shard_merge.proofs.merging.merge.Goals as goal

pub range_of_slots-range-requires-clause-apart : goal.range_of_slots-range-requires-clause-apart
range_of_slots-range-requires-clause-apart c =
    let run = run_lent c.args.version.now c.slots.result.now c.args.at c.args.count (c.args.at + c.args.count - c.args.at) c.slots.ensures.version c.slots.ensures.value (omega arith) in
    run.apart

pub records_of-requires : goal.records_of-requires
records_of-requires c =
    let run = run_lent c.args.version.now c.slots.result.now c.args.at c.args.count (c.args.at + c.args.count - c.args.at) c.slots.ensures.version c.slots.ensures.value (omega arith) in
    run.files

pub merged_shard-requires-clause-slots : goal.merged_shard-requires-clause-slots
merged_shard-requires-clause-slots c =
    let run = run_lent c.args.version.now c.slots.result.now c.args.at c.args.count (c.args.at + c.args.count - c.args.at) c.slots.ensures.version c.slots.ensures.value (omega arith) in
    run.all

pub merged_shard-requires-clause-apart : goal.merged_shard-requires-clause-apart
merged_shard-requires-clause-apart c =
    let run = run_lent c.args.version.now c.slots.result.now c.args.at c.args.count (c.args.at + c.args.count - c.args.at) c.slots.ensures.version c.slots.ensures.value (omega arith) in
    (range_of_run (take (c.args.at + c.args.count - c.args.at) (drop c.args.at c.slots.result.now)) c.range_of_slots-range.result run c.range_of_slots-range.ensures).within

pub of_records-requires-clause-files : goal.of_records-requires-clause-files
of_records-requires-clause-files c =
    let slots = take (c.args.at + c.args.count - c.args.at) (drop c.args.at c.slots.result.now) in
    let run = run_lent c.args.version.now c.slots.result.now c.args.at c.args.count (c.args.at + c.args.count - c.args.at) c.slots.ensures.version c.slots.ensures.value (omega arith) in
    let range = c.range_of_slots-range.result in
    subst (AllByRecursion (LiesIn range)) (sym c.in_ok-files.ensures) (files_lie range slots run (range_of_run slots range run c.range_of_slots-range.ensures))

pub of_records-requires-clause-owned : goal.of_records-requires-clause-owned
of_records-requires-clause-owned c =
    let slots = take (c.args.at + c.args.count - c.args.at) (drop c.args.at c.slots.result.now) in
    let run = run_lent c.args.version.now c.slots.result.now c.args.at c.args.count (c.args.at + c.args.count - c.args.at) c.slots.ensures.version c.slots.ensures.value (omega arith) in
    subst (λ ws. AllByRecursion (λ w. is_of_files c.in_ok-files.files w.address ≡ true) ws) (sym c.in_ok-shard.ensures.words)
    (subst (λ files. AllByRecursion (λ w. is_of_files files w.address ≡ true) (live_of slots)) (sym c.in_ok-files.ensures) (words_owned slots run.all))

pub returns-clause-range : goal.returns-clause-range
returns-clause-range c =
    let all = c.args.version.now.slots in
    let same = slots_lent c.slots.result.now all c.args.at c.args.count (c.args.at + c.args.count - c.args.at) c.slots.ensures.value (omega arith) in
    let whole : whole_range (ranges_of (slots_at c.args.at c.args.count all)) ≡ Some c.range_of_slots-range.result = ap (λ slots. whole_range (ranges_of slots)) (sym same) ∙ c.range_of_slots-range.ensures in
    IfOk-weaker c.of_records.result _ (λ slot. whole_range (ranges_of (slots_at c.args.at c.args.count all)) ≡ Some slot.range)
    (λ slot is. whole ∙ ap (λ (s : SlotContent). Some s.range) (sym is)) c.of_records.ensures.value

pub returns-clause-inside : goal.returns-clause-inside
returns-clause-inside c =
    let all = c.args.version.now.slots in
    let same = slots_lent c.slots.result.now all c.args.at c.args.count (c.args.at + c.args.count - c.args.at) c.slots.ensures.value (omega arith) in
    let whole : whole_range (ranges_of (slots_at c.args.at c.args.count all)) ≡ Some c.range_of_slots-range.result = ap (λ slots. whole_range (ranges_of slots)) (sym same) ∙ c.range_of_slots-range.ensures in
    IfOk-weaker c.of_records.result _ (λ slot. LiesInside slot.range (whole_range (ranges_of (slots_at c.args.at c.args.count all))))
    (λ slot is. lies_inside slot.range (whole_range (ranges_of (slots_at c.args.at c.args.count all))) (whole ∙ ap (λ (s : SlotContent). Some s.range) (sym is))) c.of_records.ensures.value

pub returns-clause-words : goal.returns-clause-words
returns-clause-words c =
    let same = slots_lent c.slots.result.now c.args.version.now.slots c.args.at c.args.count (c.args.at + c.args.count - c.args.at) c.slots.ensures.value (omega arith) in
    IfOk-weaker c.of_records.result _ (λ slot. words_of slot.shard ≡ live_of (slots_at c.args.at c.args.count c.args.version.now.slots))
    (λ slot is. ap (λ (s : SlotContent). words_of s.shard) is ∙ c.in_ok-shard.ensures.words ∙ ap live_of same) c.of_records.ensures.value

pub returns-clause-same : goal.returns-clause-same
returns-clause-same c =
    let same = slots_lent c.slots.result.now c.args.version.now.slots c.args.at c.args.count (c.args.at + c.args.count - c.args.at) c.slots.ensures.value (omega arith) in
    IfOk-weaker c.of_records.result _ (λ slot. IsSameLive (slots_at c.args.at c.args.count c.args.version.now.slots) (slot ∷ []))
    (λ slot is.
    same_live (slots_at c.args.at c.args.count c.args.version.now.slots) slot (ap (λ (s : SlotContent). s.mask) is) (ap (λ (s : SlotContent). words_of s.shard) is ∙ c.in_ok-shard.ensures.words ∙ ap live_of same)
    (ap (λ (s : SlotContent). s.files) is ∙ c.in_ok-files.ensures ∙ ap files_of same))
    c.of_records.ensures.value
