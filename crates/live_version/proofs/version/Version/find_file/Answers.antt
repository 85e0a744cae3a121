use Rattle.std.proofs.Common.{◌+◌, ◌++◌, drop, sym, ap, ◌∙◌, arith}
use Rattle.live_version.specs.Contents.{files_of}
use Rattle.live_version.specs.Changes.{file_with_id}
use Rattle.live_version.proofs.FileLemmas.{files_from}
use Rattle.file_runs.proofs.FileLemmas.{find_in_first, find_in_rest}
use Rattle.live_version.proofs.version.Version.find_file.Goals as goal

pub returns-in-Some-clause-value : goal.returns-in-Some-clause-value
returns-in-Some-clause-value c =
    let slots = c.slots-slots.result.now in
    let i = c.loop-slot.slot-index in
    let files = c.records.result.now in
    let rest = files_of (drop (i + 1) slots) in
    let here = files_from slots i c.slot-item.result (omega arith) c.slot-item.is ∙ ap (λ fs. fs ++ rest) (sym c.records.ensures.value) in
    ap (λ ss. file_with_id c.args.id.0 (files_of ss)) (sym c.slots-slots.ensures.value)
    ∙ sym c.loop-slot.invariant
    ∙ ap (file_with_id c.args.id.0) here
    ∙ find_in_first files rest c.args.id.0 c.in-Some.file.now c.in-Some.ensures.value

pub loop-slot-preserved : goal.loop-slot-preserved
loop-slot-preserved c =
    let slots = c.slots-slots.result.now in
    let i = c.loop-slot.slot-index in
    let files = c.records.result.now in
    let rest = files_of (drop (i + 1) slots) in
    let here = files_from slots i c.slot-item.result (omega arith) c.slot-item.is ∙ ap (λ fs. fs ++ rest) (sym c.records.ensures.value) in
    sym (ap (file_with_id c.args.id.0) here ∙ find_in_rest files rest c.args.id.0 c.in_default.ensures.value) ∙ c.loop-slot.invariant
