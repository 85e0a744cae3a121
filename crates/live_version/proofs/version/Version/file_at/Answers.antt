use Rattle.std.proofs.Common.{◌+◌, ◌-◌, length, length-append, ◌++◌, drop, slice_get, sym, ap, ◌∙◌, arith}
use Rattle.live_version.specs.Contents.{files_of}
use Rattle.live_version.proofs.FileLemmas.{files_from}
use Rattle.file_runs.proofs.FileLemmas.{at_in_first, at_in_rest}
use Rattle.live_version.proofs.version.Version.file_at.Goals as goal

pub returns-then-left-count-clause-value : goal.returns-then-left-count-clause-value
returns-then-left-count-clause-value c =
    let slots = c.slots-slots.result.now in
    let i = c.loop-slot.slot-index in
    let left = c.loop-slot.left in
    let slot = c.slot-item.result in
    let files = c.records-files.result.now in
    let rest = files_of (drop (i + 1) slots) in
    let lt = c.if-left-count.true in
    let count = c.len-count.ensures.value in
    ap (λ ss. slice_get (files_of ss) c.args.i) (sym c.slots-slots.ensures.value)
    ∙ sym c.loop-slot.invariant.same
    ∙ ap (λ fs. slice_get fs left) (files_from slots i slot (omega arith) c.slot-item.is ∙ ap (λ fs. fs ++ rest) (sym c.records-files.ensures.value))
    ∙ at_in_first files rest left c.get.result.now (omega arith) c.get.ensures.value

pub loop-slot-preserved : goal.loop-slot-preserved
loop-slot-preserved c =
    let slots = c.slots-slots.result.now in
    let i = c.loop-slot.slot-index in
    let left = c.loop-slot.left in
    let slot = c.slot-item.result in
    let files = c.records-files.result.now in
    let rest = files_of (drop (i + 1) slots) in
    let ge = c.if-left-count.false in
    let count = c.len-count.ensures.value in
    let here = files_from slots i slot (omega arith) c.slot-item.is ∙ ap (λ fs. fs ++ rest) (sym c.records-files.ensures.value) in
    let lt = c.loop-slot.invariant.within in
    let whole = ap length here ∙ length-append files rest in
    record {
      within = omega arith;
      same = sym (ap (λ fs. slice_get fs left) here ∙ at_in_rest files rest left (left - c.len-count.result) (omega arith)) ∙ c.loop-slot.invariant.same;
    }
