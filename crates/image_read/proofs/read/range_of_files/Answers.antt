use Rattle.std.proofs.Common.{◌≡◌, ◌+◌, ◌-◌, [], ◌∷◌, map, arith, ap, ◌∙◌}
use Rattle.gcl_model.specs.Slots.{SlotRange, ranges_spanned, slot_range}
use Rattle.address_space.specs.Runs.{FileEntry, range_of}
use Rattle.image_read.proofs.Spans.{run_lies, run_spanned}
use Rattle.image_read.proofs.read.range_of_files.Goals as goal

pub returns-in-len2-up-clause-spanned : goal.returns-in-len2-up-clause-spanned
returns-in-len2-up-clause-spanned c =
    let files = c.as_slice.result.now in
    let first = c.first-item.result in
    let last = c.last-item.result in
    let base : c.behind-first.inside.base ≡ first.base = ap (λ (f : FileEntry). f.base) (c.behind-first.view_is ∙ c.record-in-len2-up.ensures.value) in
    let end : c.result.inside.last ≡ last.base + last.len - 1 = ap (λ (r : SlotRange). r.last) (c.result.view_is ∙ c.range-in-len2-up.ensures.value ∙ ap range_of c.record-in-len2-up-2.ensures.value) in
    ap (λ n. slot_range n c.result.inside.last ∷ []) base
    ∙ ap (λ n. slot_range first.base n ∷ []) end
    ∙ run_spanned files first last (omega (arith, c.in-len2-up.len_at_least)) c.first-item.is c.last-item.is
    ∙ ap (λ fs. ranges_spanned (map range_of fs)) c.as_slice.ensures.value

pub returns-in-len2-up-clause-some : goal.returns-in-len2-up-clause-some
returns-in-len2-up-clause-some c = run_lies c.args.front.now.files _ c.as_slice.ensures.run (returns-in-len2-up-clause-spanned c)
