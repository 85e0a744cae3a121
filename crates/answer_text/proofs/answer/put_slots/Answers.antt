use Rattle.std.proofs.Common.{ℕ, List, ◌++◌, drop, ◌+◌, refl, ap, ◌∙◌}
use Rattle.address_space.specs.Runs.{FileEntry}
use Rattle.live_version.specs.Contents.{SlotContent, files_of}
use Rattle.script_lang.specs.Lines.{text_of_lines}
use Rattle.answer_text.specs.Texts.{record_lines}
use Rattle.answer_text.proofs.LineLemmas.{parts_all, parts_more, records_on}
use Rattle.answer_text.proofs.answer.put_slots.Goals as goal

pub loop-slot-preserved : goal.loop-slot-preserved
loop-slot-preserved c =
    let out : List ℕ = c.loop-slot.out.items in
    let files : List FileEntry = c.slot-item.result.files in
    parts_more (λ (slots : List SlotContent). text_of_lines (record_lines (files_of slots))) (text_of_lines (record_lines files)) c.args.slots.now c.loop-slot.slot-index c.slot-item.result out c.put_runs.new.out.items
    (c.args.out.now.items ++ text_of_lines (record_lines (files_of c.args.slots.now))) (records_on files (files_of (drop (c.loop-slot.slot-index + 1) c.args.slots.now))) c.loop-slot-test.true c.slot-item.is
    (c.in_ok-put_runs.ensures ∙ ap (λ (found : List FileEntry). out ++ text_of_lines (record_lines found)) (c.runs.ensures.value ∙ c.records.ensures.value)) c.loop-slot.invariant

pub returns : goal.returns
returns c = parts_all (λ (slots : List SlotContent). text_of_lines (record_lines (files_of slots))) c.args.slots.now c.loop-slot.slot-index c.loop-slot.out.items
    (c.args.out.now.items ++ text_of_lines (record_lines (files_of c.args.slots.now))) refl c.loop-slot-test.false c.loop-slot.invariant
