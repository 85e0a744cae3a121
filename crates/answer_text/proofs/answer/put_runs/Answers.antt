use Rattle.std.proofs.Common.{ℕ, List, ◌++◌, drop, ◌+◌, refl, ap, ◌∙◌}
use Rattle.address_space.specs.Runs.{FileEntry}
use Rattle.file_runs.specs.Records.{files_in}
use Rattle.script_lang.specs.Lines.{text_of_lines}
use Rattle.answer_text.specs.Texts.{record_lines}
use Rattle.answer_text.proofs.LineLemmas.{parts_all, parts_more, records_on}
use Rattle.answer_text.proofs.answer.put_runs.Goals as goal

pub loop-run-preserved : goal.loop-run-preserved
loop-run-preserved c =
    let out : List ℕ = c.loop-run.out.items in
    let run : List FileEntry = c.run-item.result in
    parts_more (λ (runs : List (List FileEntry)). text_of_lines (record_lines (files_in runs))) (text_of_lines (record_lines run)) c.args.runs.now c.loop-run.run-index run out c.put_files.new.out.items
    (c.args.out.now.items ++ text_of_lines (record_lines (files_in c.args.runs.now))) (records_on run (files_in (drop (c.loop-run.run-index + 1) c.args.runs.now))) c.loop-run-test.true c.run-item.is
    (c.in_ok-put_files.ensures ∙ ap (λ (files : List FileEntry). out ++ text_of_lines (record_lines files)) c.as_slice.ensures.value) c.loop-run.invariant

pub returns : goal.returns
returns c = parts_all (λ (runs : List (List FileEntry)). text_of_lines (record_lines (files_in runs))) c.args.runs.now c.loop-run.run-index c.loop-run.out.items
    (c.args.out.now.items ++ text_of_lines (record_lines (files_in c.args.runs.now))) refl c.loop-run-test.false c.loop-run.invariant
