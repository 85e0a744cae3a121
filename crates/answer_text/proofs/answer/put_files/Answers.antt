use Rattle.std.proofs.Common.{ℕ, List, ◌∷◌, ◌++◌, [], refl, ap, ◌∙◌, append_assoc}
use Rattle.address_space.specs.Runs.{FileEntry}
use Rattle.script_lang.specs.Answers.{record_line}
use Rattle.script_lang.specs.Lines.{text_of_lines}
use Rattle.answer_text.specs.Texts.{record_lines}
use Rattle.answer_text.proofs.LineLemmas.{parts_all, parts_more}
use Rattle.answer_text.proofs.answer.put_files.Goals as goal

pub loop-file-preserved : goal.loop-file-preserved
loop-file-preserved c =
    let out : List ℕ = c.loop-file.out.items in
    let line : List ℕ = record_line c.file-item.result in
    parts_more (λ (files : List FileEntry). text_of_lines (record_lines files)) (line ++ 10 ∷ []) c.args.files.now c.loop-file.file-index c.file-item.result out c.put_record.new.out.items
    (c.args.out.now.items ++ text_of_lines (record_lines c.args.files.now)) refl c.loop-file-test.true c.file-item.is
    (c.in_ok-put_record.ensures.ok ∙ ap (λ (file : FileEntry). out ++ record_line file ++ 10 ∷ []) c.record.ensures.value ∙ append_assoc out line (10 ∷ [])) c.loop-file.invariant

pub returns : goal.returns
returns c = parts_all (λ (files : List FileEntry). text_of_lines (record_lines files)) c.args.files.now c.loop-file.file-index c.loop-file.out.items
    (c.args.out.now.items ++ text_of_lines (record_lines c.args.files.now)) refl c.loop-file-test.false c.loop-file.invariant
