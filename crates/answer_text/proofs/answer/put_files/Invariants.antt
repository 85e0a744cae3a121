use Rattle.std.proofs.Common.{◌≡◌, ◌++◌, drop}
use Rattle.answer_text.specs.Texts.{record_lines}
use Rattle.script_lang.specs.Lines.{text_of_lines}
use Rattle.answer_text.proofs.answer.put_files.Given as goal

-- with those of the files that are left, the lines so far are all
abbrev pub invariant-loop-file : goal.invariant-loop-file
invariant-loop-file l = l.out.items ++ text_of_lines (record_lines (drop l.file-index l.files)) ≡ l.initial.out.items ++ text_of_lines (record_lines l.files)
