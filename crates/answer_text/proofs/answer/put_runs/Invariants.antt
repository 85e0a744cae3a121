use Rattle.std.proofs.Common.{◌≡◌, ◌++◌, drop}
use Rattle.file_runs.specs.Records.{files_in}
use Rattle.answer_text.specs.Texts.{record_lines}
use Rattle.script_lang.specs.Lines.{text_of_lines}
use Rattle.answer_text.proofs.answer.put_runs.Given as goal

-- with those of the runs that are left, the lines so far are all
abbrev pub invariant-loop-run : goal.invariant-loop-run
invariant-loop-run l = l.out.items ++ text_of_lines (record_lines (files_in (drop l.run-index l.runs))) ≡ l.initial.out.items ++ text_of_lines (record_lines (files_in l.runs))
