use Rattle.std.proofs.Common.{◌≡◌, ◌++◌, drop}
use Rattle.live_version.specs.Contents.{files_of}
use Rattle.answer_text.specs.Texts.{record_lines}
use Rattle.script_lang.specs.Lines.{text_of_lines}
use Rattle.answer_text.proofs.answer.put_slots.Given as goal

-- with those of the slots that are left, the lines so far are all
abbrev pub invariant-loop-slot : goal.invariant-loop-slot
invariant-loop-slot l = l.out.items ++ text_of_lines (record_lines (files_of (drop l.slot-index l.slots))) ≡ l.initial.out.items ++ text_of_lines (record_lines (files_of l.slots))
