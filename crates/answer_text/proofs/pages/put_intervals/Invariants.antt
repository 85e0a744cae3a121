use Rattle.script_lang.specs.Lines.{text_of_lines}
use Rattle.std.proofs.Common.{◌≡◌, ◌++◌, map, drop}
use Rattle.script_lang.specs.Answers.{interval_line}
use Rattle.answer_text.proofs.pages.put_intervals.Given as goal

-- with those of the intervals that are left, the lines so far are all
abbrev pub invariant-loop-interval : goal.invariant-loop-interval
invariant-loop-interval l = l.out.items ++ text_of_lines (map interval_line (drop l.interval-index l.list)) ≡ l.initial.out.items ++ text_of_lines (map interval_line l.list)
