use Rattle.std.proofs.Common.{◌≡◌, ◌+◌, ◌-◌, ◌*◌, ◌≤◌, ◌++◌, length}
use Rattle.script_lang.specs.Lines.{text_of_lines}
use Rattle.made_corpus.specs.MadeLines.{turns_from, made_lines, made_text}
use Rattle.made_corpus.proofs.script.made_script.Given as goal

-- what is written, and then the turns that are left, is the script; and so with the number of its lines
abbrev pub invariant-loop-i : goal.invariant-loop-i
invariant-loop-i l = record {
  text : l.out.items ++ text_of_lines (turns_from (l.count - l.i) l.i l.draws.state) ≡ made_text l.start l.count;
  number : l.lines + length (turns_from (l.count - l.i) l.i l.draws.state) ≡ length (made_lines l.start l.count);
  few : l.lines ≤ 5 * l.i;
}
