use Rattle.std.proofs.Common.{◌-◌, ◌≡◌, ◌≤◌, ◌++◌, ◌∷◌, List}
use Rattle.passages.specs.declared.passage.Passage.{Passage}
use Rattle.passages.specs.Lines.{lines_at, lines_met}
use Rattle.passages.specs.Texts.{text_of_met}
use Rattle.passages.specs.Order.{IsLineStart}
use Rattle.script_lang.specs.Lines.{line_end}
use Rattle.passages.proofs.lines.put_met.Given as goal

-- what was put and what is still to come are together what was to come
abbrev pub invariant-loop-cursor : goal.invariant-loop-cursor
invariant-loop-cursor l = record {
  start : IsLineStart l.bytes l.cursor;
  forward : l.initial.cursor.at ≤ l.cursor.at;
  reached : l.p.from ≤ line_end l.bytes l.cursor.at;
  put : (later : List Passage) → l.initial.out.items ++ text_of_met l.shown (lines_met (l.p ∷ later) (lines_at l.bytes l.initial.cursor))
      ≡ l.out.items ++ text_of_met l.shown (lines_met (l.p ∷ later) (lines_at l.bytes l.cursor));
}

abbrev pub decreases-loop-cursor : goal.decreases-loop-cursor
decreases-loop-cursor l = l.p.to - l.cursor.at
