use Rattle.std.proofs.Common.{◌-◌, ◌≡◌, ◌≤◌, List}
use Rattle.passages.specs.declared.passage.Passage.{Passage}
use Rattle.passages.specs.Lines.{lines_at, lines_met}
use Rattle.passages.specs.Order.{BeginFrom, IsLineStart}
use Rattle.passages.proofs.lines.skip_to.Given as goal

-- the lines passed so far end in front of the place
abbrev pub invariant-loop-cursor : goal.invariant-loop-cursor
invariant-loop-cursor l = record {
  start : IsLineStart l.bytes l.cursor;
  forward : l.initial.cursor.at ≤ l.cursor.at;
  same : (ps : List Passage) → BeginFrom l.place ps → lines_met ps (lines_at l.bytes l.initial.cursor) ≡ lines_met ps (lines_at l.bytes l.cursor);
}

abbrev pub decreases-loop-cursor : goal.decreases-loop-cursor
decreases-loop-cursor l = l.place - l.cursor.at
