use Rattle.std.proofs.Common.{◌-◌, ◌≡◌, ◌≤◌, ◌++◌}
use Rattle.passages.specs.Order.{IsPartStart}
use Rattle.passages.specs.Texts.{parts_at}
use Rattle.passages.proofs.parts.put_parts.Given as goal

-- what was put and what is still to come are together what was to come
abbrev pub invariant-loop-cursor : goal.invariant-loop-cursor
invariant-loop-cursor l = record {
  start : IsPartStart l.to l.cursor;
  forward : l.initial.cursor.at ≤ l.cursor.at;
  put : l.initial.out.items ++ parts_at l.shown l.fn.bytes l.initial.cursor l.to ≡ l.out.items ++ parts_at l.shown l.fn.bytes l.cursor l.to;
}

abbrev pub decreases-loop-cursor : goal.decreases-loop-cursor
decreases-loop-cursor l = l.to - l.cursor.at
