use Rattle.std.proofs.Common.{◌≡◌, ◌+◌, ◌-◌, ◌≤◌, ◌||◌, length}
use Rattle.std.specs.Prelude.{flat_map}
use Rattle.std.specs.List.{list_any}
use Rattle.std.specs.Vec.Iter.{into_iter_items}
use Rattle.script_lang.specs.Answers.{is_refusal}
use Rattle.answer_text.specs.Texts.{found_lines}
use Rattle.answer_text.specs.Puts.{PutsFirst, founds_text}
use Rattle.answer_text.proofs.pages.put_answers.Given as goal

-- the first answers were put, and the others are left
abbrev pub invariant-loop-found : goal.invariant-loop-found
invariant-loop-found g l = record {
  puts : PutsFirst founds_text (g.K.Sink.written l.initial.sink) (g.K.Sink.written l.sink) l.initial.out.items l.out.items l.fn.answers.items (into_iter_items l.found-iterator) (l.completed - l.initial.completed);
  before : l.initial.completed ≤ l.completed;
  count : l.completed + length (into_iter_items l.found-iterator) ≡ l.initial.completed + length l.fn.answers.items;
  refusal : (l.refused || list_any is_refusal (flat_map found_lines (into_iter_items l.found-iterator))) ≡ list_any is_refusal (flat_map found_lines l.fn.answers.items);
  later : g.K.Sink.faults l.initial.sink ≤ g.K.Sink.faults l.sink;
  same : g.K.Sink.faults l.sink ≡ g.K.Sink.faults l.initial.sink;
}
