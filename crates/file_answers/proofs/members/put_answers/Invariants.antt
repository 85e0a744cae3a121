use Rattle.std.proofs.Common.{◌≡◌, ◌+◌, ◌-◌, ◌<◌, ◌≤◌, ◌++◌, [], length, take}
use Rattle.gcl_model.specs.FormOf.{form_of}
use Rattle.gcl_model.specs.Limits.{far}
use Rattle.gcl_model.specs.Meaning.{concordance}
use Rattle.gcl_eval.specs.Members.{members_from}
use Rattle.gcl_readers.specs.MergeCost.{cost_left, merge_cost}
use Rattle.gcl_readers.specs.Standing.{Stands, start_at}
use Rattle.file_answers.specs.Searched.{passages_of, place_of}
use Rattle.file_answers.specs.Written.{Moves}
use Rattle.file_answers.proofs.members.put_answers.Given as goal

-- `put` answers were put, and those that are left are the first members that start at or after `from`
abbrev pub invariant-loop-put : goal.invariant-loop-put
invariant-loop-put g l =
    let text = g.L.Leaves.text l.leaves in
    let list = concordance text (form_of l.asking.expr.now) in
    record {
      places : l.places ≡ l.bytes;
      size : g.W.PassageWriter.size l.writer ≡ length l.bytes;
      ahead : g.W.PassageWriter.reached l.writer ≤ (place_of l.bytes l.from).from;
      nothing : g.W.PassageWriter.text l.writer [] ≡ [];
      below : l.from < far;
      count : l.put + length (take (l.asking.most - l.put) (members_from list l.from)) ≡ length (take l.asking.most list);
      moves : Moves (g.K.Sink.written l.initial.sink) (g.K.Sink.written l.sink)
          (l.initial.out.items ++ g.W.PassageWriter.text l.initial.writer (passages_of l.bytes (take l.asking.most list)))
          (l.out.items ++ g.W.PassageWriter.text l.writer (passages_of l.bytes (take (l.asking.most - l.put) (members_from list l.from))));
      stands : Stands text (form_of l.asking.expr.now) l.readers;
      behind : start_at l.readers ≤ l.from;
      steps : l.steps + cost_left text (g.L.Leaves.most l.leaves) (form_of l.asking.expr.now) l.readers ≤ l.initial.steps + merge_cost text (g.L.Leaves.most l.leaves) (form_of l.asking.expr.now);
      calm : g.K.Sink.faults l.sink ≡ g.K.Sink.faults l.initial.sink;
    }

abbrev pub decreases-loop-put : goal.decreases-loop-put
decreases-loop-put g l = l.asking.most - l.put
