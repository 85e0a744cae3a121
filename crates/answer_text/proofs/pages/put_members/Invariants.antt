use Rattle.std.proofs.Common.{◌≡◌, ◌+◌, ◌≤◌, length}
use Rattle.answer_text.specs.Puts.{PutsFirst, members_text}
use Rattle.answer_text.proofs.pages.put_members.Given as goal

-- some members were put, and the others are still to come
abbrev pub invariant-loop-page : goal.invariant-loop-page
invariant-loop-page g l = record {
  puts : PutsFirst members_text (g.K.Sink.written l.initial.sink) (g.K.Sink.written l.sink) l.initial.out.items l.out.items l.initial.listing l.listing l.count;
  few : l.count + length l.listing ≡ length l.initial.listing;
  later : g.K.Sink.faults l.initial.sink ≤ g.K.Sink.faults l.sink;
  same : g.K.Sink.faults l.sink ≡ g.K.Sink.faults l.initial.sink;
}

abbrev pub decreases-loop-page : goal.decreases-loop-page
decreases-loop-page g l = length l.listing
