use Rattle.std.proofs.Common.{◌≡◌, ◌-◌, ◌≤◌, length}
use Rattle.answer_text.specs.Puts.{PutsFirst}
use Rattle.answer_text.specs.Watching.{told_text}
use Rattle.answer_text.proofs.telling.put_listing.Given as goal

-- some changes were put, and the others are still to come
abbrev pub invariant-loop-change : goal.invariant-loop-change
invariant-loop-change g l = record {
  puts : PutsFirst (told_text l.number) (g.K.Sink.written l.initial.sink) (g.K.Sink.written l.sink) l.initial.out.items l.out.items l.initial.listing l.listing (length l.initial.listing - length l.listing);
  few : length l.listing ≤ length l.initial.listing;
  later : g.K.Sink.faults l.initial.sink ≤ g.K.Sink.faults l.sink;
  same : g.K.Sink.faults l.sink ≡ g.K.Sink.faults l.initial.sink;
}

abbrev pub decreases-loop-change : goal.decreases-loop-change
decreases-loop-change g l = length l.listing
