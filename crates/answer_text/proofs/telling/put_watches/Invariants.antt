use Rattle.std.proofs.Common.{◌≡◌, ◌≤◌, drop}
use Rattle.live_version.specs.Contents.{version_text}
use Rattle.collection.specs.Engines.{last_of}
use Rattle.answer_text.specs.Puts.{PutsFirst}
use Rattle.answer_text.specs.Watching.{watches_text, watching_of}
use Rattle.answer_text.proofs.telling.put_watches.Given as goal

-- what the first watches report was put
abbrev pub invariant-loop-i : goal.invariant-loop-i
invariant-loop-i g l = record {
  puts : PutsFirst (watches_text (version_text (last_of l.before.history)) (version_text l.engine.version)) (g.K.Sink.written l.initial.sink) (g.K.Sink.written l.sink)
      l.initial.out.items l.out.items (watching_of l.watches).live (drop l.i (watching_of l.watches).live) l.i;
  later : g.K.Sink.faults l.initial.sink ≤ g.K.Sink.faults l.sink;
  same : g.K.Sink.faults l.sink ≡ g.K.Sink.faults l.initial.sink;
}
