use Rattle.std.proofs.Common.{◌≡◌, ◌+◌, ◌-◌, ◌≤◌, length, drop, Ok}
use Rattle.script_lang.specs.Lines.{lines}
use Rattle.script_answers.specs.Answers.{names_kept_of, names_of}
use Rattle.script_answers.specs.inner.Service.{Goes, IsServing, KeepsFiles, stand}
use Rattle.script_answers.proofs.serving.serve_held.Given as goal

-- the lines up to a place came, and the last of them may be queries that wait
abbrev pub invariant-loop-cut : goal.invariant-loop-cut
invariant-loop-cut g l = record {
  within : l.at ≤ length l.script;
  room : l.opened.lines + length l.asks.items + (length l.script - l.at) ≤ l.initial.opened.lines + length l.script;
  serving : IsServing l.opened l.progress (length l.asks.items);
  goes : Goes l.setting.limits (lines l.setting.limits.line l.script) (lines l.setting.limits.line (drop l.at l.script)) l.asks.items
      (stand (g.F.Files.held l.initial.files) l.initial.opened l.initial.progress) (stand (g.F.Files.held l.files) l.opened l.progress) (g.K.Sink.written l.initial.sink) (g.K.Sink.written l.sink);
  files : KeepsFiles {T = Unit} (names_of (lines l.setting.limits.line l.script)) (names_kept_of (lines l.setting.limits.line l.script)) (l.files ≡ l.initial.files) (g.F.Files.held l.files ≡ g.F.Files.held l.initial.files)
      (g.F.Files.unkept l.files ≡ g.F.Files.unkept l.initial.files) (Ok tt);
  sink_same : g.K.Sink.faults l.sink ≡ g.K.Sink.faults l.initial.sink;
  files_same : g.F.Files.faults l.files ≡ g.F.Files.faults l.initial.files;
}

abbrev pub decreases-loop-cut : goal.decreases-loop-cut
decreases-loop-cut g l = length l.script - l.at
