use Rattle.std.proofs.Common.{◌≡◌, ℕ, List, [], ◌+◌, ◌-◌, ◌≤◌, length, false, Some}
use Rattle.script_lang.specs.Lines.{lines}
use Rattle.script_lang.specs.Feeds.{has_newline}
use Rattle.script_answers.specs.Answers.{names_kept_of, names_of}
use Rattle.script_answers.specs.inner.Service.{IsServing, stand}
use Rattle.query_run.specs.inner.Streams.{ReadsOn}
use Rattle.query_run.specs.Runs.{HandsOver}
use Rattle.query_run.proofs.stream.serve_script.Given as goal

-- this many bytes were read, and each whole line of them is served
abbrev pub invariant-loop-feed : goal.invariant-loop-feed
invariant-loop-feed g l = record {
  few : l.read ≤ l.setting.limits.script;
  none : has_newline l.feed.held ≡ false;
  most : l.feed.most ≡ l.setting.limits.line;
  counted : l.opened.lines + length l.feed.held ≤ l.read;
  serving : IsServing l.opened l.progress 0;
  taken : HandsOver l.read (g.S.Source.left l.initial.source) (g.S.Source.left l.source);
  source_later : g.S.Source.faults l.initial.source ≤ g.S.Source.faults l.source;
  source_same : g.S.Source.faults l.source ≡ g.S.Source.faults l.initial.source;
  sink_later : g.K.Sink.faults l.initial.sink ≤ g.K.Sink.faults l.sink;
  sink_same : g.K.Sink.faults l.sink ≡ g.K.Sink.faults l.initial.sink;
  files_later : g.F.Files.faults l.initial.files ≤ g.F.Files.faults l.files;
  files_same : g.F.Files.faults l.files ≡ g.F.Files.faults l.initial.files;
  unkept : g.F.Files.unkept l.files ≡ g.F.Files.unkept l.initial.files;
  quiet : (script : List ℕ) → g.S.Source.left l.initial.source ≡ Some script → names_of (lines l.setting.limits.line script) ≡ [] → l.files ≡ l.initial.files;
  unsaved : (script : List ℕ) → g.S.Source.left l.initial.source ≡ Some script → names_kept_of (lines l.setting.limits.line script) ≡ [] → g.F.Files.held l.files ≡ g.F.Files.held l.initial.files;
  reads : (script : List ℕ) → g.S.Source.left l.initial.source ≡ Some script →
      ReadsOn l.setting.limits script l.read l.feed.held (stand (g.F.Files.held l.initial.files) l.initial.opened l.initial.progress) (stand (g.F.Files.held l.files) l.opened l.progress)
      (g.K.Sink.written l.initial.sink) (g.K.Sink.written l.sink);
}

abbrev pub decreases-loop-feed : goal.decreases-loop-feed
decreases-loop-feed g l = l.setting.limits.script - l.read
