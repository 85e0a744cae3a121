use Rattle.std.proofs.Common.{◌≡◌}
use Rattle.grep_run.specs.Requests.{request_of}
use Rattle.grep_run.proofs.VisitLemmas.{SoFar}
use Rattle.grep_run.proofs.files.search_files.Given as goal

-- the files in front of this one were visited
abbrev pub invariant-loop-name : goal.invariant-loop-name
invariant-loop-name g l = record {
  so_far : SoFar (g.F.Files.held l.initial.files) (request_of l.wish) l.names l.name-index l.summary (g.K.Sink.written l.initial.sink) (g.K.Sink.written l.sink)
      (g.F.Files.faults l.initial.files) (g.F.Files.faults l.files) l.initial.steps l.steps;
  held : g.F.Files.held l.files ≡ g.F.Files.held l.initial.files;
  calm : g.K.Sink.faults l.sink ≡ g.K.Sink.faults l.initial.sink;
}
