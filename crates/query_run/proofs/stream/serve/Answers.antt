use Rattle.std.proofs.Common.{◌≡◌, ◌≤◌, true, false, Some, IfSome, length, sym, ◌∙◌}
use Rattle.std.specs.Io.KnownBytes.{IsAtEnd}
use Rattle.query_run.specs.Runs.{HasAnswered, WhereTold}
use Rattle.query_run.specs.inner.Streams.{status_of}
use Rattle.query_run.specs.declared.status.Status.TheVariants.{Done, DoneWithRefusals}
use Rattle.query_run.proofs.Ended.{answered_by, at_answered, at_done, at_refusals, cut_off, files_calm, files_failed, finishes, at_sure, never_usage, read_failed, sink_calm, source_calm, stopped_told, takes_told, too_long, write_failed}
use Rattle.query_run.proofs.Told.{told_part}
use Rattle.query_run.proofs.stream.serve.Goals as goal

pub returns-clause-never_usage : goal.returns-clause-never_usage
returns-clause-never_usage g c = λ is. never_usage c.serve_all-ended.result c.serve_all-ended.new.progress.refused (sym c.status_of.ensures ∙ is)

pub returns-clause-done : goal.returns-clause-done
returns-clause-done g c = λ is.
    let told : status_of c.serve_all-ended.result c.serve_all-ended.new.progress.refused ≡ Done = sym c.status_of.ensures ∙ is in
    answered_by c.args.limits.now c.args.opened.now.engine.version.first (g.S.Source.left c.args.source.now) (g.S.Source.left c.serve_all-ended.new.source) (g.F.Files.held c.args.files.now) (g.F.Files.held c.serve_all-ended.new.files) false (g.K.Sink.written c.args.sink.now) (g.K.Sink.written c.serve_all-ended.new.sink)
    (at_done (λ refusal. IfSome (g.S.Source.left c.args.source.now) (λ script. length script ≤ c.args.limits.now.script)) c.serve_all-ended.result c.serve_all-ended.new.progress.refused c.serve_all-ended.ensures.read.short told)
    (at_done (λ refusal. IsAtEnd (g.S.Source.left c.serve_all-ended.new.source)) c.serve_all-ended.result c.serve_all-ended.new.progress.refused c.serve_all-ended.ensures.read.ended told)
    (at_done (λ refusal. WhereTold c.args.limits.now (Some c.args.opened.now.engine.version.first) (g.S.Source.left c.args.source.now) (g.F.Files.held c.args.files.now) (λ start script. HasAnswered c.args.limits.now start script refusal (g.F.Files.held c.serve_all-ended.new.files) (g.K.Sink.written c.args.sink.now) (g.K.Sink.written c.serve_all-ended.new.sink))) c.serve_all-ended.result c.serve_all-ended.new.progress.refused c.serve_all-ended.ensures.answered told)

pub returns-clause-done_with_refusals : goal.returns-clause-done_with_refusals
returns-clause-done_with_refusals g c = λ is.
    let told : status_of c.serve_all-ended.result c.serve_all-ended.new.progress.refused ≡ DoneWithRefusals = sym c.status_of.ensures ∙ is in
    answered_by c.args.limits.now c.args.opened.now.engine.version.first (g.S.Source.left c.args.source.now) (g.S.Source.left c.serve_all-ended.new.source) (g.F.Files.held c.args.files.now) (g.F.Files.held c.serve_all-ended.new.files) true (g.K.Sink.written c.args.sink.now) (g.K.Sink.written c.serve_all-ended.new.sink)
    (at_refusals (λ refusal. IfSome (g.S.Source.left c.args.source.now) (λ script. length script ≤ c.args.limits.now.script)) c.serve_all-ended.result c.serve_all-ended.new.progress.refused c.serve_all-ended.ensures.read.short told)
    (at_refusals (λ refusal. IsAtEnd (g.S.Source.left c.serve_all-ended.new.source)) c.serve_all-ended.result c.serve_all-ended.new.progress.refused c.serve_all-ended.ensures.read.ended told)
    (at_refusals (λ refusal. WhereTold c.args.limits.now (Some c.args.opened.now.engine.version.first) (g.S.Source.left c.args.source.now) (g.F.Files.held c.args.files.now) (λ start script. HasAnswered c.args.limits.now start script refusal (g.F.Files.held c.serve_all-ended.new.files) (g.K.Sink.written c.args.sink.now) (g.K.Sink.written c.serve_all-ended.new.sink))) c.serve_all-ended.result c.serve_all-ended.new.progress.refused c.serve_all-ended.ensures.answered told)

pub returns-clause-left : goal.returns-clause-left
returns-clause-left g c = at_answered c.serve_all-ended.result c.serve_all-ended.new.progress.refused c.status_of.result c.status_of.ensures c.serve_all-ended.ensures.left

pub returns-clause-stopped : goal.returns-clause-stopped
returns-clause-stopped g c =
    stopped_told c.serve_all-ended.result c.serve_all-ended.new.progress.refused c.status_of.result c.status_of.ensures c.args.limits.now c.args.opened.now.engine.version.first c.serve_all-ended.new.opened.lines c.serve_all-ended.new.opened.engine.version (g.F.Files.unkept c.serve_all-ended.new.files ≡ g.F.Files.unkept c.args.files.now)
    (g.S.Source.left c.args.source.now) (g.F.Files.held c.args.files.now) (g.F.Files.held c.serve_all-ended.new.files) (g.K.Sink.written c.args.sink.now) (g.K.Sink.written c.serve_all-ended.new.sink) c.serve_all-ended.ensures.stopped

pub returns-clause-sure : goal.returns-clause-sure
returns-clause-sure g c = λ sure. c.serve_all-ended.ensures.files.sure (at_sure c.serve_all-ended.result c.serve_all-ended.new.progress.refused c.status_of.result c.status_of.ensures sure)

pub returns-clause-part : goal.returns-clause-part
returns-clause-part g c =
    told_part c.args.limits.now c.args.opened.now.engine.version.first _ (g.F.Files.unkept c.serve_all-ended.new.files ≡ g.F.Files.unkept c.args.files.now)
    (g.S.Source.left c.args.source.now) (g.F.Files.held c.args.files.now) (g.F.Files.held c.serve_all-ended.new.files) (g.K.Sink.written c.args.sink.now) (g.K.Sink.written c.serve_all-ended.new.sink) c.serve_all-ended.new.opened.lines c.serve_all-ended.new.opened.engine c.serve_all-ended.ensures.stopped

pub returns-clause-part_within : goal.returns-clause-part_within
returns-clause-part_within g c = λ is. c.serve_all-ended.ensures.part_within (too_long c.serve_all-ended.result c.serve_all-ended.new.progress.refused (sym c.status_of.ensures ∙ is))

pub returns-clause-took : goal.returns-clause-took
returns-clause-took g c = takes_told c.serve_all-ended.result c.serve_all-ended.new.progress.refused c.status_of.result c.status_of.ensures c.args.limits.now.script (g.S.Source.left c.args.source.now) (g.S.Source.left c.serve_all-ended.new.source) (g.S.Source.faults c.args.source.now) (g.S.Source.faults c.serve_all-ended.new.source) c.serve_all-ended.ensures.read

pub returns-clause-read_fault : goal.returns-clause-read_fault
returns-clause-read_fault g c = λ is. c.serve_all-ended.ensures.read.faults.rose (read_failed c.serve_all-ended.result c.serve_all-ended.new.progress.refused (sym c.status_of.ensures ∙ is))

pub returns-clause-write_fault : goal.returns-clause-write_fault
returns-clause-write_fault g c = λ is. c.serve_all-ended.ensures.sink.rose (write_failed c.serve_all-ended.result c.serve_all-ended.new.progress.refused (sym c.status_of.ensures ∙ is))

pub returns-clause-file_fault : goal.returns-clause-file_fault
returns-clause-file_fault g c = λ is. c.serve_all-ended.ensures.faults.rose (files_failed c.serve_all-ended.result c.serve_all-ended.new.progress.refused (sym c.status_of.ensures ∙ is))

pub returns-clause-too_long : goal.returns-clause-too_long
returns-clause-too_long g c = λ is. c.serve_all-ended.ensures.read.too_long (too_long c.serve_all-ended.result c.serve_all-ended.new.progress.refused (sym c.status_of.ensures ∙ is))

pub returns-clause-complete : goal.returns-clause-complete
returns-clause-complete g c = finishes c.serve_all-ended.result c.serve_all-ended.new.progress.refused c.status_of.result c.status_of.ensures c.args.limits.now.script (g.S.Source.left c.args.source.now) (g.S.Source.left c.serve_all-ended.new.source) (g.S.Source.faults c.args.source.now) (g.S.Source.faults c.serve_all-ended.new.source) (g.K.Sink.faults c.args.sink.now) (g.K.Sink.faults c.serve_all-ended.new.sink) (g.F.Files.faults c.args.files.now) (g.F.Files.faults c.serve_all-ended.new.files) c.serve_all-ended.ensures.read c.serve_all-ended.ensures.sink c.serve_all-ended.ensures.faults

pub returns-clause-complete_long : goal.returns-clause-complete_long
returns-clause-complete_long g c = cut_off c.serve_all-ended.result c.serve_all-ended.new.progress.refused c.status_of.result c.status_of.ensures c.args.limits.now.script (g.S.Source.left c.args.source.now) (g.S.Source.left c.serve_all-ended.new.source) (g.S.Source.faults c.args.source.now) (g.S.Source.faults c.serve_all-ended.new.source) (g.K.Sink.faults c.args.sink.now) (g.K.Sink.faults c.serve_all-ended.new.sink) (g.F.Files.faults c.args.files.now) (g.F.Files.faults c.serve_all-ended.new.files) c.serve_all-ended.ensures.read c.serve_all-ended.ensures.sink c.serve_all-ended.ensures.faults

pub returns-clause-source_calm : goal.returns-clause-source_calm
returns-clause-source_calm g c = λ calm. source_calm c.serve_all-ended.result c.serve_all-ended.new.progress.refused (g.S.Source.faults c.args.source.now) (g.S.Source.faults c.serve_all-ended.new.source) c.serve_all-ended.ensures.read.faults (λ is. calm (c.status_of.ensures ∙ is))

pub returns-clause-sink_calm : goal.returns-clause-sink_calm
returns-clause-sink_calm g c = λ calm. sink_calm c.serve_all-ended.result c.serve_all-ended.new.progress.refused (g.K.Sink.faults c.args.sink.now) (g.K.Sink.faults c.serve_all-ended.new.sink) c.serve_all-ended.ensures.sink (λ is. calm (c.status_of.ensures ∙ is))

pub returns-clause-files_calm : goal.returns-clause-files_calm
returns-clause-files_calm g c = λ calm. files_calm c.serve_all-ended.result c.serve_all-ended.new.progress.refused (g.F.Files.faults c.args.files.now) (g.F.Files.faults c.serve_all-ended.new.files) c.serve_all-ended.ensures.faults (λ is. calm (c.status_of.ensures ∙ is))

pub returns-clause-unasked : goal.returns-clause-unasked
returns-clause-unasked g c = c.serve_all-ended.ensures.files.quiet

pub returns-clause-unsaved : goal.returns-clause-unsaved
returns-clause-unsaved g c = c.serve_all-ended.ensures.files.unsaved
