use Rattle.std.proofs.Common.{◌≡◌, ◌<◌, ◌≤◌, refl, ap, arith}
use Rattle.gcl_model.specs.Limits.{address_end}
use Rattle.collection.specs.Engines.{EngineContent}
use Rattle.script_answers.specs.States.{greatest_limits}
use Rattle.query_run.specs.Promises.{Objects, objects}
use Rattle.query_run.specs.Statuses.{ending_of}
use Rattle.query_run.proofs.RunLemmas.{nothing_run, run_by}
use Rattle.query_run.proofs.Told.{stops_after}
use Rattle.query_run.proofs.script_run.run_script.Goals as goal

pub unreachable-requires : goal.unreachable-requires
unreachable-requires g c =
    let over : address_end < c.args.first = ((c.in-Err-BadFirst.ensures.bad_first c.in-Err-BadFirst.field-0-0).0 (rw c.in-Err-BadFirst.field-0-is refl)).1 in
    let within : c.args.first ≤ address_end = c.requires.in_range in
    omega (arith, over, within)

pub returns-in-Err-NoMemory : goal.returns-in-Err-NoMemory
returns-in-Err-NoMemory g c =
    rw c.requires.none (nothing_run greatest_limits
    (objects (g.S.Source.left c.args.source.now) (g.S.Source.faults c.args.source.now) (g.F.Files.held c.args.files.now) (g.F.Files.unkept c.args.files.now) (g.F.Files.faults c.args.files.now) (g.K.Sink.written c.args.sink.now) (g.K.Sink.faults c.args.sink.now))
    c.args.first c.args.files.now)

pub returns : goal.returns
returns g c =
    let first : c.in-Ok.opened.engine.version.first ≡ c.args.first = ap (λ (e : EngineContent). e.version.first) c.in-Ok.ensures.history in
    let limits = c.greatest-limits.result in
    let address = c.in-Ok.opened.engine.version.first in
    let old : Objects = objects (g.S.Source.left c.args.source.now) (g.S.Source.faults c.args.source.now) (g.F.Files.held c.args.files.now) (g.F.Files.unkept c.args.files.now) (g.F.Files.faults c.args.files.now) (g.K.Sink.written c.args.sink.now) (g.K.Sink.faults c.args.sink.now) in
    let new : Objects = objects (g.S.Source.left c.serve-status.new.source) (g.S.Source.faults c.serve-status.new.source) (g.F.Files.held c.serve-status.new.files) (g.F.Files.unkept c.serve-status.new.files) (g.F.Files.faults c.serve-status.new.files) (g.K.Sink.written c.serve-status.new.sink) (g.K.Sink.faults c.serve-status.new.sink) in
    let completed = c.serve-status.new.opened.lines in
    let status = c.serve-status.result in
    let served = c.serve-status.ensures in
    run_by limits greatest_limits address c.args.first old new completed status (c.serve-status.new.files ≡ c.args.files.now) c.greatest-limits.ensures first (record {
      never_usage = served.never_usage;
      told = record {
        done = served.done;
        done_with_refusals = served.done_with_refusals;
        stopped = stops_after limits address (ending_of status) (new.unkept ≡ old.unkept) old.left old.held new.held old.written new.written completed c.serve-status.new.opened.engine.version served.stopped;
        sure = served.sure;
        part = served.part;
        part_within = served.part_within;
      };
      caused = record {
        took = served.took;
        read_fault = served.read_fault;
        write_fault = served.write_fault;
        file_fault = served.file_fault;
        too_long = served.too_long;
        source_calm = served.source_calm;
        sink_calm = served.sink_calm;
        files_calm = served.files_calm;
      };
      complete = record { complete = λ given. served.complete; complete_long = λ given. served.complete_long };
      others = record { unasked = served.unasked; unsaved = served.unsaved };
    })
