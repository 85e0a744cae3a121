use Rattle.std.proofs.Common.{map, drop, string_bytes}
use Rattle.query_run.specs.Promises.{objects}
use Rattle.query_run.specs.declared.status.Status.TheVariants.{NoMemory}
use Rattle.query_run.proofs.RunLemmas.{nothing_begun}
use Rattle.gclq.proofs.session.begin.Goals as goal

pub returns-in-Err : goal.returns-in-Err
returns-in-Err g c = record {
  status = NoMemory;
  number = c.refuse.ensures;
  completed = 0;
  run = nothing_begun (map string_bytes (drop 1 c.args.args.now))
      (objects (g.S.Source.left c.args.source.now) (g.S.Source.faults c.args.source.now) (g.F.Files.held c.args.files.now) (g.F.Files.unkept c.args.files.now) (g.F.Files.faults c.args.files.now) (g.K.Sink.written c.args.sink.now) (g.K.Sink.faults c.args.sink.now)) c.args.source.now c.args.files.now c.args.sink.now;
}
