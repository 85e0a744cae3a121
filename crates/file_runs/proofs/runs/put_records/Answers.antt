use Rattle.std.proofs.Common.{sym, subst}
use Rattle.std.specs.Option.{IfSome}
use Rattle.address_space.specs.Runs.{FileEntry, Precedes, last_file}
use Rattle.file_runs.proofs.RunLemmas.{put_next}
use Rattle.file_runs.proofs.runs.put_records.Goals as goal

pub push_shared-requires : goal.push_shared-requires
push_shared-requires c =
    subst (λ (file : FileEntry). IfSome (last_file c.loop-record.files) (λ last. Precedes last file)) (sym c.in_ok-share.ensures)
    (put_next c.args.files.now c.args.records.now c.loop-record.files c.loop-record.record-index _ c.requires c.loop-record-test.true c.record-item.is c.loop-record.invariant)
