use Rattle.std.proofs.Common.{ap, subst, arith}
use Rattle.live_version.specs.Contents.{VersionContent, IsVersion}
use Rattle.collection.specs.Changes.{DeletesFileFrom}
use Rattle.collection.proofs.EngineLemmas.{engine-deleted, engine-room}
use Rattle.collection.proofs.engine.Engine.delete.Goals as goal

pub without_file-requires-clause-number : goal.without_file-requires-clause-number
without_file-requires-clause-number g c =
    let e = c.args.self.now in
    let room = engine-room e c.version.ensures.engine (subst IsVersion c.version.ensures.value c.find_file.ensures.version) in
    omega (arith, room.number, ap (λ (v : VersionContent). v.number) c.version-2.ensures.value)

pub publish-requires : goal.publish-requires
publish-requires g c =
    engine-deleted c.args.self.now c.in_ok-version.version c.args.id.0 c.version.ensures.engine
    (subst (λ (v : VersionContent). DeletesFileFrom v c.in_ok-version.version c.args.id.0) c.version-2.ensures.value c.in_ok-version.ensures)
