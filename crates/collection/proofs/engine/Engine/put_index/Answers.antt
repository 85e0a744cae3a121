use Rattle.std.proofs.Common.{length, ap, subst, arith}
use Rattle.live_version.specs.Contents.{VersionContent, IsVersion}
use Rattle.collection.specs.Changes.{AddsFileTo}
use Rattle.collection.proofs.EngineLemmas.{engine-added, engine-room}
use Rattle.collection.proofs.engine.Engine.put_index.Goals as goal

pub with_file-requires-clause-few : goal.with_file-requires-clause-few
with_file-requires-clause-few g c =
    let room = engine-room c.args.self.now c.version-last.ensures.engine (subst IsVersion c.version-last.ensures.value c.next-first.ensures.version) in
    omega (arith, room.few, ap (λ (v : VersionContent). length v.slots) c.version-last.ensures.value)

pub with_file-requires-clause-ids : goal.with_file-requires-clause-ids
with_file-requires-clause-ids g c =
    let room = engine-room c.args.self.now c.version-last.ensures.engine (subst IsVersion c.version-last.ensures.value c.next-first.ensures.version) in
    omega (arith, room.ids, ap (λ (v : VersionContent). v.next_id) c.version-last.ensures.value)

pub with_file-requires-clause-number : goal.with_file-requires-clause-number
with_file-requires-clause-number g c =
    let room = engine-room c.args.self.now c.version-last.ensures.engine (subst IsVersion c.version-last.ensures.value c.next-first.ensures.version) in
    omega (arith, room.number, ap (λ (v : VersionContent). v.number) c.version-last.ensures.value)

pub publish-requires : goal.publish-requires
publish-requires g c =
    engine-added c.args.self.now c.in_ok-version.version c.args.name.now c.args.index c.version-last.ensures.engine
    (subst (λ (v : VersionContent). AddsFileTo v c.in_ok-version.version c.args.name.now c.args.index) c.version-last.ensures.value c.in_ok-version.ensures)
