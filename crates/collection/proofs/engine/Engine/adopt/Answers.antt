use Rattle.std.proofs.Common.{◌≡◌, ap, subst, arith}
use Rattle.live_version.specs.Contents.{VersionContent}
use Rattle.collection.specs.Changes.{Adopts}
use Rattle.collection.proofs.ChangeLemmas.{adopts}
use Rattle.collection.proofs.EngineLemmas.{engine-adopted}
use Rattle.collection.proofs.engine.Engine.adopt.Goals as goal

pub publish-requires : goal.publish-requires
publish-requires g c =
    let e = c.args.self.now in
    let last = c.version-3.result.now in
    let same : last ≡ e.version = c.version-3.ensures.value in
    let empty : last.next_id ≡ 0 = omega (arith, c.if-given-gt0.false, c.next_id-given.ensures.value, ap (λ (v : VersionContent). v.next_id) c.version.ensures.value, ap (λ (v : VersionContent). v.next_id) same) in
    engine-adopted e c.args.version c.after-next.result c.version.ensures.engine c.requires.number c.requires.opened
    (subst (λ (v : VersionContent). Adopts v c.args.version c.after-next.result) same (adopts last c.args.version c.after-next.result empty c.after-next.ensures.value c.after-next.ensures.stands))
