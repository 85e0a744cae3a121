use Rattle.std.proofs.Common.{subst}
use Rattle.live_version.specs.Contents.{VersionContent}
use Rattle.collection.specs.Changes.{PutsSlotFirst}
use Rattle.collection.proofs.FrontLemmas.{engine-front}
use Rattle.collection.proofs.engine.Engine.put_merged.Goals as goal

pub publish-requires : goal.publish-requires
publish-requires g c =
    engine-front c.args.self.now c.in_ok-version.version c.args.count c.args.slot c.version.ensures.engine c.requires.number c.requires.range
    (subst (λ (v : VersionContent). PutsSlotFirst v c.in_ok-version.version c.args.count c.args.slot) c.version.ensures.value c.in_ok-version.ensures)
