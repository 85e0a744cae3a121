use Rattle.std.proofs.Common.{subst}
use Rattle.live_version.specs.Contents.{VersionContent}
use Rattle.collection.specs.Changes.{MergesSlotsOf}
use Rattle.collection.proofs.EngineLemmas.{engine-merged}
use Rattle.collection.proofs.engine.Engine.merge_all.Goals as goal

pub publish-requires : goal.publish-requires
publish-requires g c =
    engine-merged c.args.self.now c.in_ok-version.version c.version.ensures.engine c.requires
    (subst (λ (v : VersionContent). MergesSlotsOf v c.in_ok-version.version) c.version.ensures.value c.in_ok-version.ensures)
