use Rattle.prefix_leaves.specs.Prefixes.{tokens_of}
use Rattle.prefix_leaves.proofs.Renamed.{renamed_is_text}
use Rattle.prefix_leaves.proofs.leaves.PrefixLeavesLeaves.span.Goals as goal

pub returns-clause-sound : goal.returns-clause-sound
returns-clause-sound g c = renamed_is_text (tokens_of c.args.self.now.prefixes.now) (g.L.Leaves.text c.args.self.now.inner.now) c.span.ensures.sound
