use Rattle.prefix_leaves.proofs.LeafLemmas.{places_are_exact}
use Rattle.prefix_leaves.proofs.leaves.PrefixLeaves.new.Goals as goal

pub invariant_of-result : goal.invariant_of-result
invariant_of-result g c = record { exact = places_are_exact (g.L.Leaves.text c.args.inner.now) c.args.prefixes.now c.requires }
