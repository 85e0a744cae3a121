use Rattle.shard_build.proofs.NumberedNames.{no_names}
use Rattle.shard_build.proofs.names.Names.seeded.Goals as goal

pub invariant_of-result : goal.invariant_of-result
invariant_of-result c = no_names c.new-2.result c.new.result.items c.new-4.result.items c.new-2.ensures c.new.ensures.items c.new-4.ensures.items
