use Rattle.std.proofs.Common.{[], ap, ◌∙◌}
use Rattle.std.specs.Map.{keys_of}
use Rattle.shard_build.proofs.NameLists.{keys_set}
use Rattle.shard_build.proofs.SeenNames.{last_within, names_less}
use Rattle.shard_build.proofs.lists.clear_all.Goals as goal

pub clear_at-requires : goal.clear_at-requires
clear_at-requires c = last_within c.loop-last.lists.items c.pop.new.self.items c.loop-last.seen.items c.in-Some.last c.in-Some.ensures.items c.loop-last.invariant.names

pub loop-last-preserved : goal.loop-last-preserved
loop-last-preserved c = record {
  names = names_less c.loop-last.lists.items c.clear_at.new.lists.items c.pop.new.self.items c.loop-last.seen.items c.in-Some.last c.in-Some.ensures.items c.clear_at.ensures c.loop-last.invariant.names;
  kept = ap keys_of c.clear_at.ensures ∙ keys_set c.loop-last.lists.items c.in-Some.last.number [] ∙ c.loop-last.invariant.kept;
}
