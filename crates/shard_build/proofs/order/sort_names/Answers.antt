use Rattle.std.specs.Map.{keys_of}
use Rattle.shard_build.specs.Met.{hash_by, told_by}
use Rattle.shard_build.proofs.NameLists.{distinct_moved, keys_moved}
use Rattle.shard_build.proofs.Noting.{names_reordered}
use Rattle.shard_build.proofs.Numbering.{hashes_moved}
use Rattle.shard_build.proofs.order.sort_names.Goals as goal

pub number_anew-requires : goal.number_anew-requires
number_anew-requires c =
    let numbers = c.args.numbers.now in
    let es = c.args.lists.now.items in
    let fs = c.sort_unstable_by.new.self.items in
    hashes_moved (hash_by numbers.initial) (told_by numbers) (keys_of es) (keys_of fs) (keys_moved es fs c.sort_unstable_by.ensures.permutation) c.requires.numbers

pub returns : goal.returns
returns c =
    let es = c.args.lists.now.items in
    let fs = c.sort_unstable_by.new.self.items in
    let moved = c.sort_unstable_by.ensures.permutation in
    record {
      names = names_reordered es fs moved (distinct_moved es fs moved c.requires.names.distinct) c.requires.names;
      numbers = c.number_anew.ensures;
    }
