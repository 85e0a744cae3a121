use Rattle.std.proofs.Common.{[], refl, sym}
use Rattle.shard_build.proofs.NumberedNames.{numbered_kept, numbered_same}
use Rattle.shard_build.proofs.SeenNames.{names_same}
use Rattle.shard_build.proofs.names.Names.bound.Goals as goal

pub forget_above-requires : goal.forget_above-requires
forget_above-requires c =
    let fs = c.clear_all.new.lists.items in
    numbered_kept c.self.inside.numbers c.self.inside.lists.items fs [] c.clear_all.ensures.kept c.self.invariant.numbers
    (names_same fs fs c.clear_all.new.seen.items [] refl (sym c.clear_all.ensures.none) c.clear_all.ensures.names)

pub invariant_of-self : goal.invariant_of-self
invariant_of-self c =
    numbered_same c.forget_above.new.numbers c.shrink_numbers.new.numbers c.forget_above.new.lists.items c.shrink_to.new.self.items [] c.clear_all.new.seen.items
    c.shrink_numbers.ensures.initial c.shrink_numbers.ensures.told c.shrink_to.ensures.items c.clear_all.ensures.none c.forget_above.ensures
