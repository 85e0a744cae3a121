use Rattle.std.proofs.Common.{rules, zero-le}
use Rattle.standing_query.proofs.WatchLemmas.{RiseWithin-push}
use Rattle.standing_query.proofs.watch_list.WatchList.add.Goals as goal

pub invariant_of-self : goal.invariant_of-self
invariant_of-self c =
    rw c.in-Ok.ensures.items (record { rising = RiseWithin-push 0 c.self.inside.next c.self.inside.watches.items c.args.expr zero-le c.self.invariant.rising; few = search rules; in_range = search rules })
