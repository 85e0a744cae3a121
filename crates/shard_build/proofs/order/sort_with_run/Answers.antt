use Rattle.std.proofs.Common.{rules}
use Rattle.std.proofs.lemmas.Fn.{always_returns_same}
use Rattle.std.specs.Ordering.{is_lt}
use Rattle.std.specs.Map.{keys_of}
use Rattle.shard_build.specs.Met.{falling}
use Rattle.shard_build.proofs.SeenRows.{falling_order}
use Rattle.shard_build.proofs.order.sort_with_run.Goals as goal

pub returns-in-Ok-clause-sorted : goal.returns-in-Ok-clause-sorted
returns-in-Ok-clause-sorted c =
    c.in-Ok.ensures.sorted (λ x y. is_lt (falling (keys_of c.args.lists.now.items) x y)) (falling_order (keys_of c.args.lists.now.items))
    (always_returns_same _ _ _ (λ a r g called. (search rules, search rules)))
