use Rattle.std.proofs.Common.{rules, ◌-◌, ◌<◌, length, arith}
use Rattle.standing_query.proofs.WalkLemmas.{well_formed_at, size_at}
use Rattle.near_search.proofs.around.+told.Goals as goal

pub all_told-told-one-requires : goal.all_told-told-one-requires
all_told-told-one-requires g t c =
    let within : c.loop-left.left - 1 < length c.args.exprs.now = omega (arith, c.loop-left.invariant.few, c.loop-left-test.true) in
    let well = well_formed_at (c.loop-left.left - 1) c.args.exprs.now c.index-exprs-left.result c.requires.well_formed within c.index-exprs-left.is in
    let depth = size_at (c.loop-left.left - 1) c.args.exprs.now c.index-exprs-left.result within c.index-exprs-left.is in
    search rules
