use Rattle.std.proofs.Common.{rules, ◌-◌, ◌<◌, length, ◌∙◌, arith}
use Rattle.live_version.specs.Contents.{version_text}
use Rattle.standing_query.proofs.WalkLemmas.{well_formed_at, size_at}
use Rattle.near_search.proofs.AroundLemmas.{around_is_reach}
use Rattle.near_search.proofs.around.+reach.Goals as goal

pub all_reach-reach-one-requires : goal.all_reach-reach-one-requires
all_reach-reach-one-requires g t c =
    let within : c.loop-left.left - 1 < length c.args.exprs.now = omega (arith, c.loop-left.invariant.few, c.loop-left-test.true) in
    let well = well_formed_at (c.loop-left.left - 1) c.args.exprs.now c.index-exprs-left.result c.requires.well_formed within c.index-exprs-left.is in
    let depth = size_at (c.loop-left.left - 1) c.args.exprs.now c.index-exprs-left.result within c.index-exprs-left.is in
    search rules

pub reach-returns-in-Width-clause-low : goal.reach-returns-in-Width-clause-low
reach-returns-in-Width-clause-low g t c =
    c.around.ensures.low ∙ (around_is_reach (version_text c.args.version.now) c.args.inner.low c.args.inner.high c.args.expr.now c.in-Width.is).0

pub reach-returns-in-Width-clause-high : goal.reach-returns-in-Width-clause-high
reach-returns-in-Width-clause-high g t c =
    c.around.ensures.high ∙ (around_is_reach (version_text c.args.version.now) c.args.inner.low c.args.inner.high c.args.expr.now c.in-Width.is).1
