use Rattle.std.proofs.Common.{◌≡◌, ◌+◌, ◌-◌, ◌^◌, ◌<◌, ◌≤◌, length, get_or, arith}
use Rattle.posting_code.proofs.Rising.{rise_index}
use Rattle.term_fingers.proofs.Beside.{below_place, none_passed, passed_start}
use Rattle.term_fingers.proofs.Nearest.{climbs}
use Rattle.term_fingers.proofs.pairs.earliest_pair_in.Goals as goal

pub overflow_add-k : goal.overflow_add-k
overflow_add-k c =
    let first = c.args.first.now in
    let below : get_or first (length first - 1) 0 < 2 ^ 56 = (rise_index 0 (2 ^ 56) first (length first - 1) c.requires.first (omega (arith, c.requires.within))).1 in
    omega (arith, below, c.requires.reach)

pub by_twos-at-requires-clause-passed : goal.by_twos-at-requires-clause-passed
by_twos-at-requires-clause-passed c =
    passed_start c.args.first.now c.args.second.now c.args.k c.requires.first c.requires.second c.place_from-at.result c.place_from-behind.result
    c.place_from-at.ensures.within c.place_from-behind.ensures.within c.place_from-at.ensures.before c.place_from-behind.ensures.before

pub returns-then-behind-second-clause-none : goal.returns-then-behind-second-clause-none
returns-then-behind-second-clause-none c =
    let first = c.args.first.now in
    let at = c.side_by_side-at.result.0 in
    none_passed first c.args.second.now c.args.k c.requires.first c.requires.second at c.side_by_side-at.result.1 (get_or first at 0) c.side_by_side-at.ensures.passed
    (λ x within less. below_place first at x c.requires.first within less)

pub returns-then-behind-second-clause-first : goal.returns-then-behind-second-clause-first
returns-then-behind-second-clause-first c =
    let first = c.args.first.now in
    let at = c.side_by_side-at.result.0 in
    let up : get_or first at 0 ≤ get_or first (length first - 1) 0 = climbs 0 (2 ^ 56) first at (length first - 1) c.requires.first (omega (arith, c.if-at-first.true)) (omega (arith, c.requires.within)) in
    omega (arith, up)

pub returns-then-behind-second-clause-second : goal.returns-then-behind-second-clause-second
returns-then-behind-second-clause-second c =
    let first = c.args.first.now in
    let second = c.args.second.now in
    let at = c.side_by_side-at.result.0 in
    let behind = c.side_by_side-at.result.1 in
    let met : get_or first at 0 + 1 ≡ get_or second behind 0 = c.side_by_side-at.ensures.met c.if-at-first.true c.if-behind-second.true in
    let up : get_or second behind 0 ≤ get_or second (length second - 1) 0 = climbs 0 (2 ^ 56) second behind (length second - 1) c.requires.second (omega (arith, c.if-behind-second.true)) (omega (arith, c.requires.some)) in
    omega (arith, met, up)
