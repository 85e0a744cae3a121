use Rattle.std.proofs.Common.{◌≡◌, ℕ, ◌+◌, ◌-◌, ◌*◌, ◌<◌, ◌≤◌, None, drop, length, min}
use denote.Param.Weighed.{most}
use Rattle.gcl_model.specs.declared.expr.Expr.{size-Expr}
use Rattle.gcl_model.specs.Limits.{address_end, far}
use Rattle.gcl_model.specs.FormOf.{form_of}
use Rattle.gcl_model.specs.Meaning.{concordance}
use Rattle.gcl_model.specs.Cost.{cost}
use Rattle.gcl_model.specs.WellFormed.{AreWellFormed}
use Rattle.gcl_eval.specs.Costs.{ahead_cost}
use Rattle.gcl_eval.specs.Operands.{operand_forms, operand_lists, operand_costs}
use Rattle.gcl_combine.specs.Directions.{farthest, best}
use Rattle.gcl_eval.specs.Directions.{access_of, walk}
use Rattle.gcl_eval.specs.Containments.{asks}
use Rattle.gcl_eval.specs.KnownAnswers.{IsKnown}
use Rattle.gcl_eval.proofs.ContainLoops.{IsAt, turns}
use Rattle.gcl_eval.proofs.+access.Given as goal

-- what is left, from the side so far, gives the same; and it costs no more than was allowed
abbrev pub invariant-chains::farthest-loop-operand : goal.invariant-chains::farthest-loop-operand
invariant-chains::farthest-loop-operand g l =
    let text = g.C.CountedLeaves.text l.source in
    let bound = g.C.CountedLeaves.most l.source in
    let rest = drop l.operand-index l.operands in
    record {
      operands : AreWellFormed (operand_forms rest);
      answer : farthest l.direction (operand_lists text rest) l.k l.side ≡ farthest l.direction (operand_lists text l.operands) l.k l.k;
      below : l.side < far;
      counted : g.C.CountedLeaves.count l.fn.counter ≤ g.C.CountedLeaves.count l.counter;
      cost : g.C.CountedLeaves.count l.counter + operand_costs text bound rest ≤ g.C.CountedLeaves.count l.fn.counter + operand_costs text bound l.operands;
      capped : (cap : ℕ) → g.C.CountedLeaves.Caps l.source cap → g.C.CountedLeaves.count l.fn.counter ≤ cap → g.C.CountedLeaves.count l.counter ≤ cap;
    }

abbrev pub invariant-chains::one_of-loop-operand : goal.invariant-chains::one_of-loop-operand
invariant-chains::one_of-loop-operand g l =
    let text = g.C.CountedLeaves.text l.source in
    let bound = g.C.CountedLeaves.most l.source in
    let rest = drop l.operand-index l.operands in
    record {
      operands : AreWellFormed (operand_forms rest);
      answer : best l.direction (operand_lists text rest) l.k l.best ≡ best l.direction (operand_lists text l.operands) l.k None;
      counted : g.C.CountedLeaves.count l.fn.counter ≤ g.C.CountedLeaves.count l.counter;
      cost : g.C.CountedLeaves.count l.counter + operand_costs text bound rest ≤ g.C.CountedLeaves.count l.fn.counter + operand_costs text bound l.operands;
      capped : (cap : ℕ) → g.C.CountedLeaves.Caps l.source cap → g.C.CountedLeaves.count l.fn.counter ≤ cap → g.C.CountedLeaves.count l.counter ≤ cap;
    }

abbrev pub invariant-chains::walk-loop-operand : goal.invariant-chains::walk-loop-operand
invariant-chains::walk-loop-operand g l =
    let text = g.C.CountedLeaves.text l.source in
    let bound = g.C.CountedLeaves.most l.source in
    record {
      operands : AreWellFormed (operand_forms l.rest);
      answer : walk l.direction (operand_lists text l.rest) l.answer ≡ walk l.direction (operand_lists text l.operands) l.fn.start;
      depth : most size-Expr l.rest ≤ most size-Expr l.operands;
      within : l.answer.end < address_end;
      counted : g.C.CountedLeaves.count l.fn.counter ≤ g.C.CountedLeaves.count l.counter;
      cost : g.C.CountedLeaves.count l.counter + operand_costs text bound l.rest ≤ g.C.CountedLeaves.count l.fn.counter + operand_costs text bound l.operands;
      capped : (cap : ℕ) → g.C.CountedLeaves.Caps l.source cap → g.C.CountedLeaves.count l.fn.counter ≤ cap → g.C.CountedLeaves.count l.counter ≤ cap;
    }

abbrev pub decreases-chains::walk-loop-operand : goal.decreases-chains::walk-loop-operand
decreases-chains::walk-loop-operand g l = length l.rest

-- what the loop gives, starting at the member, is the answer; each turn so far cost two accesses at most
abbrev pub invariant-containments::access_from_ahead-loop-answer : goal.invariant-containments::access_from_ahead-loop-answer
invariant-containments::access_from_ahead-loop-answer g l =
    let text = g.C.CountedLeaves.text l.source in
    let bound = g.C.CountedLeaves.most l.source in
    let members = concordance text (form_of l.first) in
    let others = concordance text (form_of l.second) in
    let node = concordance text (form_of l.expr) in
    let first = cost text bound (form_of l.first) in
    let second = cost text bound (form_of l.second) in
    record {
      reached : IsAt l.direction l.containment members node (access_of l.fn.wanted node l.k) l.member;
      within : l.member.end < address_end;
      known : IsKnown (asks l.direction l.containment) others l.known;
      counted : g.C.CountedLeaves.count l.fn.counter ≤ g.C.CountedLeaves.count l.counter;
      cost : g.C.CountedLeaves.count l.counter + ahead_cost l.fn.wanted text bound (form_of l.expr) ≤ g.C.CountedLeaves.count l.fn.counter + (first + second) + turns l.direction l.containment members others l.member * (first + second);
      capped : (cap : ℕ) → g.C.CountedLeaves.Caps l.source cap → g.C.CountedLeaves.count l.fn.counter ≤ cap → g.C.CountedLeaves.count l.counter ≤ cap;
    }

-- the turns that are left
abbrev pub decreases-containments::access_from_ahead-loop-answer : goal.decreases-containments::access_from_ahead-loop-answer
decreases-containments::access_from_ahead-loop-answer g l =
    let members = concordance (g.C.CountedLeaves.text l.source) (form_of l.first) in
    let others = concordance (g.C.CountedLeaves.text l.source) (form_of l.second) in
    min (length members) (length others) - turns l.direction l.containment members others l.member

-- the depth, and at one depth the caller above those that it calls
abbrev pub decreases-access::access : goal.decreases-access::access
decreases-access::access g l = 16 * size-Expr l.expr.now + 13

abbrev pub decreases-access::access_by_operands : goal.decreases-access::access_by_operands
decreases-access::access_by_operands g l = 16 * size-Expr l.expr.now + 12

abbrev pub decreases-known::known_access : goal.decreases-known::known_access
decreases-known::known_access g l = 16 * size-Expr l.expr.now + 14

abbrev pub decreases-containments::containment_access : goal.decreases-containments::containment_access
decreases-containments::containment_access g l = 16 * size-Expr l.expr.now + 5

abbrev pub decreases-containments::access_from_ahead : goal.decreases-containments::access_from_ahead
decreases-containments::access_from_ahead g l = 16 * size-Expr l.expr.now + 4

abbrev pub decreases-containments::element_ahead : goal.decreases-containments::element_ahead
decreases-containments::element_ahead g l = 16 * size-Expr l.expr.now + 4

abbrev pub decreases-containments::element_behind_answer : goal.decreases-containments::element_behind_answer
decreases-containments::element_behind_answer g l = 16 * size-Expr l.second.now + 15

abbrev pub decreases-containments::first_member : goal.decreases-containments::first_member
decreases-containments::first_member g l = 16 * size-Expr l.first.now + 14

abbrev pub decreases-chains::chain_access : goal.decreases-chains::chain_access
decreases-chains::chain_access g l = 16 * size-Expr l.expr.now + 10

abbrev pub decreases-chains::far_access : goal.decreases-chains::far_access
decreases-chains::far_access g l = 16 * size-Expr l.expr.now + 9

abbrev pub decreases-chains::past_passed : goal.decreases-chains::past_passed
decreases-chains::past_passed g l = 16 * size-Expr l.expr.now + 8

abbrev pub decreases-chains::passed_member : goal.decreases-chains::passed_member
decreases-chains::passed_member g l = 16 * size-Expr l.expr.now + 7

abbrev pub decreases-chains::near_access : goal.decreases-chains::near_access
decreases-chains::near_access g l = 16 * size-Expr l.expr.now + 6

-- an operand is smaller than the expression
abbrev pub decreases-chains::both_of : goal.decreases-chains::both_of
decreases-chains::both_of g l = 16 * most size-Expr l.operands.now + 15

abbrev pub decreases-chains::one_of : goal.decreases-chains::one_of
decreases-chains::one_of g l = 16 * most size-Expr l.operands.now + 15

abbrev pub decreases-chains::followed_by : goal.decreases-chains::followed_by
decreases-chains::followed_by g l = 16 * most size-Expr l.operands.now + 15

abbrev pub decreases-chains::next_past : goal.decreases-chains::next_past
decreases-chains::next_past g l = 16 * most size-Expr l.operands.now + 16

abbrev pub decreases-chains::followed_by_far_sides : goal.decreases-chains::followed_by_far_sides
decreases-chains::followed_by_far_sides g l = 16 * most size-Expr l.operands.now + 17

abbrev pub decreases-chains::farthest : goal.decreases-chains::farthest
decreases-chains::farthest g l = 16 * most size-Expr l.operands.now + 14

abbrev pub decreases-chains::walk : goal.decreases-chains::walk
decreases-chains::walk g l = 16 * most size-Expr l.operands.now + 14
