use Rattle.std.proofs.Common.{◌≡◌, ◌+◌, ◌-◌, ◌*◌, ◌<◌, ◌≤◌, Some, min, length}
use Rattle.gcl_model.specs.Limits.{address_end}
use Rattle.gcl_model.specs.Access.{first_start, first_end, last_end}
use Rattle.gcl_model.specs.FormOf.{form_of}
use Rattle.gcl_model.specs.Meaning.{concordance}
use Rattle.gcl_model.specs.declared.direction.Direction.TheVariants.{Forward}
use Rattle.gcl_eval.specs.Members.{members_from}
use Rattle.gcl_eval.specs.Operands.{operand_forms}
use Rattle.gcl_eval.proofs.ContainLoops.{IsAt, turns}
use Rattle.gcl_readers.specs.Fronts.{member_of}
use Rattle.gcl_readers.specs.Standing.{nodes, nodes_of, Stands, front_of, start_at, left_to}
use Rattle.gcl_readers.specs.MergeCost.{member_cost, cost_below, cost_left}
use Rattle.gcl_readers.proofs.ContainRules.{SecondAnswers}
use Rattle.gcl_readers.proofs.+reading.Given as goal

-- what is asked of the members that are left gives what it gave at first
abbrev pub invariant-reading::node_end-loop-member : goal.invariant-reading::node_end-loop-member
invariant-reading::node_end-loop-member g l =
    let text = g.C.CountedLeaves.text l.source in
    let list = concordance text (form_of l.expr) in
    record {
      stands : Stands text (form_of l.expr) l.places;
      on : member_of (front_of l.places) ≡ Some l.member;
      answer : first_end (members_from list l.member.start) l.k ≡ first_end (left_to text (form_of l.expr) l.fn.places) l.k;
      within : l.member.end < address_end;
      counted : g.C.CountedLeaves.count l.fn.counter ≤ g.C.CountedLeaves.count l.counter;
      cost : g.C.CountedLeaves.count l.counter + cost_left text (g.C.CountedLeaves.most l.source) (form_of l.expr) l.places ≤ g.C.CountedLeaves.count l.fn.counter + cost_left text (g.C.CountedLeaves.most l.source) (form_of l.expr) l.fn.places;
    }

abbrev pub decreases-reading::node_end-loop-member : goal.decreases-reading::node_end-loop-member
decreases-reading::node_end-loop-member g l = address_end - l.member.start

abbrev pub invariant-reading::node_back-loop-next : goal.invariant-reading::node_back-loop-next
invariant-reading::node_back-loop-next g l =
    let text = g.C.CountedLeaves.text l.source in
    let list = concordance text (form_of l.expr) in
    record {
      stands : Stands text (form_of l.expr) l.places;
      on : member_of (front_of l.places) ≡ Some l.member;
      near : l.member.end ≤ l.k;
      answer : last_end (members_from list l.member.start) l.k ≡ last_end (left_to text (form_of l.expr) l.fn.places) l.k;
      within : l.member.end < address_end;
      counted : g.C.CountedLeaves.count l.fn.counter ≤ g.C.CountedLeaves.count l.counter;
      cost : g.C.CountedLeaves.count l.counter + cost_left text (g.C.CountedLeaves.most l.source) (form_of l.expr) l.places ≤ g.C.CountedLeaves.count l.fn.counter + cost_left text (g.C.CountedLeaves.most l.source) (form_of l.expr) l.fn.places;
    }

abbrev pub decreases-reading::node_back-loop-next : goal.decreases-reading::node_back-loop-next
decreases-reading::node_back-loop-next g l = address_end - l.member.start

-- the loop came to the member; the first operand's reader went no further, and the second one's answers as its whole list does
abbrev pub invariant-containments::containment_find-loop-next : goal.invariant-containments::containment_find-loop-next
invariant-containments::containment_find-loop-next g l =
    let text = g.C.CountedLeaves.text l.source in
    let members = concordance text (form_of l.first) in
    let others = concordance text (form_of l.second) in
    let node = concordance text (form_of l.expr) in
    record {
      first : Stands text (form_of l.first) l.first_places;
      second : Stands text (form_of l.second) l.second_places;
      at : start_at l.first_places ≤ l.member.start;
      tells : SecondAnswers l.containment others (start_at l.second_places) l.member;
      reached : IsAt Forward l.containment members node (first_start node l.k) l.member;
      within : l.member.end < address_end;
      counted : g.C.CountedLeaves.count l.fn.counter ≤ g.C.CountedLeaves.count l.counter;
      cost : g.C.CountedLeaves.count l.counter + (cost_left text (g.C.CountedLeaves.most l.source) (form_of l.first) l.first_places + cost_left text (g.C.CountedLeaves.most l.source) (form_of l.second) l.second_places)
          ≤ g.C.CountedLeaves.count l.fn.counter + (cost_below text (g.C.CountedLeaves.most l.source) (form_of l.expr) l.fn.places + member_cost text (g.C.CountedLeaves.most l.source) (form_of l.expr));
    }

abbrev pub decreases-containments::containment_find-loop-next : goal.decreases-containments::containment_find-loop-next
decreases-containments::containment_find-loop-next g l =
    let members = concordance (g.C.CountedLeaves.text l.source) (form_of l.first) in
    let others = concordance (g.C.CountedLeaves.text l.source) (form_of l.second) in
    min (length members) (length others) - turns Forward l.containment members others l.member

-- the number of nodes, and at one node the caller above those that it calls
abbrev pub decreases-reading::start : goal.decreases-reading::start
decreases-reading::start g l = 16 * nodes (form_of l.expr.now) + 11

abbrev pub decreases-reading::look : goal.decreases-reading::look
decreases-reading::look g l = 16 * nodes (form_of l.expr.now) + 10

abbrev pub decreases-reading::find : goal.decreases-reading::find
decreases-reading::find g l = 16 * nodes (form_of l.expr.now) + 9

abbrev pub decreases-reading::peek : goal.decreases-reading::peek
decreases-reading::peek g l = 16 * nodes (form_of l.expr.now) + 11

abbrev pub decreases-reading::node_end : goal.decreases-reading::node_end
decreases-reading::node_end g l = 16 * nodes (form_of l.expr.now) + 13

abbrev pub decreases-reading::onward : goal.decreases-reading::onward
decreases-reading::onward g l = 16 * nodes (form_of l.expr.now) + 12

abbrev pub decreases-chains::seq_onward : goal.decreases-chains::seq_onward
decreases-chains::seq_onward g l = 16 * nodes (form_of l.expr.now) + 11

abbrev pub decreases-reading::node_back : goal.decreases-reading::node_back
decreases-reading::node_back g l = 16 * nodes (form_of l.expr.now) + 12

abbrev pub decreases-reading::end : goal.decreases-reading::end
decreases-reading::end g l = 16 * nodes (form_of l.expr.now) + 14

abbrev pub decreases-reading::back : goal.decreases-reading::back
decreases-reading::back g l = 16 * nodes (form_of l.expr.now) + 13

abbrev pub decreases-containments::containment_find : goal.decreases-containments::containment_find
decreases-containments::containment_find g l = 16 * nodes (form_of l.expr.now) + 8

abbrev pub decreases-containments::ask : goal.decreases-containments::ask
decreases-containments::ask g l = 16 * nodes (form_of l.second.now) + 15

abbrev pub decreases-containments::go_on : goal.decreases-containments::go_on
decreases-containments::go_on g l = 16 * nodes (form_of l.first.now) + 15

abbrev pub decreases-chains::both_ends : goal.decreases-chains::both_ends
decreases-chains::both_ends g l = 16 * nodes_of (operand_forms l.operands.now) + 14

abbrev pub decreases-chains::both_starts : goal.decreases-chains::both_starts
decreases-chains::both_starts g l = 16 * nodes_of (operand_forms l.operands.now) + 14

abbrev pub decreases-chains::both_find : goal.decreases-chains::both_find
decreases-chains::both_find g l = 16 * nodes_of (operand_forms l.operands.now) + 15

abbrev pub decreases-chains::one_find : goal.decreases-chains::one_find
decreases-chains::one_find g l = 16 * nodes_of (operand_forms l.operands.now) + 15

abbrev pub decreases-chains::seq_find : goal.decreases-chains::seq_find
decreases-chains::seq_find g l = 16 * nodes_of (operand_forms l.operands.now) + 15
