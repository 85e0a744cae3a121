use Rattle.std.proofs.Common.{◌≡◌, ℕ, ◌+◌, ◌*◌, ◌≤◌, length}
use Rattle.gcl_model.specs.Limits.{address_end}
use Rattle.gcl_model.specs.FormOf.{form_of}
use Rattle.gcl_model.specs.Meaning.{concordance}
use Rattle.gcl_eval.specs.Costs.{near_cost}
use Rattle.gcl_eval.specs.KnownAnswers.{KnowsOperands}
use Rattle.gcl_eval.specs.Members.{members_from}
use Rattle.gcl_eval.proofs.members.number_of_members.Given as goal

-- those that were met and those that are left are all members
abbrev pub invariant-loop-member : goal.invariant-loop-member
invariant-loop-member g l =
    let text = g.C.CountedLeaves.text l.source in
    let list = concordance text (form_of l.expr) in
    record {
      kept : l.members + length (members_from list l.from) ≡ length list;
      few : l.members ≤ l.from;
      below : l.from ≤ address_end;
      known : KnowsOperands text (form_of l.expr) l.known;
      counted : g.C.CountedLeaves.count l.fn.counter ≤ g.C.CountedLeaves.count l.counter;
      cost : g.C.CountedLeaves.count l.counter ≤ g.C.CountedLeaves.count l.fn.counter + l.members * near_cost text (g.C.CountedLeaves.most l.source) (form_of l.expr);
      capped : (cap : ℕ) → g.C.CountedLeaves.Caps l.source cap → g.C.CountedLeaves.count l.fn.counter ≤ cap → g.C.CountedLeaves.count l.counter ≤ cap;
    }

abbrev pub decreases-loop-member : goal.decreases-loop-member
decreases-loop-member g l = length (members_from (concordance (g.C.CountedLeaves.text l.source) (form_of l.expr)) l.from)
