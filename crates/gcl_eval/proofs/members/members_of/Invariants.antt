use Rattle.std.proofs.Common.{◌≡◌, ℕ, ◌+◌, ◌*◌, ◌<◌, ◌≤◌, ◌++◌, length}
use Rattle.gcl_model.specs.Limits.{far}
use Rattle.gcl_model.specs.FormOf.{form_of}
use Rattle.gcl_model.specs.Meaning.{concordance}
use Rattle.gcl_eval.specs.Costs.{near_cost}
use Rattle.gcl_eval.specs.KnownAnswers.{KnowsOperands}
use Rattle.gcl_eval.specs.Members.{members_from}
use Rattle.gcl_eval.proofs.members.members_of.Given as goal

-- those that were put into the list and those that are left are all members at or after the page's first address
abbrev pub invariant-loop-page : goal.invariant-loop-page
invariant-loop-page g l =
    let text = g.C.CountedLeaves.text l.source in
    let list = concordance text (form_of l.expr) in
    record {
      kept : l.members ++ members_from list l.from ≡ members_from list l.page.from;
      few : length l.members ≤ l.page.most;
      below : l.from < far;
      known : KnowsOperands text (form_of l.expr) l.known;
      counted : g.C.CountedLeaves.count l.fn.counter ≤ g.C.CountedLeaves.count l.counter;
      cost : g.C.CountedLeaves.count l.counter ≤ g.C.CountedLeaves.count l.fn.counter + length l.members * near_cost text (g.C.CountedLeaves.most l.source) (form_of l.expr);
      capped : (cap : ℕ) → g.C.CountedLeaves.Caps l.source cap → g.C.CountedLeaves.count l.fn.counter ≤ cap → g.C.CountedLeaves.count l.counter ≤ cap;
    }

abbrev pub decreases-loop-page : goal.decreases-loop-page
decreases-loop-page g l = length (members_from (concordance (g.C.CountedLeaves.text l.source) (form_of l.expr)) l.from)
