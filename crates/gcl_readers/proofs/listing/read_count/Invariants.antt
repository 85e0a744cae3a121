use Rattle.std.proofs.Common.{◌≡◌, ◌+◌, ◌<◌, ◌≤◌, length}
use Rattle.gcl_model.specs.Limits.{far}
use Rattle.gcl_model.specs.Access.{first_start}
use Rattle.gcl_model.specs.FormOf.{form_of}
use Rattle.gcl_eval.specs.Members.{members_from}
use Rattle.gcl_readers.specs.Standing.{Stands, left_to}
use Rattle.gcl_readers.specs.MergeCost.{cost_left}
use Rattle.gcl_readers.proofs.listing.read_count.Given as goal

-- those that were met and those that are left are all that start at or after k
abbrev pub invariant-loop-member : goal.invariant-loop-member
invariant-loop-member g l =
    let text = g.L.Leaves.text l.leaves in
    let list = left_to text (form_of l.expr) l.fn.readers in
    record {
      stands : Stands text (form_of l.expr) l.readers;
      kept : l.members + length (members_from list l.from) ≡ length (members_from list l.k);
      few : l.members ≤ l.from;
      below : l.from < far;
      agree : first_start (left_to text (form_of l.expr) l.readers) l.from ≡ first_start list l.from;
      counted : l.fn.steps ≤ l.steps;
      cost : l.steps + cost_left text (g.L.Leaves.most l.leaves) (form_of l.expr) l.readers ≤ l.fn.steps + cost_left text (g.L.Leaves.most l.leaves) (form_of l.expr) l.fn.readers;
    }

abbrev pub decreases-loop-member : goal.decreases-loop-member
decreases-loop-member g l = length (members_from (left_to (g.L.Leaves.text l.leaves) (form_of l.expr) l.fn.readers) l.from)
