use Rattle.std.proofs.Common.{◌≡◌, ◌+◌, ◌<◌, ◌≤◌, ◌++◌, length}
use Rattle.gcl_model.specs.Limits.{far}
use Rattle.gcl_model.specs.Access.{first_start}
use Rattle.gcl_model.specs.FormOf.{form_of}
use Rattle.gcl_eval.specs.Members.{members_from}
use Rattle.gcl_readers.specs.Standing.{Stands, left_to, start_at}
use Rattle.gcl_readers.specs.Reading.{behind_page}
use Rattle.gcl_readers.specs.MergeCost.{cost_left}
use Rattle.gcl_readers.proofs.listing.read_list_from.Given as goal

-- those that were put into the page and those that are left after them are all that start at or after k
abbrev pub invariant-loop-readers : goal.invariant-loop-readers
invariant-loop-readers g l =
    let text = g.L.Leaves.text l.leaves in
    let list = left_to text (form_of l.expr) l.fn.readers in
    record {
      stands : Stands text (form_of l.expr) l.readers;
      kept : l.members ++ members_from list l.from ≡ members_from list l.k;
      few : length l.members ≤ l.most;
      below : l.from < far;
      agree : first_start (left_to text (form_of l.expr) l.readers) l.from ≡ first_start list l.from;
      left : start_at l.fn.readers ≤ l.k → start_at l.readers ≤ l.from;
      from : l.from ≡ behind_page l.k l.members;
      counted : l.fn.steps ≤ l.steps;
      cost : l.steps + cost_left text (g.L.Leaves.most l.leaves) (form_of l.expr) l.readers ≤ l.fn.steps + cost_left text (g.L.Leaves.most l.leaves) (form_of l.expr) l.fn.readers;
    }

abbrev pub decreases-loop-readers : goal.decreases-loop-readers
decreases-loop-readers g l = length (members_from (left_to (g.L.Leaves.text l.leaves) (form_of l.expr) l.fn.readers) l.from)
