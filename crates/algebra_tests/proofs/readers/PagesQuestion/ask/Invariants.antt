use Rattle.std.proofs.Common.{◌+◌, ◌<◌, ◌≤◌}
use Rattle.gcl_model.specs.Limits.{far}
use Rattle.gcl_model.specs.FormOf.{form_of}
use Rattle.gcl_readers.specs.Standing.{Stands}
use Rattle.gcl_readers.specs.MergeCost.{merge_cost, cost_left}
use Rattle.algebra_tests.proofs.readers.PagesQuestion.ask.Given as goal

-- all pages so far and what is left are within the whole cost
abbrev pub invariant-loop-page : goal.invariant-loop-page
invariant-loop-page g l =
    record {
      stands : Stands l.self.text.now (form_of l.self.expr.now) l.readers;
      below : l.k < far;
      cost : l.steps + cost_left l.self.text.now 1 (form_of l.self.expr.now) l.readers ≤ l.fn.steps + merge_cost l.self.text.now 1 (form_of l.self.expr.now);
    }
