use Rattle.std.proofs.Common.{◌∙◌, length, ap, zero-add}
use Rattle.gcl_model.specs.FormOf.{form_of}
use Rattle.gcl_model.specs.Meaning.{concordance}
use Rattle.gcl_eval.proofs.Listing.{all_members}
use Rattle.algebra_tests.proofs.cursors.count_by.Goals as goal

pub count-requires-clause-given : goal.count-requires-clause-given
count-requires-clause-given g c =
    zero-add _ ∙ ap length (all_members (concordance c.args.asked.now.text.now (form_of c.args.asked.now.expr.now)))

pub count-requires-clause-at : goal.count-requires-clause-at
count-requires-clause-at g c = c.in_ok-cursor.ensures.at c.args.asked.now.text.now 0
