use Rattle.std.proofs.Common.{length, ap, ◌∙◌}
use Rattle.gcl_model.specs.FormOf.{form_of}
use Rattle.text_search.proofs.ListLemmas.{count_cost}
use Rattle.text_search.proofs.NameLemmas.{list_of_file}
use Rattle.text_search.proofs.listing.count_on.Goals as goal

pub returns-clause-value : goal.returns-clause-value
returns-clause-value g c bytes is = c.count.ensures.value ∙ ap length (list_of_file bytes c.args.text.now (form_of c.args.expr.now) is)

pub returns-clause-cost : goal.returns-clause-cost
returns-clause-cost g c bytes is = count_cost bytes c.args.text.now (form_of c.args.expr.now) c.count.result c.args.steps.now c.count.new.steps is c.count.ensures.cost
