use Rattle.gcl_model.specs.FormOf.{form_of}
use Rattle.text_search.proofs.ListLemmas.{page_of_file, page_cost}
use Rattle.text_search.proofs.listing.answers_on.Goals as goal

pub returns-clause-ok : goal.returns-clause-ok
returns-clause-ok g c bytes is = page_of_file bytes c.args.text.now (form_of c.args.expr.now) c.args.k c.args.most c.list_from.result is c.list_from.ensures.ok

pub returns-clause-cost : goal.returns-clause-cost
returns-clause-cost g c bytes is = page_cost bytes c.args.text.now (form_of c.args.expr.now) c.args.k c.args.most c.args.steps.now c.list_from.new.steps is c.list_from.ensures.cost
