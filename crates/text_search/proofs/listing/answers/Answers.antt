use Rattle.gcl_model.specs.FormOf.{form_of}
use Rattle.text_search.proofs.ListLemmas.{page_of_file}
use Rattle.text_search.proofs.listing.answers.Goals as goal

pub returns : goal.returns
returns c bytes is = page_of_file bytes c.args.text.now (form_of c.args.expr.now) c.args.k c.args.most c.uncounted.result is c.uncounted.ensures
