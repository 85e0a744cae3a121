use Rattle.std.proofs.Common.{length, ap, ◌∙◌}
use Rattle.gcl_model.specs.FormOf.{form_of}
use Rattle.text_search.proofs.NameLemmas.{list_of_file}
use Rattle.text_search.proofs.listing.answer_count.Goals as goal

pub returns : goal.returns
returns c bytes is = c.uncounted.ensures ∙ ap length (list_of_file bytes c.args.text.now (form_of c.args.expr.now) is)
