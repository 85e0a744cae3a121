use Rattle.std.proofs.Common.{ap, ◌∙◌}
use Rattle.gcl_model.specs.FormOf.{form_of}
use Rattle.gcl_model.specs.Meaning.{concordance}
use Rattle.gcl_eval.proofs.Listing.{all_members}
use Rattle.live_version.specs.Contents.{version_text}
use Rattle.collection.specs.Engines.{last_of}
use Rattle.query_search.specs.Pages.{PagesContent}
use Rattle.near_search.proofs.near_pages.NearPages.whole.Goals as goal

pub returns-clause-members : goal.returns-clause-members
returns-clause-members c = ap (λ (p : PagesContent). p.to_come) c.from.ensures.members ∙ all_members (concordance (version_text (last_of c.args.pass.history)) (form_of c.args.expr.value))
