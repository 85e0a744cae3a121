use Rattle.std.proofs.Common.{List, ap, ◌∙◌, arith}
use Rattle.gcl_model.specs.Extents.{Extent}
use Rattle.gcl_model.specs.FormOf.{form_of}
use Rattle.gcl_model.specs.Wide.{wide}
use Rattle.live_version.specs.Contents.{version_text}
use Rattle.collection.specs.Engines.{last_of}
use Rattle.standing_query.specs.Changes.{changes}
use Rattle.change_search.specs.inner.Sides.{to_come}
use Rattle.change_search.proofs.counted_listing.CountedListing.of.Goals as goal

pub returns-clause-to_come : goal.returns-clause-to_come
returns-clause-to_come g c =
    ap (λ (l : List Extent). changes l (to_come c.in_ok-after.after)) c.in_ok-before.ensures.members
    ∙ ap (λ (l : List Extent). changes (wide (version_text (last_of c.args.before.history)) (form_of c.args.expr.now)) l) c.in_ok-after.ensures.members

pub returns-clause-cost : goal.returns-clause-cost
returns-clause-cost g c = omega (arith, c.in_ok-before.ensures.cost, c.in_ok-after.ensures.cost)
