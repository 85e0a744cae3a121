use Rattle.std.proofs.Common.{◌≤◌, length, subst, rules}
use Rattle.gcl_model.specs.Limits.{address_end}
use Rattle.query_search.proofs.PageLemmas.{few_in_listing}
use Rattle.query_search.proofs.listing.Listing.is_bounded.Goals as goal

pub returns : goal.returns
returns c = subst (λ l. length l ≤ address_end) c.self.view_is (few_in_listing c.self.inside.found c.self.inside.rest c.self.inside.limit address_end (search rules))
