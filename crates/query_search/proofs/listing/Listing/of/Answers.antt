use Rattle.std.proofs.Common.{arith}
use Rattle.query_search.proofs.PageLemmas.{page_and_more}
use Rattle.query_search.proofs.listing.Listing.of.Goals as goal

pub returns : goal.returns
returns c =
    page_and_more c.args.most c.min-size.result c.args.search c.in_ok-found.found c.page.new.self (omega (arith, c.min-size.ensures)) c.in_ok-found.ensures.ok c.in_ok-found.ensures.rest
