use Rattle.query_search.proofs.query_pages.QueryPages.of.Goals as goal

pub by-requires-clause-at : goal.by-requires-clause-at
by-requires-clause-at c = c.in-Ok.ensures.at 0
