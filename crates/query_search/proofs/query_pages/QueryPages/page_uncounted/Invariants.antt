use Rattle.query_search.proofs.query_pages.QueryPages.page_uncounted.Given as goal

-- the counter is the one that the call makes
abbrev pub ghosts-next_page : goal.ghosts-next_page
ghosts-next_page a = record { name = a.blank.name; parts = a.blank.parts }
