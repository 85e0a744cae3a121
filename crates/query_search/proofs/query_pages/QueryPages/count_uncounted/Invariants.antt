use Rattle.query_search.proofs.query_pages.QueryPages.count_uncounted.Given as goal

-- the counter is the one that the call makes
abbrev pub ghosts-number_left : goal.ghosts-number_left
ghosts-number_left a = record { name = a.blank.name; parts = a.blank.parts }
