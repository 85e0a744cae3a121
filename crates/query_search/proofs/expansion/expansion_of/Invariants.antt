use Rattle.query_search.proofs.expansion.expansion_of.Given as goal

-- the counter is the one that the call makes
abbrev pub ghosts-expand_uncounted : goal.ghosts-expand_uncounted
ghosts-expand_uncounted a = record { name = a.blank.name; parts = a.blank.parts }
