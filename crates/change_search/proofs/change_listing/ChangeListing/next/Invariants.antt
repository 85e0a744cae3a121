use Rattle.change_search.proofs.change_listing.ChangeListing.next.Given as goal

-- the counter is the one that the call makes
abbrev pub ghosts-change_of : goal.ghosts-change_of
ghosts-change_of a = record { name = a.blank.name; parts = a.blank.parts }
