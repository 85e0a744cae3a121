use Rattle.change_search.proofs.change_listing.ChangeListing.of.Given as goal

-- the counter is the one that the call makes
abbrev pub ghosts-listing_of : goal.ghosts-listing_of
ghosts-listing_of a = record { name = a.blank.name; parts = a.blank.parts }
