use Rattle.change_search.proofs.change_listing.ChangeListing.between.Given as goal

-- the counter is the one that the call makes
abbrev pub ghosts-listing_between : goal.ghosts-listing_between
ghosts-listing_between a = record { name = a.blank.name; parts = a.blank.parts }
