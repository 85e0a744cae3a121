use Rattle.algebra_tests.proofs.cursors.a_search_that_may_leap_twice_is_read_to_its_end.Given as goal

-- the counter is the one that the call makes
abbrev pub ghosts-page_by : goal.ghosts-page_by
ghosts-page_by g a = record { name = a.blank.name; parts = a.blank.parts }
