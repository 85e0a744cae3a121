use Rattle.algebra_tests.proofs.cursors.finds.Given as goal

-- the counters are those that the calls make
abbrev pub ghosts-page_by : goal.ghosts-page_by
ghosts-page_by g a = record { name = a.blank.name; parts = a.blank.parts }

abbrev pub ghosts-count_by : goal.ghosts-count_by
ghosts-count_by g a = record { name = a.blank.name; parts = a.blank.parts }
