use Rattle.index_tests.proofs.call_scripts.looks_up.Given as goal

-- the counter of the look-ups is the one that is made for them
abbrev pub ghosts-finds_all : goal.ghosts-finds_all
ghosts-finds_all a = record { name = a.blank.name; parts = a.blank.parts }
