use Rattle.index_tests.proofs.fingers.no_pair_is_passed_over.Given as goal

-- the version itself
abbrev pub ghosts-ask_aside : goal.ghosts-ask_aside
ghosts-ask_aside g a = record { version = a.version.now }
