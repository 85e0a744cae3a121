use Rattle.index_tests.proofs.fingers.of_two_unpacked_blocks_the_next_pair_is_told.Given as goal

-- the version itself
abbrev pub ghosts-ask_unpacked : goal.ghosts-ask_unpacked
ghosts-ask_unpacked g a = record { version = a.version.now }
