use Rattle.index_tests.proofs.fingers.a_pair_is_believed_where_nothing_is_dead.Given as goal

-- the version itself
abbrev pub ghosts-ask_unpacked : goal.ghosts-ask_unpacked
ghosts-ask_unpacked g a = record { version = a.version.now }
