use Rattle.index_tests.proofs.fingers.between_unpacked_words_is_at_hand_where_nothing_is_dead.Given as goal

-- the version itself
abbrev pub ghosts-times_at_hand : goal.ghosts-times_at_hand
ghosts-times_at_hand g a = record { version = a.version.now }
