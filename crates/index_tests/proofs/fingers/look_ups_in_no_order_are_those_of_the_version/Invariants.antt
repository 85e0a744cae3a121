use Rattle.index_tests.proofs.fingers.look_ups_in_no_order_are_those_of_the_version.Given as goal

-- the version itself
abbrev pub ghosts-ask_both : goal.ghosts-ask_both
ghosts-ask_both g a = record { version = a.version.now }
