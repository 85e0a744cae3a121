use Rattle.shared_tests.proofs.flags.added.Given as goal

-- the engine that was just opened
abbrev pub ghosts-added_named : goal.ghosts-added_named
ghosts-added_named g a = record { publisher = a.opened.book.engine.publisher }
