use Rattle.shared_tests.proofs.settling.settled_counted.Given as goal

-- the engine that was just opened
abbrev pub ghosts-settled_named : goal.ghosts-settled_named
ghosts-settled_named g a = record { publisher = a.opened.book.engine.publisher }
