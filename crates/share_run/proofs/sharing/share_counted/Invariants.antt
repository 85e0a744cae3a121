use Rattle.share_run.proofs.sharing.share_counted.Given as goal

-- the engine that was just opened
abbrev pub ghosts-share_named : goal.ghosts-share_named
ghosts-share_named g a = record { publisher = a.opened.book.engine.publisher }
