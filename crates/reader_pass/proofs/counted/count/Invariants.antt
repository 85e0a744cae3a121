use Rattle.reader_pass.proofs.counted.count.Given as goal

-- the version itself
abbrev pub ghosts-count : goal.ghosts-count
ghosts-count g a = record { version = a.version.now }
