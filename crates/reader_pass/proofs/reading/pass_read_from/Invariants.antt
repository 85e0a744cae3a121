use Rattle.reader_pass.proofs.reading.pass_read_from.Given as goal

-- the version of the pass
abbrev pub ghosts-read_from : goal.ghosts-read_from
ghosts-read_from g a = record { version = a.version.now }
