use Rattle.reader_pass.proofs.cursors.pass_number.Given as goal

-- the version of the pass
abbrev pub ghosts-number_of : goal.ghosts-number_of
ghosts-number_of g a = record { version = a.version.now }
