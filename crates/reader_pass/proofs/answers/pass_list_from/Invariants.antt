use Rattle.reader_pass.proofs.answers.pass_list_from.Given as goal

-- the version of the pass
abbrev pub ghosts-list_from : goal.ghosts-list_from
ghosts-list_from g a = record { version = a.version.now }
