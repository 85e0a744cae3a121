use Rattle.reader_pass.proofs.cursors.pass_page.Given as goal

-- the version of the pass
abbrev pub ghosts-page_of : goal.ghosts-page_of
ghosts-page_of g a = record { version = a.version.now }
