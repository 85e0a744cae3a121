use Rattle.index_tests.proofs.publications.beside.Given as goal

abbrev pub ghosts-write_and_read : goal.ghosts-write_and_read
ghosts-write_and_read g a = record { publisher = a.publisher.now.publisher }
