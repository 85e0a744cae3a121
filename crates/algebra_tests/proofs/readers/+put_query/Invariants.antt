use Rattle.algebra_tests.proofs.readers.+put_query.Given as goal

abbrev pub decreases-put_query : goal.decreases-put_query
decreases-put_query l = l.depth
