use Rattle.algebra_tests.proofs.readers.CountQuestion.ask.Goals as goal

pub read_count-requires-clause-stands : goal.read_count-requires-clause-stands
read_count-requires-clause-stands g c = c.in_ok-readers.ensures.stands c.args.self.now.text.now
