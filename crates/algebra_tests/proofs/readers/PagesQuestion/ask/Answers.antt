use Rattle.std.proofs.Common.{arith}
use Rattle.algebra_tests.proofs.readers.PagesQuestion.ask.Goals as goal

pub loop-page-init : goal.loop-page-init
loop-page-init g c =
    let whole = c.in_ok-readers.ensures.cost c.args.self.now.text.now 1 in
    record { stands = c.in_ok-readers.ensures.stands c.args.self.now.text.now; below = omega arith; cost = omega arith }
