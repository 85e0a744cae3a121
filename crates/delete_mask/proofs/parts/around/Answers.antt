use Rattle.std.proofs.Common.{arith}
use Rattle.delete_mask.proofs.parts.around.Goals as goal

pub returns-then-at-upto-clause-within : goal.returns-then-at-upto-clause-within
returns-then-at-upto-clause-within c = omega (arith, c.count_before-at.ensures.within, c.count_begun.ensures.within, c.max-upto.ensures)

pub returns-then-at-gt0-clause-within : goal.returns-then-at-gt0-clause-within
returns-then-at-gt0-clause-within c = omega (arith, c.count_before-at.ensures.within, c.count_begun.ensures.within, c.max-upto.ensures)
