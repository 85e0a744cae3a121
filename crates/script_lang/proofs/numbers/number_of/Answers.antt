use Rattle.std.proofs.Common.{◌<◌, ◌^◌, arith}
use Rattle.script_lang.proofs.NumberLemmas.{number_before}
use Rattle.script_lang.proofs.numbers.number_of.Goals as goal

pub overflow_mul-number : goal.overflow_mul-number
overflow_mul-number c = let small : c.loop-b.number < 10 ^ 17 = number_before c.loop-b.number c.loop-b.b-index c.loop-b.invariant.small (omega arith) in omega arith

pub overflow_add-number : goal.overflow_add-number
overflow_add-number c = let small : c.loop-b.number < 10 ^ 17 = number_before c.loop-b.number c.loop-b.b-index c.loop-b.invariant.small (omega arith) in omega arith
