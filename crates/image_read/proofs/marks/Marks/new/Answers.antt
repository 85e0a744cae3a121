use Rattle.std.proofs.Common.{arith, ap, ◌∙◌}
use Rattle.image_read.specs.Bits.{bits_of}
use Rattle.image_read.proofs.MarkLemmas.{bits-zeros}
use Rattle.image_read.proofs.marks.Marks.new.Goals as goal

pub returns : goal.returns
returns c = ap (λ l. bits_of l c.args.count) (c.in_ok-vec.ensures.items_if_clones_equal (λ y h. h)) ∙ bits-zeros c.div_ceil.result c.args.count (omega (arith, c.div_ceil.ensures))
