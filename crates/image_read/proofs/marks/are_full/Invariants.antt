use Rattle.std.proofs.Common.{◌≡◌, ℕ, ◌*◌, ◌<◌, true}
use Rattle.image_read.specs.Bits.{bit_of}
use Rattle.image_read.proofs.marks.are_full.Given as goal

-- each bit of the words so far is set
abbrev pub invariant-loop-word : goal.invariant-loop-word
invariant-loop-word l = (k : ℕ) → k < 64 * l.word-index → bit_of l.words k ≡ true
