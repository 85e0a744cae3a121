-- For proofs alone: what is counted of a text, byte by byte.
use Rattle.std.specs.Prelude.{◌≡◌, ℕ, ◌+◌, ◌==◌, ◌&&◌, Bool, true, List, [], ◌∷◌, length, sum, if◌then◌else◌}
use Rattle.made_corpus.specs.Summary.{refusals}
use Rattle.made_corpus.specs.declared.counts.Counts.{Counts}

-- 1 if a line begins with this byte and it is an exclamation mark
abbrev pub marks : Bool → ℕ → ℕ
marks begins b = if begins && b == 33 then 1 else 0

-- the numbers once one more byte was counted
abbrev pub counts_with : Counts → ℕ → Counts
counts_with counts b = record {
  refused = counts.refused + marks counts.begins b;
  bytes = counts.bytes + 1;
  sum = counts.sum + b;
  begins = b == 10;
}

-- the numbers once one more piece was counted, from its front
abbrev pub counts_with_all : Counts → List ℕ → Counts
counts_with_all counts [] = counts
counts_with_all counts (b ∷ rest) = counts_with_all (counts_with counts b) rest

-- whether a byte after the text begins a line, given whether a byte before the text would
abbrev pub begins_behind : Bool → List ℕ → Bool
begins_behind begins [] = begins
begins_behind begins (b ∷ rest) = begins_behind (b == 10) rest

-- the numbers are those of the text
pub record AreCountsOf (counts : Counts) (text : List ℕ) : Type 0 where
  pub refused : counts.refused ≡ refusals text
  pub bytes : counts.bytes ≡ length text
  pub sum : counts.sum ≡ sum text
  pub begins : counts.begins ≡ begins_behind true text
