-- Bytes that only clauses read.
use Rattle.std.specs.Prelude.{ℕ, List, [], ◌∷◌, ◌++◌}
use Rattle.made_corpus.specs.declared.taken.Last.{Last}
use Rattle.made_corpus.specs.declared.taken.Last.TheVariants.{None, Byte}

-- those that were there before the last one, and that one
abbrev pub bytes_of : Last → List ℕ
bytes_of None = []
bytes_of (Byte before b) = before.value ++ b.value ∷ []
