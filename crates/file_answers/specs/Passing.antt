-- For proofs only: passages within a file, each no earlier than the previous one.
use Rattle.std.specs.Prelude.{ℕ, ◌≤◌, List, [], ◌∷◌}
use Rattle.passages.specs.Order.{BeginFrom}
use Rattle.passages.specs.declared.passage.Passage.{Passage}

-- the passages lie within `size` bytes, and none begins before the previous one
abbrev pub ArePassages : ℕ → List Passage → Type 0
ArePassages size [] = Unit {0}
ArePassages size (p ∷ ps) = (p.from ≤ p.to) × (p.to ≤ size) × BeginFrom p.from ps × ArePassages size ps
