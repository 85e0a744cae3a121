-- The accesses of "both of" and of "one of", from those of their operands.
use Rattle.std.specs.Prelude.{◌≡◌, ◌≤◌, ℕ, None}
use Rattle.gcl_model.specs.Texts.{Text}
use Rattle.gcl_model.specs.Forms.{Forms, both, one, forms_count}
use Rattle.gcl_model.specs.Meaning.{concordance, operands}
use Rattle.gcl_model.specs.Access.{first_start, last_end}
use Rattle.gcl_model.specs.Rules.{first_by, last_by}
use Rattle.gcl_combine.specs.Farthest.{greatest_end, least_start}
use Rattle.gcl_combine.specs.Better.{best_forward, best_backward}

-- forward to the greatest end among the operands' first members at or after k, and back from there to the least start:
-- if these are (1, 1) and (4, 4) at or after 0, and (3, 3) and (4, 4) up to 4, it is (3, 4)
abbrev pub BothGoesForward : Type 0
BothGoesForward = (text : Text) (forms : Forms) → 1 ≤ forms_count forms → (k : ℕ) →
    first_start (concordance text (both forms)) k ≡ first_by (greatest_end (operands text forms)) (least_start (operands text forms)) k

-- back to the least start among the operands' last members up to k, and forward from there to the greatest end:
-- if these are (3, 3) and (8, 8) up to 9, and (3, 3) and (4, 4) at or after 3, it is (3, 4)
abbrev pub BothGoesBackward : Type 0
BothGoesBackward = (text : Text) (forms : Forms) → 1 ≤ forms_count forms → (k : ℕ) →
    last_end (concordance text (both forms)) k ≡ last_by (greatest_end (operands text forms)) (least_start (operands text forms)) k

-- the nearest of the operands' first members: of (2, 5) and (3, 4) it is (3, 4)
abbrev pub OneGoesForward : Type 0
OneGoesForward = (text : Text) (forms : Forms) (k : ℕ) → first_start (concordance text (one forms)) k ≡ best_forward (operands text forms) k None

-- the nearest of the operands' last members: of (2, 5) and (3, 4) it is (3, 4)
abbrev pub OneGoesBackward : Type 0
OneGoesBackward = (text : Text) (forms : Forms) (k : ℕ) → last_end (concordance text (one forms)) k ≡ best_backward (operands text forms) k None
