-- What is reported of a made run.
use Rattle.std.specs.Prelude.{ℕ, ◌==◌, List, [], ◌∷◌, ◌++◌, length, codes, decimal, sum}
use Rattle.std.specs.List.{filter, slice_split}
use Rattle.gcl_model.specs.Tokens.{starts_with_byte}
use Rattle.script_lang.specs.Lines.{text_of_lines}
use Rattle.made_corpus.specs.MadeLines.{made_lines}

-- how many lines of a text begin with an exclamation mark: of "! command" and "= 2" it is one
abbrev pub refusals : List ℕ → ℕ
refusals text = length (filter (starts_with_byte 33) (slice_split (λ b. b == 10) text))

-- the number that the files are made from, how many files, how many lines the script has, and of the text of its answers how many lines are
-- refusals, how many bytes it has, and their sum
abbrev pub summary : ℕ → ℕ → List ℕ → List ℕ
summary start count text = text_of_lines (
    (codes "made " ++ decimal start ++ codes " " ++ decimal count) ∷
    (codes "lines " ++ decimal (length (made_lines start count))) ∷
    (codes "refused " ++ decimal (refusals text)) ∷
    (codes "bytes " ++ decimal (length text)) ∷
    (codes "sum " ++ decimal (sum text)) ∷ [])
