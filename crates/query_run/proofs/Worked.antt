-- What is within a limit, and what the words ask for, worked out.
use Rattle.std.proofs.Common.{◌≡◌, [], ◌∷◌, ◌++◌, refl, codes, Some, None}
use Rattle.query_run.specs.Runs.{within}
use Rattle.query_run.specs.Words.{first_of}

-- of a script of more than five bytes the lines that end within these
within-five : within 5 (codes "ab" ++ 10 ∷ codes "cdef") ≡ codes "ab" ++ 10 ∷ []
within-five = refl

words-none : first_of [] ≡ Some 0
words-none = refl

words-two : first_of (codes "--first" ∷ codes "007" ∷ []) ≡ Some 7
words-two = refl

words-greatest : first_of (codes "--first=72057594037927936" ∷ []) ≡ Some 72057594037927936
words-greatest = refl

words-too_great : first_of (codes "--first=72057594037927937" ∷ []) ≡ None
words-too_great = refl
