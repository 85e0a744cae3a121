-- Lines, worked out. 9 is a tab, 10 a newline and 13 a carriage return.
use Rattle.std.proofs.Common.{◌≡◌, ℕ, true, false, List, [], ◌∷◌, ◌++◌, refl, codes}
use Rattle.script_lang.specs.Lines.{Line, lines, text_of_lines, ended}

short : List ℕ → Line
short bytes = record { long = false; bytes = bytes }

long : Line
long = record { long = true; bytes = [] }

-- no bytes have no line
of_nothing : lines 5 [] ≡ []
of_nothing = refl

-- an empty line counts, and so does what comes after the last newline
of_three : lines 5 (codes "a" ++ 10 ∷ 10 ∷ codes "b") ≡ short (codes "a") ∷ short [] ∷ short (codes "b") ∷ []
unfolding short
of_three = refl

-- a newline at the end begins no further line
of_one : lines 5 (codes "a" ++ 10 ∷ []) ≡ short (codes "a") ∷ []
unfolding short
of_one = refl

-- one carriage return is dropped, and then spaces and tabs at both ends, but not those within
of_blanks : lines 9 (9 ∷ codes " a b" ++ 9 ∷ codes " " ++ 13 ∷ 10 ∷ []) ≡ short (codes "a b") ∷ []
unfolding short
of_blanks = refl

of_two_returns : lines 9 (codes "a" ++ 13 ∷ 13 ∷ 10 ∷ []) ≡ short (codes "a" ++ 13 ∷ []) ∷ []
unfolding short
of_two_returns = refl

-- a return before a blank at the end stays
of_return_and_blank : lines 9 (codes "a" ++ 13 ∷ codes " " ++ 10 ∷ []) ≡ short (codes "a" ++ 13 ∷ []) ∷ []
unfolding short
of_return_and_blank = refl

-- of lines of at most two bytes "ab" is none that is long, and "abc" is long, blanks and returns counted
of_most : lines 2 (codes "ab" ++ 10 ∷ codes "abc" ++ 10 ∷ codes "a" ++ 13 ∷ 10 ∷ codes "ab" ++ 13 ∷ 10 ∷ []) ≡ short (codes "ab") ∷ long ∷ short (codes "a") ∷ long ∷ []
unfolding short long
of_most = refl

-- each line is written with its newline, an empty one too
text-of_two : text_of_lines (codes "ab" ∷ [] ∷ []) ≡ codes "ab" ++ 10 ∷ 10 ∷ []
text-of_two = refl

-- what comes after the last newline is in no whole line
ended-with_a_rest : ended (codes "a" ++ 10 ∷ codes "b") ≡ codes "a" ++ 10 ∷ []
ended-with_a_rest = refl

-- the newline at the end belongs to the last line, and one that nothing comes before is a line
ended-at_the_end : ended (codes "ab" ++ 10 ∷ 10 ∷ []) ≡ codes "ab" ++ 10 ∷ 10 ∷ []
ended-at_the_end = refl

-- without a newline there is no whole line
ended-nowhere : ended (codes "ab" ++ 13 ∷ []) ≡ []
ended-nowhere = refl
