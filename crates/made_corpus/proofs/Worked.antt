-- A made corpus, worked out.
use Rattle.std.proofs.Common.{◌≡◌, [], ◌∷◌, ◌++◌, refl, codes, Some, None}
use Rattle.std.specs.Fmt.{digits}
use Rattle.made_corpus.specs.Draws.{next_state, draw}
use Rattle.made_corpus.specs.MadeFiles.{name_of, file_named, content, made_files, kept_over}
use Rattle.made_corpus.specs.MadeLines.{made_lines}
use Rattle.made_corpus.specs.Summary.{refusals, summary}

state-first : next_state 0 ≡ 1442695040888963407
state-first = refl

draw-first : draw 0 100 ≡ 7
draw-first = refl

name-of_7 : name_of 7 ≡ codes "m7"
unfolding digits
name-of_7 = refl

named-last : file_named 8 (codes "m7") ≡ Some 7
unfolding digits
named-last = refl

-- a zero in front, and the number of the count, are names of no file
named-zero : file_named 8 (codes "m07") ≡ None
unfolding digits
named-zero = refl

named-count : file_named 8 (codes "m8") ≡ None
unfolding digits
named-count = refl

content-none : made_files 0 8 (codes "m07") ≡ Some []
unfolding digits
content-none = refl

-- what was kept under the name of a file takes the place of its content, and no other name changes
content-kept : kept_over ((codes "m0", codes "to be") ∷ []) (made_files 0 8) (codes "m0") ≡ Some (codes "to be")
content-kept = refl

content-apart : kept_over ((codes "m0", codes "to be") ∷ []) (made_files 0 8) (codes "m07") ≡ Some []
unfolding digits
content-apart = refl

content-first : content 0 0 ≡ codes "w592 w164 w266 <s> w160 w110 w93 w133 w39 w11 w272 w306 w456 w64 w119 w224 w144 w205 w525 w448 w792 w30 w228 w748 w308 </s> w0"
unfolding digits
content-first = refl

lines-two : made_lines 2 2 ≡ (codes "add m0") ∷ (codes "del 0") ∷ (codes "find \"w32\"..\"w12\"") ∷ (codes "count (\"<s>\"..\"</s>\") > \"w19\"") ∷ (codes "top 5 (\"w43\"^\"w42\") < [20]") ∷ (codes "add m1") ∷ (codes "merge") ∷ (codes "find \"w27\"..\"w16\"") ∷ (codes "count (\"<s>\"..\"</s>\") > \"w35\"") ∷ (codes "top 5 (\"w42\"^\"w44\") < [20]") ∷ []
unfolding digits
lines-two = refl

lines-none : made_lines 7 0 ≡ []
lines-none = refl

refusals-one : refusals (codes "! command" ++ 10 ∷ codes "= 2" ++ 10 ∷ codes "x!" ++ 10 ∷ []) ≡ 1
refusals-one = refl

summary-of_nothing : summary 7 0 [] ≡ codes "made 7 0" ++ 10 ∷ codes "lines 0" ++ 10 ∷ codes "refused 0" ++ 10 ∷ codes "bytes 0" ++ 10 ∷ codes "sum 0" ++ 10 ∷ []
unfolding digits
summary-of_nothing = refl

summary-of_one : summary 7 0 (codes "! a" ++ 10 ∷ []) ≡ codes "made 7 0" ++ 10 ∷ codes "lines 0" ++ 10 ∷ codes "refused 1" ++ 10 ∷ codes "bytes 4" ++ 10 ∷ codes "sum 172" ++ 10 ∷ []
unfolding digits
summary-of_one = refl
