-- The lines of a summary, one after the other.
use Rattle.std.proofs.Common.{◌≡◌, ℕ, List, [], ◌∷◌, ◌++◌, length, append_assoc, codes}
use Rattle.std.specs.Prelude.{decimal, sum}
use Rattle.std.proofs.lemmas.List.{append-nil}
use Rattle.made_corpus.specs.MadeLines.{made_lines}
use Rattle.made_corpus.specs.Summary.{refusals, summary}
use Rattle.made_corpus.specs.Counted.{AreCountsOf}
use Rattle.made_corpus.specs.declared.counts.Counts.{Counts}

summary_text : (out made s blank c lines l refused r bytes b sum m end : List ℕ) →
    out ++ made ++ s ++ blank ++ [] ++ c ++ end ++ lines ++ l ++ end ++ refused ++ r ++ end ++ bytes ++ b ++ end ++ sum ++ m ++ end ≡
    out ++ ((made ++ s ++ blank ++ c ++ end) ++ ((lines ++ l ++ end) ++ ((refused ++ r ++ end) ++ ((bytes ++ b ++ end) ++ ((sum ++ m ++ end) ++ [])))))
summary_text out made s blank c lines l refused r bytes b sum m end = simp (append_assoc, append-nil)

-- what is written line by line is the summary
pub summary-put : (start count lines : ℕ) (counts : Counts) (text out out_1 out_2 out_3 out_4 out_5 out_6 out_7 out_8 : List ℕ) →
    out_1 ≡ out ++ codes "made " → out_2 ≡ out_1 ++ decimal start → out_3 ≡ out_2 ++ codes " " → out_4 ≡ out_3 ++ [] ++ decimal count ++ 10 ∷ [] →
    out_5 ≡ out_4 ++ codes "lines " ++ decimal lines ++ 10 ∷ [] → out_6 ≡ out_5 ++ codes "refused " ++ decimal counts.refused ++ 10 ∷ [] →
    out_7 ≡ out_6 ++ codes "bytes " ++ decimal counts.bytes ++ 10 ∷ [] → out_8 ≡ out_7 ++ codes "sum " ++ decimal counts.sum ++ 10 ∷ [] →
    lines ≡ length (made_lines start count) → AreCountsOf counts text → out_8 ≡ out ++ summary start count text
summary-put start count lines counts text out out_1 out_2 out_3 out_4 out_5 out_6 out_7 out_8 e_1 e_2 e_3 e_4 e_5 e_6 e_7 e_8 number are =
    rw (e_8, e_7, e_6, e_5, e_4, e_3, e_2, e_1, are.refused, are.bytes, are.sum, number)
    (summary_text out (codes "made ") (decimal start) (codes " ") (decimal count) (codes "lines ") (decimal (length (made_lines start count))) (codes "refused ") (decimal (refusals text))
    (codes "bytes ") (decimal (length text)) (codes "sum ") (decimal (sum text)) (10 ∷ []))
