-- What is counted of a text, byte by byte.
use Rattle.std.proofs.Common.{◌≡◌, ℕ, ◌+◌, ◌==◌, Bool, true, false, List, [], ◌∷◌, ◌++◌, length, refl, sym, ap, subst, ◌∙◌, append_assoc, arith, length-append, cond}
use Rattle.std.specs.Prelude.{if◌then◌else◌, drop}
use Rattle.std.specs.List.{filter, slice_split, onto_first, sum}
use Rattle.std.proofs.lemmas.List.{append-nil}
use Rattle.std.proofs.lemmas.List.Splits.{slice_split-cons_yes, slice_split-cons_no}
use Rattle.std.proofs.lemmas.List.Sums.{sum_by-append}
use Rattle.std.proofs.lemmas.Map.Views.{exact_unsigned_eq}
use Rattle.gcl_model.specs.Tokens.{starts_with_byte}
use Rattle.made_corpus.specs.Summary.{refusals}
use Rattle.made_corpus.specs.Counted.{marks, counts_with, counts_with_all, begins_behind, AreCountsOf}
use Rattle.made_corpus.specs.declared.counts.Counts.{Counts}

-- the lines that begin so, starting at a place
abbrev pub marked_from : Bool → List ℕ → ℕ
marked_from begins [] = 0
marked_from begins (b ∷ rest) = marks begins b + marked_from (b == 10) rest

abbrev parts : List ℕ → List (List ℕ)
parts text = slice_split (λ b. b == 10) text

abbrev marked : List (List ℕ) → ℕ
marked lines = length (filter (starts_with_byte 33) lines)

kept : (t : Bool) (line : List ℕ) (lines : List (List ℕ)) → length (cond t (line ∷ lines) lines) ≡ (if t then 1 else 0) + length lines
kept true line lines = omega arith
kept false line lines = omega arith

-- a byte before the first part makes it begin with that byte
marked_onto : (b : ℕ) (lines : List (List ℕ)) → marked (onto_first b lines) ≡ marks true b + marked (drop 1 lines)
marked_onto b [] = kept (b == 33) (b ∷ []) []
marked_onto b (line ∷ lines) = kept (b == 33) (b ∷ line) (filter (starts_with_byte 33) lines)

later_onto : (b : ℕ) (lines : List (List ℕ)) → drop 1 (onto_first b lines) ≡ drop 1 lines
later_onto b [] = refl
later_onto b (line ∷ lines) = refl

-- a newline is no exclamation mark
no_mark : (b : ℕ) → b == 10 ≡ true → marks true b ≡ 0
no_mark b is = ap (marks true) (exact_unsigned_eq b 10 is)

all_by : (b : ℕ) (rest : List ℕ) (t : Bool) → b == 10 ≡ t → marked (parts rest) ≡ marked_from true rest → marked (drop 1 (parts rest)) ≡ marked_from false rest →
    marked (parts (b ∷ rest)) ≡ marks true b + marked_from (b == 10) rest
all_by b rest true is all later =
    ap marked (slice_split-cons_yes (λ x. x == 10) b rest is) ∙ all
    ∙ sym (ap (λ n. n + marked_from (b == 10) rest) (no_mark b is) ∙ ap (λ t. 0 + marked_from t rest) is ∙ omega arith)
all_by b rest false is all later =
    ap marked (slice_split-cons_no (λ x. x == 10) b rest is) ∙ marked_onto b (parts rest) ∙ ap (λ n. marks true b + n) later
    ∙ sym (ap (λ t. marks true b + marked_from t rest) is)

later_by : (b : ℕ) (rest : List ℕ) (t : Bool) → b == 10 ≡ t → marked (parts rest) ≡ marked_from true rest → marked (drop 1 (parts rest)) ≡ marked_from false rest →
    marked (drop 1 (parts (b ∷ rest))) ≡ marks false b + marked_from (b == 10) rest
later_by b rest true is all later =
    ap (λ l. marked (drop 1 l)) (slice_split-cons_yes (λ x. x == 10) b rest is) ∙ all ∙ sym (ap (λ t. 0 + marked_from t rest) is ∙ omega arith)
later_by b rest false is all later =
    ap (λ l. marked (drop 1 l)) (slice_split-cons_no (λ x. x == 10) b rest is) ∙ ap marked (later_onto b (parts rest)) ∙ later
    ∙ sym (ap (λ t. 0 + marked_from t rest) is ∙ omega arith)

-- the lines that begin so, with the first line and without it
marked_both : (text : List ℕ) → (marked (parts text) ≡ marked_from true text) × (marked (drop 1 (parts text)) ≡ marked_from false text)
marked_both [] = (refl, refl)
marked_both (b ∷ rest) =
    let before = marked_both rest in
    (all_by b rest (b == 10) refl before.0 before.1, later_by b rest (b == 10) refl before.0 before.1)

marked_all : (text : List ℕ) → refusals text ≡ marked_from true text
marked_all text = (marked_both text).0

-- a byte after a text
marked-snoc : (begins : Bool) (text : List ℕ) (b : ℕ) → marked_from begins (text ++ b ∷ []) ≡ marked_from begins text + marks (begins_behind begins text) b
marked-snoc begins [] b = omega arith
marked-snoc begins (c ∷ rest) b = let later = marked-snoc (c == 10) rest b in omega (arith, later)

begins-snoc : (begins : Bool) (text : List ℕ) (b : ℕ) → begins_behind begins (text ++ b ∷ []) ≡ b == 10
begins-snoc begins [] b = refl
begins-snoc begins (c ∷ rest) b = begins-snoc (c == 10) rest b

sum-snoc : (text : List ℕ) (b : ℕ) → sum (text ++ b ∷ []) ≡ sum text + b
sum-snoc text b = sum_by-append (λ x. x) text (b ∷ []) ∙ omega arith

-- the numbers of a text with a byte after it
pub counts-snoc : (counts : Counts) (text : List ℕ) (b : ℕ) → AreCountsOf counts text → AreCountsOf (counts_with counts b) (text ++ b ∷ [])
counts-snoc counts text b are = record {
  refused = ap (λ n. n + marks counts.begins b) (are.refused ∙ marked_all text) ∙ ap (λ t. marked_from true text + marks t b) are.begins
      ∙ sym (marked_all (text ++ b ∷ []) ∙ marked-snoc true text b);
  bytes = ap (λ n. n + 1) are.bytes ∙ sym (length-append text (b ∷ []));
  sum = ap (λ n. n + b) are.sum ∙ sym (sum-snoc text b);
  begins = sym (begins-snoc true text b);
}

-- the numbers of a text with a piece after it
pub counts-append : (counts : Counts) (text piece : List ℕ) → AreCountsOf counts text → AreCountsOf (counts_with_all counts piece) (text ++ piece)
counts-append counts text [] are = subst (AreCountsOf counts) (sym (append-nil text)) are
counts-append counts text (b ∷ rest) are =
    subst (AreCountsOf (counts_with_all (counts_with counts b) rest)) (append_assoc text (b ∷ []) rest)
    (counts-append (counts_with counts b) (text ++ b ∷ []) rest (counts-snoc counts text b are))
