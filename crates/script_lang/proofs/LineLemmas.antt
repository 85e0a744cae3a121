-- The first line of a text.
use Rattle.std.proofs.Common.{◌≡◌, ℕ, ◌+◌, ◌-◌, ◌<◌, ◌≤◌, Bool, true, false, not, List, [], ◌∷◌, length, take, drop, get_or, refl, sym, ap, ◌∙◌, arith, cond, rules, length-take, min, map}
use Rattle.std.specs.Prelude.{◌==◌, nat_lt}
use Rattle.std.specs.List.{onto_first, position_or_len, prefix_len}
use Rattle.std.proofs.lemmas.Bool.Decides.{nat_tests}
use Rattle.std.proofs.lemmas.List.{length-drop, drop-drop, take-take, drop_min, drop-take}
use Rattle.std.proofs.lemmas.List.Sums.{prefix_len_is, prefix_len-le-length}
use Rattle.std.proofs.lemmas.Bool.{cond-true, cond-false}
use Rattle.memchr.specs.Find.{NoneBefore, Nowhere, Passes, is_byte}
use Rattle.gcl_model.specs.Tokens.{is_blank}
use Rattle.script_lang.specs.Blanks.{without_front, without_back}
use Rattle.script_lang.specs.Lines.{Line, line_of, lines, line_end, cut_at_newlines, without_return}

not_true : (t : Bool) → (t ≡ true → ⊥) → not t ≡ true
not_true true wrong = absurd (wrong refl)
not_true false wrong = refl

-- the first place of a newline, and that there is none
newline-found : (bytes : List ℕ) (place : ℕ) → NoneBefore (Passes (is_byte 10) bytes) 0 (length bytes) place → Passes (is_byte 10) bytes place →
    position_or_len (λ b. b == 10) bytes ≡ place
newline-found bytes place first here =
    prefix_len_is (λ b. not (b == 10)) bytes place 0 (omega arith) (λ k before. not_true (get_or bytes k 0 == 10) (first.before k (omega arith) before)) (λ _. ap not here)

pub newline-nowhere : (bytes : List ℕ) → Nowhere (Passes (is_byte 10) bytes) 0 (length bytes) → position_or_len (λ b. b == 10) bytes ≡ length bytes
newline-nowhere bytes none =
    prefix_len_is (λ b. not (b == 10)) bytes (length bytes) 0 (omega arith) (λ k before. not_true (get_or bytes k 0 == 10) (none k (omega arith) before)) (λ past. absurd (omega arith))

-- what a search of the rest of the text finds
pub line_end-found : (text rest : List ℕ) (at place : ℕ) → rest ≡ drop at text → NoneBefore (Passes (is_byte 10) rest) 0 (length rest) place → Passes (is_byte 10) rest place →
    at + place ≡ line_end text at
line_end-found text rest at place same first here =
    ap (λ k. at + k) (sym (newline-found rest place first here) ∙ ap (position_or_len (λ b. b == 10)) same)

pub line_end-none : (text rest : List ℕ) (at : ℕ) → rest ≡ drop at text → at ≤ length text → Nowhere (Passes (is_byte 10) rest) 0 (length rest) → length text ≡ line_end text at
line_end-none text rest at same inside none =
    let long : position_or_len (λ b. b == 10) (drop at text) ≡ length rest = sym (ap (position_or_len (λ b. b == 10)) same) ∙ newline-nowhere rest none in
    omega (arith, ap length same, length-drop at text)

-- by whether the first byte is a newline
cut : (t : Bool) (b : ℕ) (bs : List ℕ) (n : ℕ) → cut_at_newlines bs ≡ take n bs ∷ cut_at_newlines (drop (n + 1) bs) →
    cond t ([] ∷ cut_at_newlines bs) (onto_first b (cut_at_newlines bs)) ≡ take (cond (not t) (1 + n) 0) (b ∷ bs) ∷ cut_at_newlines (drop (cond (not t) (1 + n) 0 + 1) (b ∷ bs))
cut true b bs n is = refl
cut false b bs n is = rw is (search rules)

cut_last : (t : Bool) (b : ℕ) → cond t ([] ∷ []) (onto_first b []) ≡ take (cond (not t) (1 + 0) 0) (b ∷ []) ∷ cut_at_newlines (drop (cond (not t) (1 + 0) 0 + 1) (b ∷ []))
cut_last true b = refl
cut_last false b = refl

-- the first line ends at the first newline, and the others come after it
pub cut-first : (bs : List ℕ) → 0 < length bs → cut_at_newlines bs ≡ take (position_or_len (λ b. b == 10) bs) bs ∷ cut_at_newlines (drop (position_or_len (λ b. b == 10) bs + 1) bs)
cut-first [] some = absurd (omega arith)
cut-first (b ∷ []) some = cut_last (b == 10) b
cut-first (b ∷ c ∷ bs) some = cut (b == 10) b (c ∷ bs) (position_or_len (λ b. b == 10) (c ∷ bs)) (cut-first (c ∷ bs) (omega arith))

pub lines-first : (most : ℕ) (bs : List ℕ) (n : ℕ) → 0 < length bs → n ≡ position_or_len (λ b. b == 10) bs →
    lines most bs ≡ line_of most (take n bs) ∷ lines most (drop (n + 1) bs)
lines-first most bs n some is = rw is (ap (map (line_of most)) (cut-first bs some))

abbrev short_line : List ℕ → Line
short_line bytes = record { long = false; bytes = bytes }

pub line_of-long : (most : ℕ) (line : List ℕ) → most < length line → line_of most line ≡ record { long = true; bytes = [] }
line_of-long most line over = cond-true (nat_lt most (length line)) _ _ (grind (arith, nat_tests))

pub line_of-short : (most : ℕ) (line : List ℕ) → length line ≤ most → line_of most line ≡ short_line (without_front (without_back (without_return line)))
line_of-short most line few = cond-false (nat_lt most (length line)) _ _ (grind (arith, nat_tests))

-- the first of the lines starting at a place, and those after its newline
lines-at : (text : List ℕ) (at most end after : ℕ) → at < length text → end ≡ line_end text at → after ≡ min (end + 1) (length text) →
    lines most (drop at text) ≡ line_of most (take (end - at) (drop at text)) ∷ lines most (drop after text)
lines-at text at most end after inside is ends =
    let some : 0 < length (drop at text) = omega (arith, length-drop at text) in
    let place : end - at ≡ position_or_len (λ b. b == 10) (drop at text) = omega arith in
    let clipped : drop after text ≡ drop (end + 1) text = rw ends (drop_min (end + 1) text) in
    let regroup : end + 1 ≡ at + (end - at + 1) = omega arith in
    let behind : drop (end - at + 1) (drop at text) ≡ drop after text = drop-drop (end - at + 1) at text ∙ sym (clipped ∙ ap (λ k. drop k text) regroup) in
    lines-first most (drop at text) (end - at) some place ∙ rw behind refl

-- what a cut of a long line gives
pub lines-long : (text : List ℕ) (at most end after : ℕ) → at < length text → end ≡ line_end text at → end ≤ length text → most < end - at →
    after ≡ min (end + 1) (length text) → lines most (drop at text) ≡ record { long = true; bytes = take (at - at) (drop at text) } ∷ lines most (drop after text)
lines-long text at most end after inside is bound over ends =
    let line : List ℕ = take (end - at) (drop at text) in
    let long : line_of most line ≡ record { long = true; bytes = [] } = line_of-long most line (omega (arith, length-take (end - at) (drop at text), length-drop at text)) in
    let none : at - at ≡ 0 = omega arith in
    lines-at text at most end after inside is ends ∙ rw (long, none) refl

-- what a cut of any other line gives
pub lines-short : (text : List ℕ) (at most end left front after : ℕ) → at < length text → end ≡ line_end text at → end ≤ length text → end - at ≤ most →
    left ≤ end - at → take left (take (end - at) (drop at text)) ≡ without_back (without_return (take (end - at) (drop at text))) →
    front ≡ prefix_len is_blank (take left (take (end - at) (drop at text))) → after ≡ min (end + 1) (length text) →
    lines most (drop at text) ≡ short_line (take (at + length (take left (take (end - at) (drop at text))) - (at + front)) (drop (at + front) text)) ∷ lines most (drop after text)
lines-short text at most end left front after inside is bound few within kept blanks ends =
    let rest : List ℕ = drop at text in
    let line : List ℕ = take (end - at) rest in
    let wide : length line ≡ end - at = omega (arith, length-take (end - at) rest, length-drop at text) in
    let short : line_of most line ≡ short_line (without_front (without_back (without_return line))) = line_of-short most line (omega arith) in
    let says : without_front (without_back (without_return line)) ≡ drop front (take left line) = ap without_front (sym kept) ∙ rw blanks refl in
    let count : length (take left line) ≡ left = omega (arith, length-take left line) in
    let low : front ≤ left = omega (arith, prefix_len-le-length is_blank (take left line)) in
    let many : at + length (take left line) - (at + front) ≡ left - front = omega arith in
    let whole : front + (left - front) ≡ left = omega arith in
    let there : drop (at + front) text ≡ drop front rest = sym (drop-drop front at text) in
    let inner : take left line ≡ take left rest = take-take left (end - at) rest within in
    let part : take (at + length (take left line) - (at + front)) (drop (at + front) text) ≡ drop front (take left line) =
    rw (many, there, inner) (sym (drop-take front (left - front) rest) ∙ ap (λ k. drop front (take k rest)) whole) in
    lines-at text at most end after inside is ends ∙ rw (short, says, part) refl
