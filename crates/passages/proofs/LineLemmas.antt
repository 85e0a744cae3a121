-- The lines starting at a cursor, and those of them that passages meet.
use Rattle.std.proofs.Common.{◌≡◌, ℕ, ◌+◌, ◌-◌, ◌<◌, ◌≤◌, Bool, true, false, List, [], ◌∷◌, ◌++◌, length, take, drop, refl, sym, ap, ◌∙◌, arith, cond, length-take, min, append_assoc, leb, ◌==◌}
use Rattle.std.specs.Prelude.{◌&&◌, ◌||◌, nat_lt}
use Rattle.std.specs.List.{list_any, position_or_len}
use Rattle.std.proofs.lemmas.Bool.Decides.{nat_tests}
use Rattle.std.proofs.lemmas.List.{length-drop, drop-drop, drop_all}
use Rattle.std.proofs.lemmas.Bool.{cond-true, cond-false}
use Rattle.script_lang.specs.Lines.{line_end, cut_at_newlines}
use Rattle.script_lang.proofs.LineLemmas.{cut-first}
use Rattle.passages.specs.declared.passage.Passage.{Passage}
use Rattle.passages.specs.declared.shown.Shown.{Shown}
use Rattle.passages.specs.declared.cursors.LineCursor.{LineCursor}
use Rattle.passages.specs.Lines.{Line, lines_from, lines_at, lines_met, meets}
use Rattle.passages.specs.Order.{BeginFrom}
use Rattle.passages.specs.Shown.{shown_line}
use Rattle.passages.specs.Texts.{text_of_met}

abbrev pub cursor_at : ℕ → ℕ → LineCursor
cursor_at at number = record { at = at; number = number }

abbrev pub line_of : ℕ → ℕ → List ℕ → Line
line_of number from bytes = record { number = number; from = from; bytes = bytes }

-- the line at a cursor, and the lines after its newline
pub lines-next : (bytes : List ℕ) (at number end after : ℕ) → at < length bytes → end ≡ line_end bytes at → end ≤ length bytes → after ≡ min (end + 1) (length bytes) →
    lines_at bytes (cursor_at at number) ≡ line_of number at (take (end - at) (drop at bytes)) ∷ lines_at bytes (cursor_at after (number + 1))
lines-next bytes at number end after inside is bound ends =
    let some : 0 < length (drop at bytes) = omega (arith, length-drop at bytes) in
    let place : position_or_len (λ b. b == 10) (drop at bytes) ≡ end - at = omega arith in
    let first : cut_at_newlines (drop at bytes) ≡ take (end - at) (drop at bytes) ∷ cut_at_newlines (drop (end - at + 1) (drop at bytes)) = rw (← place) (cut-first (drop at bytes) some) in
    let wide : length (take (end - at) (drop at bytes)) ≡ end - at = omega (arith, length-take (end - at) (drop at bytes), length-drop at bytes) in
    let regroup : at + (end - at + 1) ≡ end + 1 = omega arith in
    let behind : drop (end - at + 1) (drop at bytes) ≡ drop (end + 1) bytes = drop-drop (end - at + 1) at bytes ∙ ap (λ k. drop k bytes) regroup in
    let from : at + length (take (end - at) (drop at bytes)) + 1 ≡ end + 1 = omega (arith, wide) in
    ap (lines_from number at) first ∙ ap (λ rest. line_of number at (take (end - at) (drop at bytes)) ∷ rest)
    (ap (λ (k : ℕ). lines_from (number + 1) k (cut_at_newlines (drop (end - at + 1) (drop at bytes)))) from ∙
    ap (λ rest. lines_from (number + 1) (end + 1) (cut_at_newlines rest)) behind ∙ clipped bytes (number + 1) (end + 1) after ends)
  where
    clipped : (bytes : List ℕ) (number from after : ℕ) → after ≡ min from (length bytes) →
        lines_from number from (cut_at_newlines (drop from bytes)) ≡ lines_from number after (cut_at_newlines (drop after bytes))
    clipped bytes number from after is = by_side (leb from (length bytes)) refl
      where
        by_side : (t : Bool) → leb from (length bytes) ≡ t → lines_from number from (cut_at_newlines (drop from bytes)) ≡ lines_from number after (cut_at_newlines (drop after bytes))
        by_side true e =
            let same : from ≡ after = grind (arith, nat_tests) in
            ap (λ (k : ℕ). lines_from number k (cut_at_newlines (drop k bytes))) same
        by_side false e =
            let past : length bytes ≤ from = grind (arith, nat_tests) in
            let end : length bytes ≤ after = grind (arith, nat_tests) in
            ap (λ rest. lines_from number from (cut_at_newlines rest)) (drop_all from bytes past) ∙
            sym (ap (λ rest. lines_from number after (cut_at_newlines rest)) (drop_all after bytes end))

-- a line that ends in front of a place meets no passage that begins there or behind it
misses_all : (line : Line) (place : ℕ) (ps : List Passage) → line.from + length line.bytes + 1 ≤ place → BeginFrom place ps → list_any (meets line) ps ≡ false
misses_all line place [] before from = refl
misses_all line place (p ∷ ps) before from =
    let low : place ≤ p.from = from.0 in
    let none : nat_lt p.from (line.from + length line.bytes + 1) ≡ false = grind (arith, nat_tests) in
    let rest : list_any (meets line) ps ≡ false = misses_all line place ps before from.1 in
    missed (nat_lt p.from p.to) (nat_lt p.from (line.from + length line.bytes + 1)) (nat_lt line.from p.to) (list_any (meets line) ps) none rest
  where
    missed : (s t u r : Bool) → t ≡ false → r ≡ false → ((s && (t && u)) || r) ≡ false
    missed true t u r et er = rw et er
    missed false t u r et er = er

pub met-missed : (line : Line) (rest : List Line) (place : ℕ) (ps : List Passage) → line.from + length line.bytes + 1 ≤ place → BeginFrom place ps → lines_met ps (line ∷ rest) ≡ lines_met ps rest
met-missed line rest place ps before from = cond-false (list_any (meets line) ps) _ _ (misses_all line place ps before from)

-- a line that a passage meets
pub met-first : (line : Line) (rest : List Line) (p : Passage) (ps : List Passage) → p.from < p.to → p.from ≤ line.from + length line.bytes → line.from < p.to →
    lines_met (p ∷ ps) (line ∷ rest) ≡ line ∷ lines_met (p ∷ ps) rest
met-first line rest p ps some reached before =
    let a : nat_lt p.from p.to ≡ true = grind (arith, nat_tests) in
    let b : nat_lt p.from (line.from + length line.bytes + 1) ≡ true = grind (arith, nat_tests) in
    let c : nat_lt line.from p.to ≡ true = grind (arith, nat_tests) in
    cond-true (list_any (meets line) (p ∷ ps)) _ _ (found (nat_lt p.from p.to) (nat_lt p.from (line.from + length line.bytes + 1)) (nat_lt line.from p.to) (list_any (meets line) ps) a b c)
  where
    found : (s t u r : Bool) → s ≡ true → t ≡ true → u ≡ true → ((s && (t && u)) || r) ≡ true
    found true true true r a b c = refl
    found true true false r a b c = cc
    found true false u r a b c = cc
    found false t u r a b c = cc

-- the line is none that the first of the passages meets
misses_first : (line : Line) (p : Passage) (ps : List Passage) → (nat_lt p.from p.to && (nat_lt p.from (line.from + length line.bytes + 1) && nat_lt line.from p.to)) ≡ false →
    list_any (meets line) (p ∷ ps) ≡ list_any (meets line) ps
misses_first line p ps none = ap (λ t. t || list_any (meets line) ps) none

none_behind : (p : Passage) (line : Line) → p.to ≤ line.from → (nat_lt p.from p.to && (nat_lt p.from (line.from + length line.bytes + 1) && nat_lt line.from p.to)) ≡ false
none_behind p line past =
    let none : nat_lt line.from p.to ≡ false = grind (arith, nat_tests) in
    three (nat_lt p.from p.to) (nat_lt p.from (line.from + length line.bytes + 1)) (nat_lt line.from p.to) none
  where
    three : (s t u : Bool) → u ≡ false → (s && (t && u)) ≡ false
    three true true u e = e
    three true false u e = refl
    three false t u e = refl

-- a passage that ends in front of the lines meets none of them
pub met-behind : (p : Passage) (ps : List Passage) (number from : ℕ) (texts : List (List ℕ)) → p.to ≤ from →
    lines_met (p ∷ ps) (lines_from number from texts) ≡ lines_met ps (lines_from number from texts)
met-behind p ps number from [] past = refl
met-behind p ps number from (text ∷ texts) past =
    let line : Line = line_of number from text in
    let same : list_any (meets line) (p ∷ ps) ≡ list_any (meets line) ps = misses_first line p ps (none_behind p line past) in
    let rest : lines_met (p ∷ ps) (lines_from (number + 1) (from + length text + 1) texts) ≡ lines_met ps (lines_from (number + 1) (from + length text + 1) texts) =
    met-behind p ps (number + 1) (from + length text + 1) texts (omega arith) in
    ap (λ t. cond t (line ∷ lines_met (p ∷ ps) (lines_from (number + 1) (from + length text + 1) texts)) (lines_met (p ∷ ps) (lines_from (number + 1) (from + length text + 1) texts))) same
    ∙ ap (λ ls. cond (list_any (meets line) ps) (line ∷ ls) ls) rest

-- an empty passage meets no line
pub met-empty : (p : Passage) (ps : List Passage) (lines : List Line) → p.to ≤ p.from → lines_met (p ∷ ps) lines ≡ lines_met ps lines
met-empty p ps [] none = refl
met-empty p ps (line ∷ lines) none =
    let no_byte : nat_lt p.from p.to ≡ false = grind (arith, nat_tests) in
    let same : list_any (meets line) (p ∷ ps) ≡ list_any (meets line) ps = misses_first line p ps (ap (λ t. t && (nat_lt p.from (line.from + length line.bytes + 1) && nat_lt line.from p.to)) no_byte) in
    ap (λ t. cond t (line ∷ lines_met (p ∷ ps) lines) (lines_met (p ∷ ps) lines)) same
    ∙ ap (λ ls. cond (list_any (meets line) ps) (line ∷ ls) ls) (met-empty p ps lines none)

-- one line more was put
pub put-next : (shown : Shown) (out out' : List ℕ) (line : Line) (rest met : List Line) → met ≡ line ∷ rest → out' ≡ out ++ shown_line shown 58 line.number line.bytes →
    out ++ text_of_met shown met ≡ out' ++ text_of_met shown rest
put-next shown out out' line rest met is put =
    ap (λ ls. out ++ text_of_met shown ls) is ∙ sym (append_assoc out (shown_line shown 58 line.number line.bytes) (text_of_met shown rest))
    ∙ ap (λ o. o ++ text_of_met shown rest) (sym put)

-- a line is passed that ends in front of a place
pub skip-next : (bytes : List ℕ) (at number end place : ℕ) (ps : List Passage) → end ≡ line_end bytes at → at < place → end < place → place < length bytes → BeginFrom place ps →
    lines_met ps (lines_at bytes (cursor_at at number)) ≡ lines_met ps (lines_at bytes (cursor_at (end + 1) (number + 1)))
skip-next bytes at number end place ps is before ends within from =
    let after : end + 1 ≡ min (end + 1) (length bytes) = omega arith in
    let part : List ℕ = take (end - at) (drop at bytes) in
    let next : lines_at bytes (cursor_at at number) ≡ line_of number at part ∷ lines_at bytes (cursor_at (end + 1) (number + 1)) =
    lines-next bytes at number end (end + 1) (omega arith) is (omega arith) after in
    let short : at + length part + 1 ≤ place = omega (arith, length-take (end - at) (drop at bytes), length-drop at bytes) in
    ap (lines_met ps) next ∙ met-missed (line_of number at part) (lines_at bytes (cursor_at (end + 1) (number + 1))) place ps short from

-- a line is put that a passage meets
pub print-next : (shown : Shown) (bytes : List ℕ) (at number end after : ℕ) (p : Passage) (ps : List Passage) (out out' : List ℕ) → at < p.to → p.to ≤ length bytes → end ≡ line_end bytes at → end ≤ length bytes →
    p.from < p.to → p.from ≤ end → after ≡ min (end + 1) (length bytes) → out' ≡ out ++ shown_line shown 58 number (take (end - at) (drop at bytes)) →
    out ++ text_of_met shown (lines_met (p ∷ ps) (lines_at bytes (cursor_at at number))) ≡ out' ++ text_of_met shown (lines_met (p ∷ ps) (lines_at bytes (cursor_at after (number + 1))))
print-next shown bytes at number end after p ps out out' before within is bound some reached ends put =
    let part : List ℕ = take (end - at) (drop at bytes) in
    let behind : at ≤ line_end bytes at = omega arith in
    let wide : length part ≡ end - at = omega (arith, length-take (end - at) (drop at bytes), length-drop at bytes) in
    let next : lines_at bytes (cursor_at at number) ≡ line_of number at part ∷ lines_at bytes (cursor_at after (number + 1)) =
    lines-next bytes at number end after (omega arith) is bound ends in
    put-next shown out out' (line_of number at part) (lines_met (p ∷ ps) (lines_at bytes (cursor_at after (number + 1)))) (lines_met (p ∷ ps) (lines_at bytes (cursor_at at number)))
    (ap (lines_met (p ∷ ps)) next ∙ met-first (line_of number at part) (lines_at bytes (cursor_at after (number + 1))) p ps some (omega (arith, wide)) before) put
