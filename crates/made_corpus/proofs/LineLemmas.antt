-- The script, turn by turn.
use Rattle.std.proofs.Common.{◌≡◌, ℕ, suc, ◌+◌, List, [], ◌∷◌, ◌++◌, length, length-append, sym, ap, ◌∙◌, append_assoc, codes, arith}
use Rattle.std.specs.Prelude.{decimal}
use Rattle.std.proofs.lemmas.List.{append-nil}
use Rattle.std.proofs.lemmas.Grind.{flat_map-append}
use Rattle.made_corpus.specs.Draws.{next_state, draw}
use Rattle.script_lang.specs.Lines.{text_of_lines}
use Rattle.made_corpus.specs.MadeLines.{DrawnLines, followed, count_from, top_from, add_from, change_from, find_from, turn_from, turns_from, HasDrawnLines}

-- the text of lines that come in two parts
text_of_both : (front later : List (List ℕ)) → text_of_lines (front ++ later) ≡ text_of_lines front ++ text_of_lines later
text_of_both front later = flat_map-append (λ line. line ++ 10 ∷ []) front later

-- lines are appended, and then those that are drawn next
pub followed-put : (drawn : DrawnLines) (next : ℕ → DrawnLines) (old mid new : List ℕ) (at after : ℕ) → HasDrawnLines drawn old mid at → HasDrawnLines (next at) mid new after →
    HasDrawnLines (followed drawn next) old new after
followed-put drawn next old mid new at after first then =
    let lines : (next at).lines ≡ (next drawn.state).lines = ap (λ s. (next s).lines) first.state in
    let both : new ≡ (old ++ text_of_lines drawn.lines) ++ text_of_lines (next at).lines = then.text ∙ ap (λ text. text ++ text_of_lines (next at).lines) first.text in
    record {
      text = both ∙ append_assoc old (text_of_lines drawn.lines) (text_of_lines (next at).lines) ∙ ap (λ part. old ++ (text_of_lines drawn.lines ++ text_of_lines part)) lines
          ∙ ap (λ text. old ++ text) (sym (text_of_both drawn.lines (next drawn.state).lines));
      state = then.state ∙ ap (λ s. (next s).state) first.state;
    }

count_text : (out head quote n quoted end : List ℕ) → ((out ++ (head ++ quote)) ++ n) ++ (quoted ++ end) ≡ out ++ (((head ++ ((quote ++ n) ++ quoted)) ++ end) ++ [])
count_text out head quote n quoted end = simp (append_assoc, append-nil)

pub count-put : (state u after : ℕ) (out out_1 : List ℕ) → u ≡ draw state 50 → after ≡ next_state state →
    out_1 ≡ out ++ codes "count (\"<s>\"..\"</s>\") > \"w" ++ decimal u ++ (34 ∷ 10 ∷ []) → HasDrawnLines (count_from state) out out_1 after
count-put state u after out out_1 drawn next is = record {
  text = is ∙ ap (λ n. out ++ codes "count (\"<s>\"..\"</s>\") > \"w" ++ decimal n ++ (34 ∷ 10 ∷ [])) drawn
      ∙ count_text out (codes "count (\"<s>\"..\"</s>\") > ") (codes "\"w") (decimal (draw state 50)) (codes "\"") (10 ∷ []);
  state = next;
}

top_text : (out head quote n quoted near m end last : List ℕ) → ((((out ++ (head ++ quote)) ++ n) ++ (quoted ++ near)) ++ quote ++ m) ++ (quoted ++ (end ++ last)) ≡
    out ++ ((((((head ++ ((quote ++ n) ++ quoted)) ++ near) ++ ((quote ++ m) ++ quoted)) ++ end) ++ last) ++ [])
top_text out head quote n quoted near m end last = simp (append_assoc, append-nil)

pub top-put : (state u at v after : ℕ) (out out_1 out_2 : List ℕ) → u ≡ draw state 50 → at ≡ next_state state → v ≡ draw at 50 → after ≡ next_state at →
    out_1 ≡ out ++ codes "top 5 (\"w" ++ decimal u ++ codes "\"^" → out_2 ≡ out_1 ++ codes "\"w" ++ decimal v ++ (codes "\") < [20]" ++ 10 ∷ []) → HasDrawnLines (top_from state) out out_2 after
top-put state u at v after out out_1 out_2 drawn next drawn_2 next_2 is is_2 =
    let first : out_1 ≡ out ++ codes "top 5 (\"w" ++ decimal (draw state 50) ++ codes "\"^" = is ∙ ap (λ n. out ++ codes "top 5 (\"w" ++ decimal n ++ codes "\"^") drawn in
    let later : v ≡ draw (next_state state) 50 = drawn_2 ∙ ap (λ s. draw s 50) next in
    record {
      text = is_2 ∙ ap (λ text. text ++ codes "\"w" ++ decimal v ++ (codes "\") < [20]" ++ 10 ∷ [])) first
          ∙ ap (λ n. (out ++ codes "top 5 (\"w" ++ decimal (draw state 50) ++ codes "\"^") ++ codes "\"w" ++ decimal n ++ (codes "\") < [20]" ++ 10 ∷ [])) later
          ∙ top_text out (codes "top 5 (") (codes "\"w") (decimal (draw state 50)) (codes "\"") (codes "^") (decimal (draw (next_state state) 50)) (codes ") < [20]") (10 ∷ []);
      state = next_2 ∙ ap next_state next;
    }

-- one turn more is written
pub script-step : (n m i j state after : ℕ) (out out_1 whole : List ℕ) → n ≡ suc m → j ≡ i + 1 → HasDrawnLines (turn_from i state) out out_1 after →
    out ++ text_of_lines (turns_from n i state) ≡ whole → out_1 ++ text_of_lines (turns_from m j after) ≡ whole
script-step n m i j state after out out_1 whole is next put was =
    let turn : DrawnLines = turn_from i state in
    let left : turns_from n i state ≡ turn.lines ++ turns_from m (i + 1) turn.state = ap (λ k. turns_from k i state) is in
    let rest : turns_from m j after ≡ turns_from m (i + 1) turn.state = ap (λ k. turns_from m k after) next ∙ ap (λ s. turns_from m (i + 1) s) put.state in
    ap (λ text. text ++ text_of_lines (turns_from m j after)) put.text ∙ append_assoc out (text_of_lines turn.lines) (text_of_lines (turns_from m j after))
    ∙ ap (λ lines. out ++ (text_of_lines turn.lines ++ text_of_lines lines)) rest
    ∙ ap (λ text. out ++ text) (sym (text_of_both turn.lines (turns_from m (i + 1) turn.state)) ∙ ap text_of_lines (sym left)) ∙ was

-- no turn is left
pub script-done : (n i state : ℕ) (out whole : List ℕ) → n ≡ 0 → out ++ text_of_lines (turns_from n i state) ≡ whole → out ≡ whole
script-done n i state out whole is was = sym (append-nil out) ∙ ap (λ k. out ++ text_of_lines (turns_from k i state)) (sym is) ∙ was

-- a turn has a line to add its file, three queries, and those of its change
pub turn_length : (i state n : ℕ) → n ≡ length (change_from i state).lines → 4 + n ≡ length (turn_from i state).lines
turn_length i state n is =
    let added : DrawnLines = followed (add_from i state) (change_from i) in
    let found : DrawnLines = followed added find_from in
    let counted : DrawnLines = followed found count_from in
    let adds : length added.lines ≡ 1 + length (change_from i state).lines = length-append (add_from i state).lines (change_from i state).lines in
    let finds : length found.lines ≡ length added.lines + 1 = length-append added.lines (find_from added.state).lines in
    let counts : length counted.lines ≡ length found.lines + 1 = length-append found.lines (count_from found.state).lines in
    let tops : length (turn_from i state).lines ≡ length counted.lines + 1 = length-append counted.lines (top_from counted.state).lines in
    let sum : 4 + n ≡ (((1 + n) + 1) + 1) + 1 = omega arith in
    sum ∙ sym (tops ∙ ap (λ m. m + 1) (counts ∙ ap (λ m. m + 1) (finds ∙ ap (λ m. m + 1) (adds ∙ ap (λ m. 1 + m) (sym is)))))

-- one turn more is counted
pub script-count : (n m i j state after lines more : ℕ) (whole : List (List ℕ)) → n ≡ suc m → j ≡ i + 1 → after ≡ (turn_from i state).state → more ≡ length (turn_from i state).lines →
    lines + length (turns_from n i state) ≡ length whole → (lines + more) + length (turns_from m j after) ≡ length whole
script-count n m i j state after lines more whole is next put turn was =
    let drawn : DrawnLines = turn_from i state in
    let left : turns_from n i state ≡ drawn.lines ++ turns_from m (i + 1) drawn.state = ap (λ k. turns_from k i state) is in
    let rest : turns_from m j after ≡ turns_from m (i + 1) drawn.state = ap (λ k. turns_from m k after) next ∙ ap (λ s. turns_from m (i + 1) s) put in
    let all : length (turns_from n i state) ≡ length drawn.lines + length (turns_from m (i + 1) drawn.state) = ap length left ∙ length-append drawn.lines (turns_from m (i + 1) drawn.state) in
    let same : length (turns_from m j after) ≡ length (turns_from m (i + 1) drawn.state) = ap length rest in
    let sums : (a b c d : ℕ) → (a + b) + c ≡ a + (b + c) = λ a b c d. omega arith in
    ap (λ k. (lines + more) + k) same ∙ ap (λ k. (lines + k) + length (turns_from m (i + 1) drawn.state)) turn
    ∙ sums lines (length drawn.lines) (length (turns_from m (i + 1) drawn.state)) 0 ∙ ap (λ k. lines + k) (sym all) ∙ was

-- no turn is left to count
pub script-counted : (n i state lines : ℕ) (whole : List (List ℕ)) → n ≡ 0 → lines + length (turns_from n i state) ≡ length whole → lines ≡ length whole
script-counted n i state lines whole is was =
    let none : lines ≡ lines + 0 = omega arith in
    none ∙ ap (λ k. lines + length (turns_from k i state)) (sym is) ∙ was
