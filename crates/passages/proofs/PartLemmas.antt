-- The parts of a passage in its lines.
use Rattle.std.proofs.Common.{◌≡◌, ℕ, ◌+◌, ◌-◌, ◌<◌, ◌≤◌, List, [], ◌∷◌, ◌++◌, length, take, drop, refl, sym, ap, ◌∙◌, arith, length-take, append_assoc, append-nil, ◌==◌, min}
use Rattle.std.specs.List.{position_or_len, slice_range}
use Rattle.std.proofs.lemmas.List.{length-drop, drop-drop, drop_all, drop-take}
use Rattle.script_lang.specs.Lines.{line_end, cut_at_newlines}
use Rattle.script_lang.proofs.LineLemmas.{cut-first}
use Rattle.passages.specs.declared.shown.Shown.{Shown}
use Rattle.passages.specs.declared.cursors.PartCursor.{PartCursor}
use Rattle.passages.specs.Shown.{shown_line}
use Rattle.passages.specs.Texts.{parts_of, parts_text, parts_at}

abbrev pub part_cursor : ℕ → ℕ → ℕ → PartCursor
part_cursor at number mark = record { at = at; number = number; mark = mark }

-- if there is a byte, the parts are those between newlines
parts-some : (bytes : List ℕ) → 0 < length bytes → parts_of bytes ≡ cut_at_newlines bytes
parts-some [] some = absurd (omega arith)
parts-some (b ∷ bytes) some = refl

-- the first part ends at the first newline
parts-first : (bytes : List ℕ) (n : ℕ) → n ≡ position_or_len (λ b. b == 10) bytes → parts_of bytes ≡ take n bytes ∷ cut_at_newlines (drop (n + 1) bytes)
parts-first [] n is = rw is refl
parts-first (b ∷ bytes) n is = rw is (cut-first (b ∷ bytes) (omega arith))

-- a passage that ends at a place lies in the bytes in front of it
pub range-within : (bytes : List ℕ) (at to : ℕ) → at ≤ to → slice_range bytes at to ≡ drop at (take to bytes)
range-within bytes at to ordered =
    let whole : at + (to - at) ≡ to = omega arith in
    sym (drop-take at (to - at) bytes) ∙ ap (λ k. drop at (take k bytes)) whole

-- the next part, and those behind its newline
parts-next : (bytes : List ℕ) (at end : ℕ) → at ≤ length bytes → end ≡ line_end bytes at →
    parts_of (drop at bytes) ≡ take (end - at) (drop at bytes) ∷ cut_at_newlines (drop (end + 1) bytes)
parts-next bytes at end inside is =
    let place : end - at ≡ position_or_len (λ b. b == 10) (drop at bytes) = omega arith in
    let regroup : at + (end - at + 1) ≡ end + 1 = omega arith in
    let behind : drop (end - at + 1) (drop at bytes) ≡ drop (end + 1) bytes = drop-drop (end - at + 1) at bytes ∙ ap (λ k. drop k bytes) regroup in
    parts-first (drop at bytes) (end - at) place ∙ ap (λ rest. take (end - at) (drop at bytes) ∷ cut_at_newlines rest) behind

-- the text of the last part
pub put-last : (shown : Shown) (bytes : List ℕ) (at end number mark to : ℕ) (out out' : List ℕ) → to ≤ length bytes → at ≤ to → end ≡ line_end (take to bytes) at → min (end + 1) to ≡ to →
    out' ≡ out ++ shown_line shown mark number (take (end - at) (drop at (take to bytes))) → out ++ parts_at shown bytes (part_cursor at number mark) to ≡ out'
put-last shown bytes at end number mark to out out' within ordered is last put =
    let wide : length (take to bytes) ≡ to = omega (arith, length-take to bytes) in
    let part : List ℕ = take (end - at) (drop at (take to bytes)) in
    let none : drop (end + 1) (take to bytes) ≡ [] = drop_all (end + 1) (take to bytes) (omega (arith, wide)) in
    let parts : parts_of (slice_range bytes at to) ≡ part ∷ [] =
    ap parts_of (range-within bytes at to ordered) ∙ parts-next (take to bytes) at end (omega (arith, wide)) is ∙ ap (λ rest. part ∷ cut_at_newlines rest) none in
    ap (λ ps. out ++ parts_text shown mark number ps) parts ∙ ap (λ text. out ++ text) (append-nil (shown_line shown mark number part)) ∙ sym put

-- the text of a part in front of others
pub put-more : (shown : Shown) (bytes : List ℕ) (at end after number mark to : ℕ) (out out' : List ℕ) → to ≤ length bytes → at ≤ to → end ≡ line_end (take to bytes) at → after ≡ min (end + 1) to →
    (after ≡ to → ⊥) → out' ≡ out ++ shown_line shown mark number (take (end - at) (drop at (take to bytes))) →
    out ++ parts_at shown bytes (part_cursor at number mark) to ≡ out' ++ parts_at shown bytes (part_cursor after (number + 1) 45) to
put-more shown bytes at end after number mark to out out' within ordered is ends more put =
    let wide : length (take to bytes) ≡ to = omega (arith, length-take to bytes) in
    let part : List ℕ = take (end - at) (drop at (take to bytes)) in
    let before : end + 1 < to = omega arith in
    let after_is : end + 1 ≡ after = omega arith in
    let some : 0 < length (drop (end + 1) (take to bytes)) = omega (arith, wide, length-drop (end + 1) (take to bytes)) in
    let rest : cut_at_newlines (drop (end + 1) (take to bytes)) ≡ parts_of (slice_range bytes after to) =
    sym (ap parts_of (range-within bytes after to (omega arith)) ∙ ap (λ (k : ℕ). parts_of (drop k (take to bytes))) (sym after_is) ∙ parts-some (drop (end + 1) (take to bytes)) some) in
    let parts : parts_of (slice_range bytes at to) ≡ part ∷ parts_of (slice_range bytes after to) =
    ap parts_of (range-within bytes at to ordered) ∙ parts-next (take to bytes) at end (omega (arith, wide)) is ∙ ap (λ ps. part ∷ ps) rest in
    ap (λ ps. out ++ parts_text shown mark number ps) parts
    ∙ sym (append_assoc out (shown_line shown mark number part) (parts_text shown 45 (number + 1) (parts_of (slice_range bytes after to))))
    ∙ ap (λ o. o ++ parts_text shown 45 (number + 1) (parts_of (slice_range bytes after to))) (sym put)
