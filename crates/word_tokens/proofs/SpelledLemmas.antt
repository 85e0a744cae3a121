-- A text that is made of an opening, a middle and a closing.
use Rattle.std.proofs.Common.{◌≡◌, ℕ, ◌-◌, Bool, true, false, nat_eq, List, ◌++◌, length, take, drop, refl, sym, ap, ◌∙◌, arith, append_assoc, length-append, IsTrue, ◌↔◌}
use Rattle.std.proofs.lemmas.List.{take_at, drop_at, take-append-drop, append_cancel_left, append_cancel_right}
use Rattle.std.specs.Cmp.Lexicographic.{pointwise, bytes_decides}

-- a text that does not begin with the opening
pub other_opening : (text opening middle closing : List ℕ) → pointwise nat_eq (take (length opening) text) opening ≡ false → text ≡ opening ++ middle ++ closing → false ≡ true
other_opening text opening middle closing other e =
    let begins : take (length opening) text ≡ opening = ap (take (length opening)) (e ∙ append_assoc opening middle closing) ∙ take_at opening (middle ++ closing) _ refl in
    sym other ∙ (bytes_decides (take (length opening) text) opening).1 begins

behind_opening : (text behind opening middle closing : List ℕ) → behind ≡ drop (length opening) text → text ≡ opening ++ middle ++ closing → behind ≡ middle ++ closing
behind_opening text behind opening middle closing b e = b ∙ ap (drop (length opening)) (e ∙ append_assoc opening middle closing) ∙ drop_at opening (middle ++ closing) _ refl

-- what comes after the opening does not end with the closing
pub other_closing : (text behind opening middle closing : List ℕ) → behind ≡ drop (length opening) text → pointwise nat_eq (drop (length behind - length closing) behind) closing ≡ false
    → text ≡ opening ++ middle ++ closing → false ≡ true
other_closing text behind opening middle closing b other e =
    let rest = behind_opening text behind opening middle closing b e in
    let n : length behind - length closing ≡ length middle = omega (arith, length-append middle closing, ap length rest) in
    let ends : drop (length behind - length closing) behind ≡ closing = ap (λ m. drop m behind) n ∙ ap (drop (length middle)) rest ∙ drop_at middle closing _ refl in
    sym other ∙ (bytes_decides (drop (length behind - length closing) behind) closing).1 ends

-- between the opening and the closing is the middle
pub spelled : (r : Bool) (text behind inside opening middle closing : List ℕ) → pointwise nat_eq (take (length opening) text) opening ≡ true → behind ≡ drop (length opening) text
    → pointwise nat_eq (drop (length behind - length closing) behind) closing ≡ true → inside ≡ take (length behind - length closing) behind
    → (IsTrue r ↔ inside ≡ middle) → (IsTrue r ↔ text ≡ opening ++ middle ++ closing)
spelled r text behind inside opening middle closing p b q i h =
    let n : ℕ = length behind - length closing in
    let first : text ≡ opening ++ behind =
    sym (take-append-drop (length opening) text) ∙ ap (λ xs. xs ++ drop (length opening) text) ((bytes_decides _ _).0 p) ∙ ap (λ xs. opening ++ xs) (sym b) in
    let last : behind ≡ inside ++ closing =
    sym (take-append-drop n behind) ∙ ap (λ xs. xs ++ drop n behind) (sym i) ∙ ap (λ xs. inside ++ xs) ((bytes_decides _ _).0 q) in
    let whole : text ≡ opening ++ (inside ++ closing) = first ∙ ap (λ xs. opening ++ xs) last in (
      λ t. whole ∙ ap (λ xs. opening ++ (xs ++ closing)) (h.0 t) ∙ sym (append_assoc opening middle closing),
      λ e. h.1 (append_cancel_right inside middle closing (append_cancel_left opening (inside ++ closing) (middle ++ closing) (sym whole ∙ e ∙ append_assoc opening middle closing))),
    )
