-- The first bytes of a token that is made of an opening, a name and a closing.
use Rattle.std.proofs.Common.{◌≡◌, ◌↔◌, IsTrue, Bool, ℕ, zero, suc, ◌+◌, ◌-◌, ◌<◌, ◌≤◌, List, [], ◌∷◌, ◌++◌, length, take, map, min, sym, ap, ◌∙◌, arith, length-append}
use Rattle.std.specs.Char.{to_ascii_lowercase}
use Rattle.std.proofs.lemmas.List.{append_assoc, append-nil, length-map, take-append-le, take-map, take_min}

take_past : (xs ys : List ℕ) (n : ℕ) → length xs ≤ n → take n (xs ++ ys) ≡ xs ++ take (n - length xs) ys
take_past [] ys n le = let e : n ≡ n - 0 = omega arith in ap (λ m. take m ys) e
take_past (x ∷ xs) ys zero le = absurd (omega arith)
take_past (x ∷ xs) ys (suc n) le =
    let e : n - length xs ≡ suc n - length (x ∷ xs) = omega arith in
    ap (λ zs. x ∷ zs) (take_past xs ys n (omega arith) ∙ ap (λ m. xs ++ take m ys) e)

-- up to the end of the opening
pub front_of_opening : (n : ℕ) (opening middle closing : List ℕ) → n ≤ length opening → take n opening ≡ take n (opening ++ middle ++ closing)
front_of_opening n opening middle closing le = sym (ap (take n) (append_assoc opening middle closing) ∙ take-append-le n opening (middle ++ closing) le)

-- up to the end of the name
pub front_of_name : (n inside : ℕ) (opening name closing : List ℕ) → n ≡ length opening + inside → inside ≤ length name
    → opening ++ map to_ascii_lowercase (take inside name) ++ [] ≡ take n (opening ++ map to_ascii_lowercase name ++ closing)
front_of_name n inside opening name closing e le =
    let middle : List ℕ = map to_ascii_lowercase name in
    let rest : n - length opening ≡ inside = omega arith in
    let short : inside ≤ length middle = omega (arith, length-map name to_ascii_lowercase) in
    sym (ap (take n) (append_assoc opening middle closing) ∙ take_past opening (middle ++ closing) n (omega arith) ∙ ap (λ m. opening ++ take m (middle ++ closing)) rest
    ∙ ap (λ xs. opening ++ xs) (take-append-le inside middle closing short ∙ take-map to_ascii_lowercase inside name)
    ∙ sym (append-nil (opening ++ map to_ascii_lowercase (take inside name))))

-- up to the end of the closing
pub front_of_closing : (n inside : ℕ) (opening name closing : List ℕ) → n ≡ length opening + inside → length name < inside
    → opening ++ map to_ascii_lowercase name ++ take (min (length closing) (inside - length name)) closing ≡ take n (opening ++ map to_ascii_lowercase name ++ closing)
front_of_closing n inside opening name closing e lt =
    let middle : List ℕ = map to_ascii_lowercase name in
    let front : List ℕ = opening ++ middle in
    let size : length front ≡ length opening + length name = omega (arith, length-append opening middle, length-map name to_ascii_lowercase) in
    let left : n - length front ≡ inside - length name = omega arith in
    let least : min (length closing) (inside - length name) ≡ min (inside - length name) (length closing) = omega arith in
    sym (take_past front closing n (omega arith) ∙ ap (λ m. front ++ take m closing) left ∙ ap (λ xs. front ++ xs) (sym (take_min (inside - length name) closing)) ∙ ap (λ m. front ++ take m closing) (sym least))

-- an equal list of bytes
pub same_front : (r : Bool) (prefix told meant : List ℕ) → told ≡ meant → (IsTrue r ↔ prefix ≡ told) → (IsTrue r ↔ prefix ≡ meant)
same_front r prefix told meant e h = (λ t. h.0 t ∙ e, λ q. h.1 (q ∙ sym e))
