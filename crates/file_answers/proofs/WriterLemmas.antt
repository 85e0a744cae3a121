-- A passage that is written a piece at a time.
use Rattle.std.proofs.Common.{◌≡◌, ℕ, Bool, true, false, List, [], ◌++◌, refl, sym, ap, ◌∙◌, subst, append_assoc, cond, Option}
use Rattle.passages.specs.Lines.{lines_at, lines_met}
use Rattle.passages.specs.Texts.{text_of_met}
use Rattle.passages.specs.declared.passage.Passage.{Passage}
use Rattle.passages.specs.declared.shown.Shown.{Shown}
use Rattle.passages.specs.declared.cursors.LineCursor.{LineCursor}
use Rattle.file_answers.specs.Written.{Moves}
use Rattle.file_answers.proofs.WrittenLemmas.{moves-as}

-- what is still to come of these passages, starting at a cursor
abbrev pub to_come : Shown → List ℕ → List Passage → LineCursor → List ℕ
to_come shown bytes ps cursor = text_of_met shown (lines_met ps (lines_at bytes cursor))

-- a piece of lines was put
pub lines-put : (a b : Option (List ℕ)) (shown shown' : Shown) (bytes bytes' all out out' : List ℕ) (cursor cursor' : LineCursor) (ps : List Passage) → shown' ≡ shown → bytes' ≡ bytes →
    Moves a b all (out ++ to_come shown bytes ps cursor) → out ++ to_come shown' bytes' ps cursor ≡ out' ++ to_come shown' bytes' ps cursor' → Moves a b all (out' ++ to_come shown bytes ps cursor')
lines-put a b shown shown' bytes bytes' all out out' cursor cursor' ps same same' moves put =
    let here : out ++ to_come shown bytes ps cursor ≡ out' ++ to_come shown bytes ps cursor' =
    subst (λ (s : Shown). out ++ to_come s bytes ps cursor ≡ out' ++ to_come s bytes ps cursor') same
    (subst (λ (y : List ℕ). out ++ to_come shown' y ps cursor ≡ out' ++ to_come shown' y ps cursor') same' put) in
    moves-as a b all all (out ++ to_come shown bytes ps cursor) (out' ++ to_come shown bytes ps cursor') refl here moves

-- a piece of parts was put, or the last of them
pub parts-put : (all : Bool) (out out' text left more : List ℕ) → (all ≡ true → out' ≡ out ++ text) → (all ≡ false → out ++ text ≡ out' ++ left) →
    out ++ (text ++ more) ≡ out' ++ (cond all [] left ++ more)
parts-put true out out' text left more last some = sym (append_assoc out text more) ∙ ap (λ l. l ++ more) (sym (last refl))
parts-put false out out' text left more last some = sym (append_assoc out text more) ∙ ap (λ l. l ++ more) (some refl) ∙ append_assoc out' left more
