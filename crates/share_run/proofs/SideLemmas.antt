-- Sides that are made of editors, and editors that are taken back.
use Rattle.std.proofs.Common.{◌≡◌, ℕ, suc, ◌+◌, ◌<◌, ◌≤◌, Bool, true, false, ◌&&◌, List, [], ◌∷◌, ◌++◌, length, Option, None, Some, slice_index_or, take, drop, refl, sym, ap, ◌∙◌, subst, arith, append_assoc, append-nil, length-append}
use Rattle.std.specs.Prelude.{option_to_list}
use Rattle.std.proofs.lemmas.Bool.{and_parts}
use Rattle.shared_edit.specs.Editors.{EditorContent, new_editors}
use Rattle.share_run.specs.Sides.{EditorHasWorked, HasWorked, SideContent, are_done, editors_from}
use Rattle.share_run.specs.Work.{HaveEdited}
use Rattle.share_run.proofs.WorkLemmas.{edited_together, new_length}

-- the editor of the last side is the first one
pub editors-snoc : (sides : List SideContent) (side : SideContent) → editors_from (sides ++ side ∷ []) ≡ option_to_list side.editor ++ editors_from sides
editors-snoc [] side = sym (append-nil (option_to_list side.editor))
editors-snoc (x ∷ xs) side =
    ap (λ es. es ++ option_to_list x.editor) (editors-snoc xs side) ∙ append_assoc (option_to_list side.editor) (editors_from xs) (option_to_list x.editor)

done-snoc : (sides : List SideContent) (side : SideContent) (b : Bool) → (b && are_done (sides ++ side ∷ [])) ≡ ((b && side.done) && are_done sides)
done-snoc [] side true = and_true side.done
  where
    and_true : (d : Bool) → (d && true) ≡ (d && true)
    and_true d = refl
done-snoc [] side false = refl
done-snoc (x ∷ xs) side true = by_case x.done (done-snoc xs side true)
  where
    by_case : (d : Bool) → are_done (xs ++ side ∷ []) ≡ (side.done && are_done xs) → (d && are_done (xs ++ side ∷ [])) ≡ (side.done && (d && are_done xs))
    by_case true h = h
    by_case false h = sym (and_false side.done)
      where
        and_false : (d : Bool) → (d && false) ≡ false
        and_false true = refl
        and_false false = refl
done-snoc (x ∷ xs) side false = refl

-- the last side's editor is taken back
pub one_back : (back : List EditorContent) (sides rest : List SideContent) (side : SideContent) (all : List EditorContent) → sides ≡ rest ++ side ∷ [] → back ++ editors_from sides ≡ all
    → (back ++ option_to_list side.editor) ++ editors_from rest ≡ all
one_back back sides rest side all is h =
    append_assoc back (option_to_list side.editor) (editors_from rest) ∙ ap (λ es. back ++ es) (sym (editors-snoc rest side)) ∙ ap (λ ss. back ++ editors_from ss) (sym is) ∙ h

-- and what is done is kept
pub one_done : (so_far : Bool) (sides rest : List SideContent) (side : SideContent) (all : Bool) → sides ≡ rest ++ side ∷ [] → (so_far && are_done sides) ≡ all → ((so_far && side.done) && are_done rest) ≡ all
one_done so_far sides rest side all is h = sym (done-snoc rest side so_far) ∙ ap (λ ss. so_far && are_done ss) (sym is) ∙ h

-- there is room for one more if there is room for all
pub one_room : (back : List EditorContent) (sides rest : List SideContent) (side : SideContent) (e : EditorContent) (all : List EditorContent) → sides ≡ rest ++ side ∷ [] → back ++ editors_from sides ≡ all
    → side.editor ≡ Some e → length back + 1 ≤ length all
one_room back sides rest side e all is h some =
    let both : (back ++ e ∷ []) ++ editors_from rest ≡ all = subst (λ (o : Option EditorContent). (back ++ option_to_list o) ++ editors_from rest ≡ all) some (one_back back sides rest side all is h) in
    let n : length ((back ++ e ∷ []) ++ editors_from rest) ≡ length all = ap length both in
    omega (arith, n, length-append (back ++ e ∷ []) (editors_from rest), length-append back (e ∷ []))

-- ---- the work of all sides

one-worked : (editors files : ℕ) (before after : SideContent) → HasWorked editors files before after → after.done ≡ true → HaveEdited editors files (option_to_list before.editor) (option_to_list after.editor)
one-worked editors files before after h done = by_case before.editor after.editor h
  where
    by_case : (x y : Option EditorContent) → EditorHasWorked editors files after.done x y → HaveEdited editors files (option_to_list x) (option_to_list y)
    by_case None None k = tt
    by_case None (Some y) k = absurd k
    by_case (Some x) None k = absurd k
    by_case (Some x) (Some y) k = (k done, tt)

-- if the work of all sides is done, the editors have edited
pub all-worked : (editors files : ℕ) (before after : List SideContent) → length after ≡ length before
    → ((i : ℕ) → (d : SideContent) → i < length before → HasWorked editors files (slice_index_or before i d) (slice_index_or after i d)) → are_done after ≡ true
    → HaveEdited editors files (editors_from before) (editors_from after)
all-worked editors files [] [] n each done = tt
all-worked editors files [] (y ∷ ys) n each done = absurd (omega (arith, n))
all-worked editors files (x ∷ xs) [] n each done = absurd (omega (arith, n))
all-worked editors files (x ∷ xs) (y ∷ ys) n each done =
    let p = and_parts y.done (are_done ys) done in
    edited_together editors files (editors_from xs) (editors_from ys) (option_to_list x.editor) (option_to_list y.editor)
    (all-worked editors files xs ys (omega (arith, n)) (λ i d lt. each (suc i) d (omega (arith, lt))) p.1)
    (one-worked editors files x y (each 0 x (omega arith)) p.0)

one-kept : (editors files : ℕ) (before after : SideContent) → HasWorked editors files before after → length (option_to_list after.editor) ≡ length (option_to_list before.editor)
one-kept editors files before after h = by_case before.editor after.editor h
  where
    by_case : (x y : Option EditorContent) → EditorHasWorked editors files after.done x y → length (option_to_list y) ≡ length (option_to_list x)
    by_case None None k = refl
    by_case None (Some y) k = absurd k
    by_case (Some x) None k = absurd k
    by_case (Some x) (Some y) k = refl

-- whatever is done, no editor is lost
pub all-kept : (editors files : ℕ) (before after : List SideContent) → length after ≡ length before
    → ((i : ℕ) → (d : SideContent) → i < length before → HasWorked editors files (slice_index_or before i d) (slice_index_or after i d)) → length (editors_from after) ≡ length (editors_from before)
all-kept editors files [] [] n each = refl
all-kept editors files [] (y ∷ ys) n each = absurd (omega (arith, n))
all-kept editors files (x ∷ xs) [] n each = absurd (omega (arith, n))
all-kept editors files (x ∷ xs) (y ∷ ys) n each =
    let rest = all-kept editors files xs ys (omega (arith, n)) (λ i d lt. each (suc i) d (omega (arith, lt))) in
    let one = one-kept editors files x y (each 0 x (omega arith)) in
    omega (arith, rest, one, length-append (editors_from xs) (option_to_list x.editor), length-append (editors_from ys) (option_to_list y.editor))

-- ---- all sides

-- an editor gets a side
pub one_dealt : (editors rest : List EditorContent) (e : EditorContent) (sides sides' : List SideContent) (side : SideContent) (all : List EditorContent) → editors ≡ rest ++ e ∷ [] → sides' ≡ sides ++ side ∷ []
    → side.editor ≡ Some e → editors ++ editors_from sides ≡ all → rest ++ editors_from sides' ≡ all
one_dealt editors rest e sides sides' side all is more some h =
    ap (λ ss. rest ++ editors_from ss) more ∙ ap (λ es. rest ++ es) (editors-snoc sides side) ∙ ap (λ o. rest ++ (option_to_list o ++ editors_from sides)) some
    ∙ sym (append_assoc rest (e ∷ []) (editors_from sides)) ∙ ap (λ es. es ++ editors_from sides) (sym is) ∙ h

-- a slice of a whole list, once it was written, is the list
whole_slice : (xs ys : List SideContent) → length ys ≡ length xs → take (length ys) (ys ++ drop (length ys) xs) ≡ ys
whole_slice [] [] n = refl
whole_slice (x ∷ xs) [] n = absurd (omega (arith, n))
whole_slice [] (y ∷ ys) n = absurd (omega (arith, n))
whole_slice (x ∷ xs) (y ∷ ys) n = ap (λ l. y ∷ l) (whole_slice xs ys (omega (arith, n)))

-- the sides after all worked, where their list was lent as a slice
abbrev pub written_back : ℕ → List SideContent → List SideContent → List SideContent
written_back n sides after = take n (after ++ drop (length after) sides)

written : (n : ℕ) (sides slice after : List SideContent) → slice ≡ sides → n ≡ length sides → length after ≡ length slice → written_back n sides after ≡ after
written n sides slice after same len count =
    let m : length after ≡ length sides = count ∙ ap length same in
    ap (λ k. take k (after ++ drop (length after) sides)) (len ∙ sym m) ∙ whole_slice sides after m

abbrev pub EachWorked : ℕ → ℕ → List SideContent → List SideContent → Type 0
EachWorked editors files before after = (i : ℕ) → (d : SideContent) → i < length before → HasWorked editors files (slice_index_or before i d) (slice_index_or after i d)

-- no editor is lost
pub share-kept : (editors files n : ℕ) (sides slice after : List SideContent) → slice ≡ sides → n ≡ length sides → length after ≡ length slice → EachWorked editors files slice after
    → editors_from sides ≡ new_editors editors → length (editors_from (written_back n sides after)) ≡ editors
share-kept editors files n sides slice after same len count each new =
    ap (λ ss. length (editors_from ss)) (written n sides slice after same len count) ∙ all-kept editors files slice after count each ∙ ap (λ ss. length (editors_from ss)) same ∙ ap length new ∙ new_length editors

-- and if all is done, all have edited
pub share-edited : (editors files n : ℕ) (sides slice after : List SideContent) → slice ≡ sides → n ≡ length sides → length after ≡ length slice → EachWorked editors files slice after
    → editors_from sides ≡ new_editors editors → are_done (written_back n sides after) ≡ true → HaveEdited editors files (new_editors editors) (editors_from (written_back n sides after))
share-edited editors files n sides slice after same len count each new done =
    let back = written n sides slice after same len count in
    let all = all-worked editors files slice after count each (ap are_done (sym back) ∙ done) in
    subst (λ es. HaveEdited editors files es (editors_from (written_back n sides after))) (ap editors_from same ∙ new)
    (subst (λ ss. HaveEdited editors files (editors_from slice) (editors_from ss)) (sym back) all)
