-- The text of the answers to queries, by what was found.
use Rattle.std.proofs.Common.{◌≡◌, ℕ, ◌+◌, List, [], ◌∷◌, ◌++◌, length, map, take, refl, sym, ap, ◌∙◌, arith, append-nil, append_assoc, length-append, Bool, true, false, ◌||◌}
use Rattle.std.proofs.lemmas.List.{map-append}
use Rattle.std.proofs.lemmas.Grind.{flat_map-append}
use Rattle.std.proofs.Math.Seq.{take-append_seam}
use Rattle.std.proofs.lemmas.List.Folds.{list_any-append}
use Rattle.std.specs.List.{list_any}
use Rattle.std.specs.Prelude.{flat_map}
use Rattle.gcl_model.specs.Extents.{Extent}
use Rattle.script_lang.specs.Answers.{interval_line, is_refusal, total_line}
use Rattle.script_lang.specs.Lines.{text_of_lines}
use Rattle.query_lanes.specs.declared.asks.Found.{Found}
use Rattle.answer_text.specs.Texts.{found_lines, list_lines}
use Rattle.answer_text.specs.Puts.{founds_text, members_text}

-- a refusal is among the first ones, or among the others
pub or_assoc : (a b c d : Bool) → a ≡ (b || c) → (a || d) ≡ (b || (c || d))
or_assoc a true c d is = ap (λ x. x || d) is
or_assoc a false c d is = ap (λ x. x || d) is

pub members_on : (xs ys : List Extent) → members_text (xs ++ ys) ≡ members_text xs ++ members_text ys
members_on xs ys = ap text_of_lines (map-append interval_line xs ys) ∙ flat_map-append _ (map interval_line xs) (map interval_line ys)

pub founds_on : (xs ys : List Found) → founds_text (xs ++ ys) ≡ founds_text xs ++ founds_text ys
founds_on xs ys = ap text_of_lines (flat_map-append found_lines xs ys) ∙ flat_map-append _ (flat_map found_lines xs) (flat_map found_lines ys)

-- the text of a list is that of its members, and then their number
pub list_text : (list : List Extent) → text_of_lines (list_lines list) ≡ members_text list ++ (total_line (length list) ++ 10 ∷ [])
list_text list = flat_map-append _ (map interval_line list) (total_line (length list) ∷ []) ∙ ap (λ l. members_text list ++ l) (append-nil (total_line (length list) ++ 10 ∷ []))

-- the first ones, and one more
pub one_after : {A : Type 0} (list so_far left : List A) (next : A) (count : ℕ) → list ≡ so_far ++ next ∷ left → count ≡ length so_far → take (count + 1) list ≡ so_far ++ next ∷ []
one_after list so_far left next count whole number =
    let long : count + 1 ≡ length (so_far ++ next ∷ []) = omega (arith, number, length-append so_far (next ∷ [])) in
    ap (λ l. take (count + 1) l) (whole ∙ sym (append_assoc so_far (next ∷ []) left)) ∙ ap (λ (n : ℕ). take n ((so_far ++ next ∷ []) ++ left)) long ∙ take-append_seam (so_far ++ next ∷ []) left

-- a refusal is among what was found so far, or it is what is found next, or it is among the others
pub refused_on : (refused refusal whole : Bool) (founds left : List Found) (next : Found) → founds ≡ next ∷ left → refusal ≡ list_any is_refusal (found_lines next) → (refused || list_any is_refusal (flat_map found_lines founds)) ≡ whole →
    ((refused || refusal) || list_any is_refusal (flat_map found_lines left)) ≡ whole
refused_on refused refusal whole founds left next split is so_far =
    or_assoc (refused || refusal) refused refusal (list_any is_refusal (flat_map found_lines left)) refl ∙ ap (λ (b : Bool). refused || b)
    (ap (λ (b : Bool). b || list_any is_refusal (flat_map found_lines left)) is ∙ sym (list_any-append is_refusal (found_lines next) (flat_map found_lines left)) ∙ ap (λ (l : List Found). list_any is_refusal (flat_map found_lines l)) (sym split)) ∙ so_far
