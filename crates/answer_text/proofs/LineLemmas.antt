-- One line more, and lines that are no refusal.
use Rattle.std.proofs.Common.{◌≡◌, ℕ, ◌+◌, ◌<◌, ◌≤◌, false, List, [], ◌∷◌, ◌++◌, map, length, drop, get_or, refl, sym, ap, ◌∙◌, append_assoc, append-nil}
use Rattle.std.specs.List.{list_any}
use Rattle.std.proofs.lemmas.List.{drop_all, map-append}
use Rattle.std.proofs.lemmas.List.Folds.{list_any-append}
use Rattle.std.proofs.lemmas.Grind.{flat_map-append}
use Rattle.gcl_model.specs.Extents.{Extent}
use Rattle.gcl_model.proofs.Lists.{drop_here}
use Rattle.address_space.specs.Runs.{FileEntry}
use Rattle.script_lang.specs.Answers.{interval_line, record_line, total_line, is_refusal}
use Rattle.script_lang.specs.Lines.{text_of_lines}
use Rattle.script_lang.proofs.AnswerLemmas.{interval_line-plain, total_line-plain, record_line-plain}
use Rattle.answer_text.specs.Texts.{list_lines, listing_lines, record_lines}

-- lines, and then one more
pub one_more : (lines : List (List ℕ)) (last old mid new : List ℕ) → mid ≡ old ++ text_of_lines lines → new ≡ mid ++ last ++ 10 ∷ [] → new ≡ old ++ text_of_lines (lines ++ last ∷ [])
one_more lines last old mid new is_mid is_new =
    let split : text_of_lines (lines ++ last ∷ []) ≡ text_of_lines lines ++ (last ++ 10 ∷ []) =
    flat_map-append _ lines (last ∷ []) ∙ ap (λ text. text_of_lines lines ++ text) (append-nil (last ++ 10 ∷ [])) in
    rw (is_new, is_mid, split) (simp append_assoc)

-- one line
pub one_line : (line old new : List ℕ) → new ≡ old ++ line ++ 10 ∷ [] → new ≡ old ++ text_of_lines (line ∷ [])
one_line line old new is = one_more [] line old old new (sym (append-nil old)) is

-- a text that is put part by part: with those that are left, the parts so far are all, and so they are with one part more
pub parts_more : {A : Type 0} (text : List A → List ℕ) (one : List ℕ) (xs : List A) (i : ℕ) (x : A) (out more all : List ℕ) → text (x ∷ drop (i + 1) xs) ≡ one ++ text (drop (i + 1) xs)
    → i < length xs → x ≡ get_or xs i x → more ≡ out ++ one → out ++ text (drop i xs) ≡ all → more ++ text (drop (i + 1) xs) ≡ all
parts_more text one xs i x out more all first lt is put so =
    ap (λ l. l ++ text (drop (i + 1) xs)) put ∙ append_assoc out one (text (drop (i + 1) xs)) ∙ ap (λ l. out ++ l) (sym first) ∙ ap (λ l. out ++ text l) (sym (drop_here xs i x lt is)) ∙ so

-- if none is left, all are put
pub parts_all : {A : Type 0} (text : List A → List ℕ) (xs : List A) (i : ℕ) (out all : List ℕ) → text [] ≡ [] → length xs ≤ i → out ++ text (drop i xs) ≡ all → out ≡ all
parts_all text xs i out all none le so = sym (append-nil out) ∙ ap (λ l. out ++ l) (sym none) ∙ ap (λ l. out ++ text l) (sym (drop_all i xs le)) ∙ so

-- the text of the lines of some files, and of others
pub records_on : (xs ys : List FileEntry) → text_of_lines (record_lines (xs ++ ys)) ≡ text_of_lines (record_lines xs) ++ text_of_lines (record_lines ys)
records_on xs ys = ap text_of_lines (map-append record_line xs ys) ∙ flat_map-append _ (record_lines xs) (record_lines ys)

last_plain : (lines : List (List ℕ)) (total : ℕ) → list_any is_refusal lines ≡ false → list_any is_refusal (lines ++ total_line total ∷ []) ≡ false
last_plain lines total plain = rw (list_any-append, plain, total_line-plain total) refl

intervals_plain : (list : List Extent) → list_any is_refusal (map interval_line list) ≡ false
intervals_plain [] = refl
intervals_plain (a ∷ list) = rw (interval_line-plain a) (intervals_plain list)

records_plain : (files : List FileEntry) → list_any is_refusal (record_lines files) ≡ false
records_plain [] = refl
records_plain (file ∷ files) = rw (record_line-plain file) (records_plain files)

-- no line of a list is a refusal
pub list_plain : (list : List Extent) → list_any is_refusal (list_lines list) ≡ false
list_plain list = last_plain (map interval_line list) (length list) (intervals_plain list)

-- nor is one of a list of files
pub listing_plain : (files : List FileEntry) → list_any is_refusal (listing_lines files) ≡ false
listing_plain files = last_plain (record_lines files) (length files) (records_plain files)
