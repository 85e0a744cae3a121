-- The words of a sound collection: where they are, and which token each address has.
use Rattle.std.proofs.Common.{◌≡◌, ℕ, suc, ◌+◌, ◌-◌, ◌<◌, ◌≤◌, Bool, true, false, ◌&&◌, ◌||◌, cond, eqb, leb, bytes_eq, List, [], ◌∷◌, ◌++◌, length, Option, Some, None, refl, sym, ap, ◌∙◌, arith, inl, inr, ◌⊎◌, ◌↔◌, length-append}
use Rattle.std.specs.List.{flat_map, list_any, slice_get}
use Rattle.std.specs.Option.{option_or}
use Rattle.std.specs.Cmp.Lexicographic.{bytes_decides}
use Rattle.std.proofs.lemmas.Bool.{cases_lt, cases_order, eq-eqb, false_from_ne_true, false≢true, le-leb, lt-leb, ne_eqb}
use Rattle.std.proofs.lemmas.List.Folds.{list_any-append}
use Rattle.std.proofs.lemmas.Option.{slice_get_within}
use Rattle.gcl_model.specs.Texts.{Word, AreRisingBelow, holds, is_word}
use Rattle.gcl_model.specs.Collections.{File, Collection, AreFilesFrom, file_end, width_of, with_boundaries, word_of_file, word_of_files, words_from}
use Rattle.gcl_model.specs.Laws.{WordsAreText, WordsAreAtAddresses}
use Rattle.gcl_model.proofs.WordLists.{rising_earlier}
use Rattle.address_space.proofs.CollectionLemmas.{up_to}

length-with_boundaries : (tokens : List (List ℕ)) → length (with_boundaries tokens) ≡ width_of tokens
length-with_boundaries tokens = omega (arith, length-append tokens (file_end ∷ []))

-- tokens at consecutive addresses, and rising words after them
words_rise : (next low p : ℕ) (tokens : List (List ℕ)) (words : List Word) → low ≤ p → p + length tokens ≤ next → AreRisingBelow next (p + length tokens) words → AreRisingBelow next low (words_from p tokens ++ words)
words_rise next low p [] words le within h = rising_earlier next low (p + 0) words (omega arith) h
words_rise next low p (token ∷ tokens) words le within h =
    (le, omega arith, words_rise next (p + 1) (p + 1) tokens words (omega arith) (omega arith) (rising_earlier next (p + 1 + length tokens) (p + suc (length tokens)) words (omega arith) h))

files_rise : (c : Collection) (at id : ℕ) (files : List File) → AreFilesFrom c at id files → AreRisingBelow c.next at (flat_map (λ file. words_from file.base (with_boundaries file.tokens)) files)
files_rise c at id [] h = tt
files_rise c at id (file ∷ files) h =
    let end : ℕ = file.base + width_of file.tokens in
    let rest = up_to c end (file.id + 1) files h.5 in
    let width = length-with_boundaries file.tokens in
    words_rise c.next at file.base (with_boundaries file.tokens) (flat_map (λ other. words_from other.base (with_boundaries other.tokens)) files) h.0 (omega (arith, rest.address))
    (rising_earlier c.next (file.base + length (with_boundaries file.tokens)) end (flat_map (λ other. words_from other.base (with_boundaries other.tokens)) files) (omega arith)
    (files_rise c end (file.id + 1) files h.5))

pub words_are_text : WordsAreText
words_are_text c sound = record { ordered = sound.ordered; in_range = sound.in_range; rising = files_rise c c.first 0 c.files sound.files }

-- the token at address p of tokens starting at base
abbrev place : ℕ → List (List ℕ) → ℕ → Option (List ℕ)
place base tokens p = cond (leb base p) (slice_get tokens (p - base)) None

place-before : (base : ℕ) (tokens : List (List ℕ)) (p : ℕ) → p < base → place base tokens p ≡ None
place-before base tokens p below = ap (λ t. cond t (slice_get tokens (p - base)) None) (lt-leb base p below)

place-from : (base : ℕ) (tokens : List (List ℕ)) (p : ℕ) → base ≤ p → place base tokens p ≡ slice_get tokens (p - base)
place-from base tokens p le = ap (λ t. cond t (slice_get tokens (p - base)) None) (le-leb base p le)

place-first : (base : ℕ) (token : List ℕ) (tokens : List (List ℕ)) (p : ℕ) → base ≡ p → place base (token ∷ tokens) p ≡ Some token
place-first base token tokens p same =
    let n : p - base ≡ 0 = omega arith in
    place-from base (token ∷ tokens) p (omega arith) ∙ ap (slice_get (token ∷ tokens)) n

place-later : (base : ℕ) (token : List ℕ) (tokens : List (List ℕ)) (p : ℕ) → (base < p) ⊎ (p < base) → place base (token ∷ tokens) p ≡ place (base + 1) tokens p
place-later base token tokens p (inl above) =
    let n : p - base ≡ suc (p - (base + 1)) = omega arith in
    place-from base (token ∷ tokens) p (omega arith) ∙ ap (slice_get (token ∷ tokens)) n ∙ sym (place-from (base + 1) tokens p (omega arith))
place-later base token tokens p (inr below) = place-before base (token ∷ tokens) p below ∙ sym (place-before (base + 1) tokens p (omega arith))

place-within : (base : ℕ) (tokens : List (List ℕ)) (p : ℕ) (token : List ℕ) → place base tokens p ≡ Some token → p < base + length tokens
place-within base tokens p token e = elim (cases_lt p base) [
  | inl below ↦ omega arith
  | inr le ↦ let h : p - base < length tokens = slice_get_within tokens (p - base) token (sym (place-from base tokens p le) ∙ e) in omega arith
]

nowhere : (t : Bool) (token : List ℕ) → cond t None None ≡ Some token → ⊥
nowhere true token e = cc
nowhere false token e = cc

or_with_false : (x y : Bool) → y ≡ false → (x || y) ≡ x
or_with_false true y e = refl
or_with_false false y e = e

-- the word test, at tokens starting at base
any_at : (token : List ℕ) (p base : ℕ) (tokens : List (List ℕ)) → (list_any (is_word token p) (words_from base tokens) ≡ true) ↔ (place base tokens p ≡ Some token)
any_at token p base [] = (λ e. absurd (false≢true e), λ e. absurd (nowhere (leb base p) token e))
any_at token p base (first ∷ tokens) = by_order (cases_order base p) (any_at token p (base + 1) tokens)
  where
    by_order : (base ≡ p) ⊎ ((base < p) ⊎ (p < base)) → (list_any (is_word token p) (words_from (base + 1) tokens) ≡ true) ↔ (place (base + 1) tokens p ≡ Some token)
        → (list_any (is_word token p) (words_from base (first ∷ tokens)) ≡ true) ↔ (place base (first ∷ tokens) p ≡ Some token)
    by_order (inl same) later =
        let rest : list_any (is_word token p) (words_from (base + 1) tokens) ≡ false =
        false_from_ne_true _ (λ e. let none = place-before (base + 1) tokens p (omega arith) in let some = later.0 e in cc) in
        let here : list_any (is_word token p) (words_from base (first ∷ tokens)) ≡ bytes_eq first token =
        or_with_false ((eqb base p) && bytes_eq first token) _ rest ∙ ap (λ t. t && bytes_eq first token) (eq-eqb base p same) in
        let at = place-first base first tokens p same in
        (λ e. at ∙ ap (λ t. Some t) ((bytes_decides first token).0 (sym here ∙ e)), λ e. here ∙ (bytes_decides first token).1 cc)
    by_order (inr other) later =
        let test : (eqb base p) ≡ false = ne_eqb base p (λ same. elim other [ inl above ↦ omega arith | inr below ↦ omega arith ]) in
        let rest : list_any (is_word token p) (words_from base (first ∷ tokens)) ≡ list_any (is_word token p) (words_from (base + 1) tokens) =
        ap (λ t. (t && bytes_eq first token) || list_any (is_word token p) (words_from (base + 1) tokens)) test in
        let at = place-later base first tokens p other in
        (λ e. at ∙ later.0 (sym rest ∙ e), λ e. rest ∙ later.1 (sym at ∙ e))

-- no file has a word before the address from which the files are
none_before : (c : Collection) (p at id : ℕ) (files : List File) → AreFilesFrom c at id files → p < at → word_of_files files p ≡ None
none_before c p at id [] h below = refl
none_before c p at id (file ∷ files) h below =
    let le : at ≤ file.base = h.0 in
    ap (λ word. option_or word (word_of_files files p)) (place-before file.base (with_boundaries file.tokens) p (omega arith))
    ∙ none_before c p (file.base + width_of file.tokens) (file.id + 1) files h.5 (omega arith)

-- of two lists of words, the second of which has none if the first has one
one_of_two : (x y : Bool) (here later : Option (List ℕ)) (token : List ℕ) → (x ≡ true) ↔ (here ≡ Some token) → (y ≡ true) ↔ (later ≡ Some token) → ((t : List ℕ) → here ≡ Some t → later ≡ None)
    → (x || y ≡ true) ↔ (option_or here later ≡ Some token)
one_of_two x y None later token h k apart =
    let no_word : x ≡ false = false_from_ne_true x (λ e. let some = h.0 e in cc) in
    let rest : (x || y) ≡ y = ap (λ t. t || y) no_word in
    (λ e. k.0 (sym rest ∙ e), λ e. rest ∙ k.1 e)
one_of_two x y (Some t) later token h k apart =
    let none = apart t refl in
    let no_word : y ≡ false = false_from_ne_true y (λ e. let some = k.0 e in cc) in
    let first = or_with_false x y no_word in
    (λ e. h.0 (sym first ∙ e), λ e. first ∙ h.1 e)

words_at : (c : Collection) (p : ℕ) (token : List ℕ) (at id : ℕ) (files : List File) → AreFilesFrom c at id files
    → (holds (flat_map (λ file. words_from file.base (with_boundaries file.tokens)) files) token p ≡ true) ↔ (word_of_files files p ≡ Some token)
words_at c p token at id [] h = (λ e. absurd (false≢true e), λ e. absurd cc)
words_at c p token at id (file ∷ files) h =
    let end : ℕ = file.base + width_of file.tokens in
    let later = flat_map (λ other. words_from other.base (with_boundaries other.tokens)) files in
    let both = list_any-append (is_word token p) (words_from file.base (with_boundaries file.tokens)) later in
    let width = length-with_boundaries file.tokens in
    let one = one_of_two _ (holds later token p) (word_of_file file p) (word_of_files files p) token (any_at token p file.base (with_boundaries file.tokens)) (words_at c p token end (file.id + 1) files h.5)
    (λ t e. none_before c p end (file.id + 1) files h.5 (omega (arith, place-within file.base (with_boundaries file.tokens) p t e))) in
    (λ e. one.0 (sym both ∙ e), λ e. both ∙ one.1 e)

pub words_are_at_addresses : WordsAreAtAddresses
words_are_at_addresses c p token sound = words_at c p token c.first 0 c.files sound.files
