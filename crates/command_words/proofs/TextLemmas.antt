-- Words of the grammar are text.
use Rattle.std.proofs.Common.{◌≡◌, ◌∙◌, ◌∷◌, ◌++◌, ◌&&◌, ◌<◌, not, ℕ, Bool, true, false, List, [], length, Option, Some, None, option_map, option_and_then, refl, sym, ap, ap₂, codes, bytes_eq, nat_le, true≢false, append_assoc, get_or, ltb-true, leb-true, lt-ltb, arith, zero, suc}
use Rattle.std.specs.List.{All, list_all}
use Rattle.std.specs.Char.{is_ascii, is_ascii_digit}
use Rattle.std.specs.Str.{IsUtf8}
use Rattle.std.proofs.lemmas.List.Folds.{list_all-append, list_all_at}
use Rattle.std.proofs.lemmas.Slice.Eq.{bytes_eq-Decides}
use Rattle.std.proofs.lemmas.Str.{IsUtf8-from_ascii}
use Rattle.std.proofs.lemmas.Str.Ascii.{IsAscii-from_all}
use Rattle.std.proofs.lemmas.Bool.{and_parts, true_from_ne_false, false_from_ne_true}
use Rattle.std.proofs.lemmas.Option.{none-some}
use Rattle.script_lang.specs.Numbers.{is_number}
use Rattle.command_words.specs.declared.options.Options.{Options}
use Rattle.command_words.specs.Grammar.{Given, is_joined, is_option_name, options_in, options_of, pairs_of, parted}
use Rattle.command_words.proofs.PairLemmas.{bad_name, bad_value, each_name, pairs_of-joined, pairs_of-last, pairs_of-spaced, parted-joins}
use Rattle.command_words.proofs.ReadLemmas.{is_cons}

-- ASCII bytes that are not `--`
abbrev pub is_plain : List ℕ → Bool
is_plain word = list_all is_ascii word && not (bytes_eq word (codes "--"))

-- a digit is ASCII
digit_ascii : (b : ℕ) → is_ascii_digit b ≡ true → is_ascii b ≡ true
digit_ascii b digit = lt-ltb b 128 (omega (arith, leb-true b 57 (and_parts (nat_le 48 b) (nat_le b 57) digit).1))

-- so are digits, and with them numbers
digits_ascii : (text : List ℕ) → list_all is_ascii_digit text ≡ true → list_all is_ascii text ≡ true
digits_ascii [] all = refl
digits_ascii (b ∷ rest) all =
    let parts = and_parts (is_ascii_digit b) (list_all is_ascii_digit rest) all in
    ap₂ (λ x y. x && y) (digit_ascii b parts.0) (digits_ascii rest parts.1)

number_ascii : (text : List ℕ) → is_number text ≡ true → list_all is_ascii text ≡ true
number_ascii text number = digits_ascii text (and_parts (nat_le 1 (length text) && nat_le (length text) 18) (list_all is_ascii_digit text) number).1

-- a test that `--` fails is failed by no other word that it passes
not_end : (test : List ℕ → Bool) → test (codes "--") ≡ false → (word : List ℕ) → test word ≡ true → bytes_eq word (codes "--") ≡ false
not_end test fails word passes =
    false_from_ne_true (bytes_eq word (codes "--")) (λ same. true≢false (sym passes ∙ ap test ((bytes_eq-Decides word (codes "--")).0 same) ∙ fails))

-- numbers, names and what joins the two are plain
number_plain : (text : List ℕ) → is_number text ≡ true → is_plain text ≡ true
number_plain text number = ap₂ (λ x y. x && not y) (number_ascii text number) (not_end is_number refl text number)

name_plain : (name : List ℕ) → is_option_name name ≡ true → is_plain name ≡ true
name_plain = each_name (λ name. is_plain name ≡ true) refl refl refl refl

name_ascii : (name : List ℕ) → is_option_name name ≡ true → list_all is_ascii name ≡ true
name_ascii = each_name (λ name. list_all is_ascii name ≡ true) refl refl refl refl

joined_plain : (word : List ℕ) → is_joined word ≡ true → is_option_name (parted word).0 ≡ true → is_number (parted word).1 ≡ true → is_plain word ≡ true
joined_plain word has known number =
    let whole : list_all is_ascii word ≡ true = ap (list_all is_ascii) (parted-joins word has)
    ∙ list_all-append is_ascii (parted word).0 (61 ∷ (parted word).1) ∙ ap₂ (λ x y. x && y) (name_ascii (parted word).0 known) (number_ascii (parted word).1 number) in
    ap₂ (λ x y. x && not y) whole (not_end is_joined refl word has)

-- a pair of options that write something: its name is known, and its value a number
good_pair : (front : List Given) (given : Given) (rest : List Given) (options : Options) → options_in (front ++ given ∷ rest) ≡ Some options
    → (is_option_name given.0 ≡ true) × (is_number given.1 ≡ true)
good_pair front given rest options is = (
  true_from_ne_false (is_option_name given.0) (λ unknown. none-some options (sym (bad_name front given rest unknown) ∙ is)),
  true_from_ne_false (is_number given.1) (λ bad. none-some options (sym (bad_value front given rest bad) ∙ is)),
)

-- words after which the pairs are known to be plain
Below : List (List ℕ) → Type 0
Below words = (front pairs : List Given) (options : Options) → pairs_of words ≡ Some pairs → options_in (front ++ pairs) ≡ Some options → list_all is_plain words ≡ true

-- the pairs after the first one, with it in front
module _ (given : Given) (words rest : List (List ℕ)) (parts : pairs_of words ≡ option_map (λ pairs. given ∷ pairs) (pairs_of rest)) (below : Below rest)
    (front pairs : List Given) (options : Options) (is : pairs_of words ≡ Some pairs) (writes : options_in (front ++ pairs) ≡ Some options) where
  cut : (left : List Given) × (pairs_of rest ≡ Some left) × (pairs ≡ given ∷ left)
  cut = is_cons given (pairs_of rest) pairs (sym parts ∙ is)

  here : options_in (front ++ given ∷ cut.0) ≡ Some options
  here = sym (ap (λ xs. options_in (front ++ xs)) cut.2) ∙ writes

  first_good : (is_option_name given.0 ≡ true) × (is_number given.1 ≡ true)
  first_good = good_pair front given cut.0 options here

  rest_plain : list_all is_plain rest ≡ true
  unfolding Below
  rest_plain = below (front ++ given ∷ []) cut.0 options cut.1 (ap options_in (append_assoc front (given ∷ []) cut.0) ∙ here)

-- a joined word in front of such words
joined_below : (word : List ℕ) (rest : List (List ℕ)) → is_joined word ≡ true → Below rest → Below (word ∷ rest)
unfolding Below
joined_below word rest has below front pairs options is writes =
    let parts = pairs_of-joined word rest has in
    let good = first_good (parted word) (word ∷ rest) rest parts below front pairs options is writes in
    ap₂ (λ x y. x && y) (joined_plain word has good.0 good.1) (rest_plain (parted word) (word ∷ rest) rest parts below front pairs options is writes)

-- a name and its value in front of them
spaced_below : (word next : List ℕ) (rest : List (List ℕ)) → is_joined word ≡ false → Below rest → Below (word ∷ next ∷ rest)
unfolding Below
spaced_below word next rest lacks below front pairs options is writes =
    let parts = pairs_of-spaced word next rest lacks in
    let good = first_good (word, next) (word ∷ next ∷ rest) rest parts below front pairs options is writes in
    ap₂ (λ x y. x && y) (name_plain word good.0)
    (ap₂ (λ x y. x && y) (number_plain next good.1) (rest_plain (word, next) (word ∷ next ∷ rest) rest parts below front pairs options is writes))

-- all words that write options are plain
words_plain : (words : List (List ℕ)) → Below words
unfolding Below
words_plain [] = λ front pairs options is writes. refl
words_plain (word ∷ []) = go (is_joined word) refl (words_plain [])
  where
    go : (b : Bool) → is_joined word ≡ b → Below [] → Below (word ∷ [])
    go true has below = joined_below word [] has below
    go false lacks below = λ front pairs options is writes. absurd (none-some pairs (sym (pairs_of-last word lacks) ∙ is))
words_plain (word ∷ next ∷ rest) = go (is_joined word) refl (words_plain (next ∷ rest)) (words_plain rest)
  where
    go : (b : Bool) → is_joined word ≡ b → Below (next ∷ rest) → Below rest → Below (word ∷ next ∷ rest)
    go true has after below = joined_below word (next ∷ rest) has after
    go false lacks after below = spaced_below word next rest lacks below

-- a word that is not plain is outside the grammar
odd_word : (words : List (List ℕ)) (i : ℕ) (word : List ℕ) → i < length words → is_plain (get_or words i word) ≡ false → options_of words ≡ None
unfolding Below
odd_word words i word below odd = go (pairs_of words) refl
  where
    writes : (pairs : List Given) → pairs_of words ≡ Some pairs → (o : Option Options) → options_in pairs ≡ o → o ≡ None
    writes pairs is None none = refl
    writes pairs is (Some options) some = absurd (true≢false (sym (words_plain words [] pairs options is some) ∙ list_all_at is_plain words i word below odd))

    go : (o : Option (List Given)) → pairs_of words ≡ o → option_and_then options_in o ≡ None
    go None is = refl
    go (Some pairs) is = writes pairs is (options_in pairs) refl

-- bytes that are no text are no plain word
not_text : (word : List ℕ) → ¬ IsUtf8 word → is_plain word ≡ false
not_text word bad =
    ap (λ x. x && not (bytes_eq word (codes "--"))) (false_from_ne_true (list_all is_ascii word) (λ all. bad (IsUtf8-from_ascii word (IsAscii-from_all word (each word all)))))
  where
    each : (text : List ℕ) → list_all is_ascii text ≡ true → All (λ b. b < 128) text
    each [] e k d lt = absurd (omega arith)
    each (b ∷ rest) e zero d lt = ltb-true b 128 (and_parts (is_ascii b) (list_all is_ascii rest) e).0
    each (b ∷ rest) e (suc k) d lt = each rest (and_parts (is_ascii b) (list_all is_ascii rest) e).1 k d (omega arith)

-- nor is `--`
is_end : (word : List ℕ) → bytes_eq word (codes "--") ≡ true → is_plain word ≡ false
is_end word same = ap is_plain ((bytes_eq-Decides word (codes "--")).0 same)

-- a word that is no text is outside the grammar
pub no_text_outside : (words : List (List ℕ)) (i : ℕ) (word : List ℕ) → i < length words → word ≡ get_or words i word → ¬ IsUtf8 word → options_of words ≡ None
no_text_outside words i word below at bad = odd_word words i word below (ap is_plain (sym at) ∙ not_text word bad)

-- and so is `--`
pub end_outside : (words : List (List ℕ)) (i : ℕ) (word : List ℕ) → i < length words → word ≡ get_or words i word → bytes_eq word (codes "--") ≡ true → options_of words ≡ None
end_outside words i word below at same = odd_word words i word below (ap is_plain (sym at) ∙ is_end word same)
