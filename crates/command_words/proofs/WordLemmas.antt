-- What a word looks like to clap and to the grammar.
use Rattle.std.proofs.Common.{◌≡◌, ◌∙◌, ◌∷◌, ◌++◌, ◌||◌, ◌&&◌, ℕ, Bool, true, false, [], length, Option, Some, None, is_some, option_and_then, unwrap_or, refl, sym, ap, ap₂, subst, nat_eq, nat_le, true≢false, cond, eqb-true}
use Rattle.std.proofs.lemmas.Bool.{and_parts, false_from_ne_true}
use Rattle.std.proofs.lemmas.Option.{none-some}
use Rattle.std.specs.List.{before_first, after_first, list_all}
use Rattle.std.specs.Char.{is_ascii_digit}
use Rattle.clap.specs.Lexer.{long_of, long_of_rest, name_and_value, short_of, short_of_rest, strip_byte}
use Rattle.clap.specs.Walk.{Text}
use Rattle.command_words.specs.Grammar.{Given, is_equals, is_joined, parted, is_option_name}
use Rattle.script_lang.specs.Numbers.{is_number}
use Rattle.command_words.proofs.PairLemmas.{each_name, parted-joins, parted-more}

-- ---- long words

-- what is left behind a first hyphen
stripped : (word rest : Text) → strip_byte 45 word ≡ Some rest → word ≡ 45 ∷ rest
stripped [] rest is = absurd (none-some rest is)
stripped (b ∷ bs) rest is = go (nat_eq b 45) refl is
  where
    go : (t : Bool) → nat_eq b 45 ≡ t → cond t (Some bs) None ≡ Some rest → b ∷ bs ≡ 45 ∷ rest
    go true same is = ap₂ (λ (x : ℕ) (xs : Text). x ∷ xs) (eqb-true b 45 same) (ap (λ o. unwrap_or o bs) is)
    go false other is = absurd (none-some rest is)

-- without an `=` all of a text comes before the first one
before_all : (text : Text) → is_joined text ≡ false → before_first is_equals text ≡ text
before_all [] none = refl
before_all (b ∷ bs) none = go (nat_eq b 61) refl none (before_all bs)
  where
    go : (t : Bool) → nat_eq b 61 ≡ t → (t || is_joined bs) ≡ false → (is_joined bs ≡ false → before_first is_equals bs ≡ bs) → before_first is_equals (b ∷ bs) ≡ b ∷ bs
    go true same none below = absurd (true≢false none)
    go false other none below = ap (λ (p : Given). p.0) (parted-more b bs other) ∙ ap (λ xs. b ∷ xs) (below none)

-- a long word is `--name=value` or `--name`
pub data LongWord (word name : Text) (value : Option Text) : Type 0 where
  joined : (text : Text) → value ≡ Some text → is_joined word ≡ true → parted word ≡ (45 ∷ 45 ∷ name, text) → LongWord word name value
  spaced : value ≡ None → is_joined word ≡ false → word ≡ 45 ∷ 45 ∷ name → LongWord word name value

-- the same of a word by what follows its two hyphens
long_word-rest : (rest : Text) → LongWord (45 ∷ 45 ∷ rest) (name_and_value rest).0 (name_and_value rest).1
long_word-rest rest = go (is_joined rest) refl
  where
    go : (b : Bool) → is_joined rest ≡ b → LongWord (45 ∷ 45 ∷ rest) (name_and_value rest).0 (name_and_value rest).1
    go true has = joined (after_first is_equals rest) (rw has refl) has
        (parted-more 45 (45 ∷ rest) refl ∙ ap (λ (p : Given). (45 ∷ p.0, p.1)) (parted-more 45 rest refl))
    go false lacks = spaced (rw lacks refl) lacks (ap (λ (t : Text). 45 ∷ 45 ∷ t) (sym (before_all rest lacks)))

-- a word that clap reads as a long one is such a word
pub long_word : (word name : Text) (value : Option Text) → long_of word ≡ Some (name, value) → LongWord word name value
long_word word name value long = go (strip_byte 45 word) refl long
  where
    named : (t u : Text) → word ≡ 45 ∷ t → t ≡ 45 ∷ u → long_of_rest u ≡ Some (name, value) → LongWord word name value
    named t [] first second is = absurd (none-some (name, value) is)
    named t (x ∷ xs) first second is =
        let whole : 45 ∷ 45 ∷ x ∷ xs ≡ word = sym (first ∙ ap (λ (v : Text). 45 ∷ v) second) in
        let parts : name_and_value (x ∷ xs) ≡ (name, value) = ap (λ o. unwrap_or o (name, value)) is in
        subst (λ (p : Text × Option Text). LongWord word p.0 p.1) parts
        (subst (λ (v : Text). LongWord v (name_and_value (x ∷ xs)).0 (name_and_value (x ∷ xs)).1) whole (long_word-rest (x ∷ xs)))

    again : (t : Text) (o : Option Text) → word ≡ 45 ∷ t → strip_byte 45 t ≡ o → option_and_then long_of_rest o ≡ Some (name, value) → LongWord word name value
    again t None first none is = absurd (none-some (name, value) is)
    again t (Some u) first second is = named t u first (stripped t u second) is

    go : (o : Option Text) → strip_byte 45 word ≡ o → option_and_then long_of_rest (option_and_then (strip_byte 45) o) ≡ Some (name, value) → LongWord word name value
    go None none is = absurd (none-some (name, value) is)
    go (Some t) first is = again t (strip_byte 45 t) (stripped word t first) refl is

-- ---- words of the grammar

-- the name of an option is no joined word
pub name_apart : (name : Text) → is_option_name name ≡ true → is_joined name ≡ false
name_apart = each_name (λ name. is_joined name ≡ false) refl refl refl refl

-- a word that is not long begins with the name of no option
pub no_name : (word : Text) → long_of word ≡ None → is_option_name word ≡ false
no_name word short =
    false_from_ne_true (is_option_name word)
    (λ known. each_name (λ name. None ≡ long_of name → ⊥) (none-some _) (none-some _) (none-some _) (none-some _) word known (sym short))

-- nor does one with a value joined to it
pub no_joined_name : (word : Text) → is_joined word ≡ true → long_of word ≡ None → is_option_name (parted word).0 ≡ false
no_joined_name word has short =
    false_from_ne_true (is_option_name (parted word).0)
    (λ known. each_name (λ name. None ≡ long_of (name ++ 61 ∷ (parted word).1) → ⊥) (none-some _) (none-some _) (none-some _) (none-some _) (parted word).0 known
    (subst (λ (w : Text). None ≡ long_of w) (parted-joins word has) (sym short)))

-- a number does not begin with a hyphen
pub number_stripped : (word : Text) → is_number word ≡ true → strip_byte 45 word ≡ None
number_stripped [] number = absurd (true≢false (sym number))
number_stripped (b ∷ bs) number =
    let digits = (and_parts (nat_le 1 (length (b ∷ bs)) && nat_le (length (b ∷ bs)) 18) (list_all is_ascii_digit (b ∷ bs)) number).1 in
    let digit = (and_parts (is_ascii_digit b) (list_all is_ascii_digit bs) digits).0 in
    let other : nat_eq b 45 ≡ false = false_from_ne_true (nat_eq b 45) (λ same. true≢false (sym (sym (ap is_ascii_digit (eqb-true b 45 same)) ∙ digit))) in
    rw other refl

-- so a long word is none
pub long_no_number : (word name : Text) (value : Option Text) → long_of word ≡ Some (name, value) → is_number word ≡ false
long_no_number word name value long =
    false_from_ne_true (is_number word)
    (λ number. none-some (name, value) (sym (ap (λ o. option_and_then long_of_rest (option_and_then (strip_byte 45) o)) (number_stripped word number)) ∙ long))

-- nor is a short one
pub short_no_number : (word : Text) → is_some (short_of word) ≡ true → is_number word ≡ false
short_no_number word short =
    false_from_ne_true (is_number word) (λ number. true≢false (sym short ∙ ap (λ o. is_some (option_and_then short_of_rest o)) (number_stripped word number)))
