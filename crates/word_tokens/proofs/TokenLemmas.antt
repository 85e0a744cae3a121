-- Each token of a text is a token by itself.
use Rattle.std.proofs.Common.{◌≡◌, ℕ, zero, suc, ◌+◌, ◌<◌, ◌≤◌, Bool, true, false, cond, ◌==◌, List, [], ◌∷◌, ◌++◌, length, drop, map, Option, Some, None, take_while, refl, sym, ap, ◌∙◌, subst, arith, length-append, length-drop}
use Rattle.std.specs.Char.{to_ascii_lowercase, is_ascii_alphabetic}
use Rattle.std.specs.List.{AllByRecursion}
use Rattle.std.proofs.lemmas.Bool.{cond_both}
use Rattle.std.proofs.lemmas.Bool.Decides.{nat_tests}
use Rattle.std.proofs.lemmas.List.{length-map, take_all, drop_at}
use Rattle.std.proofs.lemmas.List.Sums.{take_while-cons}
use Rattle.std.proofs.lemmas.Str.Ascii.{lowercase-lowercase}
use Rattle.gcl_model.specs.Tokens.{Part, close_token, ends_with_byte, first_part, is_name_byte, is_tag_byte, is_word_byte, name_at, open_token, part_or_separator, starts_with_byte, tag_behind, tag_tokens, tag_with_name, tokens_of}
use Rattle.gcl_model.specs.Collections.{IsToken}
use Rattle.gcl_model.specs.Laws.{TokensAreTokens}
use Rattle.gcl_model.proofs.Lists.{all_append}
use Rattle.gcl_model.proofs.Parts.{tokens_of-cons, first_part_size}
use Rattle.word_tokens.specs.Lexemes.{tag_end}
use Rattle.word_tokens.proofs.FrontLemmas.{name_at-letter, part_of-word, tag_with_name-some}
use Rattle.word_tokens.proofs.PartLemmas.{token_from_part}

-- each of the bytes passes the test
abbrev pub AllPass : (ℕ → Bool) → List ℕ → Type 0
AllPass p bytes = AllByRecursion (λ b. p b ≡ true) bytes

-- a letter, and bytes of a name after it; or nothing
abbrev pub IsName : List ℕ → Type 0
IsName [] = Unit {0}
IsName (b ∷ bytes) = (is_ascii_alphabetic b ≡ true) × AllPass is_name_byte bytes

word_byte-lower : (b : ℕ) → is_word_byte b ≡ true → is_word_byte (to_ascii_lowercase b) ≡ true
word_byte-lower b e = grind (arith, nat_tests)

letter-lower : (b : ℕ) → is_ascii_alphabetic b ≡ true → is_ascii_alphabetic (to_ascii_lowercase b) ≡ true
letter-lower b e = grind (arith, nat_tests)

name_byte-lower : (b : ℕ) → is_name_byte b ≡ true → is_name_byte (to_ascii_lowercase b) ≡ true
name_byte-lower b e = grind (arith, nat_tests)

name_byte-letter : (b : ℕ) → is_ascii_alphabetic b ≡ true → is_name_byte b ≡ true
name_byte-letter b e = grind (arith, nat_tests)

letter-slash : (b : ℕ) → is_ascii_alphabetic b ≡ true → (b == 47) ≡ false
letter-slash b e = grind (arith, nat_tests)

all_lower : (p : ℕ → Bool) → ((b : ℕ) → p b ≡ true → p (to_ascii_lowercase b) ≡ true) → (bytes : List ℕ) → AllPass p bytes → AllPass p (map to_ascii_lowercase bytes)
all_lower p lower [] h = tt
all_lower p lower (b ∷ bytes) h = (lower b h.0, all_lower p lower bytes h.1)

name-lower : (name : List ℕ) → IsName name → IsName (map to_ascii_lowercase name)
name-lower [] h = tt
name-lower (b ∷ name) h = (letter-lower b h.0, all_lower is_name_byte name_byte-lower name h.1)

lower-lower : (bytes : List ℕ) → map to_ascii_lowercase (map to_ascii_lowercase bytes) ≡ map to_ascii_lowercase bytes
lower-lower [] = refl
lower-lower (b ∷ bytes) = ap (λ c. c ∷ map to_ascii_lowercase (map to_ascii_lowercase bytes)) (lowercase-lowercase b) ∙ ap (λ cs. to_ascii_lowercase b ∷ cs) (lower-lower bytes)

take_while-yes : (p : ℕ → Bool) (b : ℕ) (bytes : List ℕ) → p b ≡ true → take_while p (b ∷ bytes) ≡ b ∷ take_while p bytes
take_while-yes p b bytes e = take_while-cons p b bytes ∙ ap (λ t. cond t (b ∷ take_while p bytes) []) e

take_while-no : (p : ℕ → Bool) (b : ℕ) (bytes : List ℕ) → p b ≡ false → take_while p (b ∷ bytes) ≡ []
take_while-no p b bytes e = take_while-cons p b bytes ∙ ap (λ t. cond t (b ∷ take_while p bytes) []) e

-- a run ends before the first byte that fails
take_while-all : (p : ℕ → Bool) (bytes : List ℕ) → AllPass p bytes → take_while p bytes ≡ bytes
take_while-all p [] h = refl
take_while-all p (b ∷ bytes) h = take_while-yes p b bytes h.0 ∙ ap (λ run. b ∷ run) (take_while-all p bytes h.1)

take_while-stop : (p : ℕ → Bool) (bytes : List ℕ) (stop : ℕ) → AllPass p bytes → p stop ≡ false → take_while p (bytes ++ stop ∷ []) ≡ bytes
take_while-stop p [] stop h e = take_while-no p stop [] e
take_while-stop p (b ∷ bytes) stop h e = take_while-yes p b (bytes ++ stop ∷ []) h.0 ∙ ap (λ run. b ∷ run) (take_while-stop p bytes stop h.1 e)

-- the bytes of a run pass
take_while-passes : (p : ℕ → Bool) (bytes : List ℕ) → AllPass p (take_while p bytes)
take_while-passes p [] = tt
take_while-passes p (b ∷ bytes) = by_byte (p b) refl (take_while-passes p bytes)
  where
    by_byte : (t : Bool) → p b ≡ t → AllPass p (take_while p bytes) → AllPass p (take_while p (b ∷ bytes))
    by_byte true e rest = subst (AllPass p) (sym (take_while-yes p b bytes e)) (e, rest)
    by_byte false e rest = subst (AllPass p) (sym (take_while-no p b bytes e)) tt

name_at-IsName : (bytes : List ℕ) → IsName (name_at bytes)
name_at-IsName [] = tt
name_at-IsName (b ∷ bytes) = cond_both (is_ascii_alphabetic b) (b ∷ take_while is_name_byte bytes) [] IsName (λ e. (e, take_while-passes is_name_byte bytes)) (λ e. tt)

-- a word in lower case is a token
word_is_token : (word : List ℕ) → 0 < length word → AllPass is_word_byte word → IsToken (map to_ascii_lowercase word)
word_is_token word some h =
    let text = map to_ascii_lowercase word in
    let size : length text ≡ length word = length-map word to_ascii_lowercase in
    let run : length text ≡ length (take_while is_word_byte text) = sym (ap length (take_while-all is_word_byte text (all_lower is_word_byte word_byte-lower word h))) in
    let part = part_of-word text (length text) run (omega arith) in
    token_from_part text (ap (λ p. p.size) part)
    (ap (λ p. p.tokens) part ∙ ap (λ bytes. map to_ascii_lowercase bytes ∷ []) (take_all (length text) text (omega arith)) ∙ ap (λ bytes. bytes ∷ []) (lower-lower word))

-- the tag of a name that is between brackets
tag_of_name : (closing : Bool) (opened : ℕ) (name : List ℕ) → 0 < length name → IsName name
    → tag_with_name closing opened (name_at (name ++ 62 ∷ [])) (name ++ 62 ∷ []) ≡ Some record { size = opened + length name + 0 + 1; tokens = tag_tokens closing name [] }
tag_of_name closing opened [] some h = absurd (omega arith)
tag_of_name closing opened (b ∷ name) some h =
    let inside = b ∷ (name ++ 62 ∷ []) in
    let all : AllPass is_name_byte (b ∷ name) = (name_byte-letter b h.0, h.1) in
    let at : name_at inside ≡ b ∷ name = name_at-letter inside h.0 ∙ take_while-stop is_name_byte (b ∷ name) 62 all refl in
    ap (λ n. tag_with_name closing opened n inside) at
    ∙ tag_with_name-some closing opened (b ∷ name) inside 0 (omega arith) (ap tag_end (drop_at (b ∷ name) (62 ∷ []) (length (b ∷ name)) refl))

opening_is_token : (name : List ℕ) → 0 < length name → IsName name → map to_ascii_lowercase name ≡ name → IsToken (open_token name)
opening_is_token [] some h lower = absurd (omega arith)
opening_is_token (b ∷ name) some h lower =
    let bytes = b ∷ (name ++ 62 ∷ []) in
    let tag : tag_behind bytes ≡ tag_with_name false 1 (name_at bytes) bytes =
    ap (λ closing. tag_with_name closing (cond closing 2 1) (name_at (cond closing (drop 1 bytes) bytes)) (cond closing (drop 1 bytes) bytes)) (letter-slash b h.0) in
    let part = ap part_or_separator (tag ∙ tag_of_name false 1 (b ∷ name) (omega arith) h) in
    token_from_part (open_token (b ∷ name)) (ap (λ p. p.size) part ∙ omega (arith, length-append name (62 ∷ [])))
    (ap (λ p. p.tokens) part ∙ ap (λ n. open_token n ∷ []) lower)

closing_is_token : (name : List ℕ) → 0 < length name → IsName name → map to_ascii_lowercase name ≡ name → IsToken (close_token name)
closing_is_token name some h lower =
    let part = ap part_or_separator (tag_of_name true 2 name some h) in
    token_from_part (close_token name) (ap (λ p. p.size) part ∙ omega (arith, length-append name (62 ∷ [])))
    (ap (λ p. p.tokens) part ∙ ap (λ n. close_token n ∷ []) lower)

-- the tokens of a part are tokens
abbrev OptionTokens : Option Part → Type 0
OptionTokens None = Unit {0}
OptionTokens (Some part) = AllByRecursion IsToken part.tokens

tag_tokens_are_tokens : (closing : Bool) (name between : List ℕ) → 0 < length name → IsName name → AllByRecursion IsToken (tag_tokens closing name between)
tag_tokens_are_tokens closing name between some h =
    let lower = map to_ascii_lowercase name in
    let size : length lower ≡ length name = length-map name to_ascii_lowercase in
    by_kind closing (ends_with_byte 47 between) (opening_is_token lower (omega arith) (name-lower name h) (lower-lower name)) (closing_is_token lower (omega arith) (name-lower name h) (lower-lower name))
  where
    by_kind : (closing slash : Bool) → IsToken (open_token (map to_ascii_lowercase name)) → IsToken (close_token (map to_ascii_lowercase name))
        → AllByRecursion IsToken
        (cond closing (close_token (map to_ascii_lowercase name) ∷ [])
        (cond slash (open_token (map to_ascii_lowercase name) ∷ close_token (map to_ascii_lowercase name) ∷ []) (open_token (map to_ascii_lowercase name) ∷ [])))
    by_kind true slash opening closing = (closing, tt)
    by_kind false true opening closing = (opening, (closing, tt))
    by_kind false false opening closing = (opening, tt)

tag_with_name_tokens : (closing : Bool) (opened : ℕ) (name bytes : List ℕ) → IsName name → OptionTokens (tag_with_name closing opened name bytes)
tag_with_name_tokens closing opened [] bytes h = tt
tag_with_name_tokens closing opened (b ∷ name) bytes h =
    let after = drop (length (b ∷ name)) bytes in
    by_bracket _ _ (tag_tokens_are_tokens closing (b ∷ name) (take_while is_tag_byte after) (omega arith) h)
  where
    by_bracket : (s : Bool) (part : Part) → AllByRecursion IsToken part.tokens → OptionTokens (cond s (Some part) None)
    by_bracket true part h = h
    by_bracket false part h = tt

separator_tokens : (part : Option Part) → OptionTokens part → AllByRecursion IsToken (part_or_separator part).tokens
separator_tokens None h = tt
separator_tokens (Some part) h = h

first_part_tokens : (b : ℕ) (bytes : List ℕ) → AllByRecursion IsToken (first_part b bytes).tokens
first_part_tokens b bytes =
    let word = b ∷ take_while is_word_byte bytes in
    let inside = cond (starts_with_byte 47 bytes) (drop 1 bytes) bytes in
    let tag = cond (b == 60) (tag_behind bytes) None in
    cond_both (is_word_byte b) record { size = length word; tokens = map to_ascii_lowercase word ∷ [] } (part_or_separator tag) (λ part. AllByRecursion IsToken part.tokens)
    (λ e. (word_is_token word (omega arith) (e, take_while-passes is_word_byte bytes), tt))
    (λ e. separator_tokens tag (cond_both (b == 60) (tag_behind bytes) None OptionTokens
    (λ f. tag_with_name_tokens (starts_with_byte 47 bytes) (cond (starts_with_byte 47 bytes) 2 1) (name_at inside) inside (name_at-IsName inside))
    (λ f. tt)))

tokens_by : (n : ℕ) (bytes : List ℕ) → length bytes ≤ n → AllByRecursion IsToken (tokens_of bytes)
tokens_by n [] le = tt
tokens_by zero (b ∷ bytes) le = absurd (omega arith)
tokens_by (suc n) (b ∷ bytes) le =
    let part = first_part b bytes in
    let some : 1 ≤ part.size = first_part_size b bytes in
    let rest : List ℕ = drop part.size (b ∷ bytes) in
    subst (AllByRecursion IsToken) (sym (tokens_of-cons b bytes))
    (all_append IsToken part.tokens (tokens_of rest) (first_part_tokens b bytes) (tokens_by n rest (omega (arith, length-drop part.size (b ∷ bytes)))))

pub tokens_are_tokens : TokensAreTokens
tokens_are_tokens bytes = tokens_by (length bytes) bytes (omega arith)
