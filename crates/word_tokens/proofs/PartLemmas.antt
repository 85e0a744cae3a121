-- Parts of a text: how much of it they take, and how many and how long their tokens are.
use Rattle.std.proofs.Common.{◌≡◌, ℕ, zero, suc, ◌+◌, ◌-◌, ◌<◌, ◌≤◌, Bool, true, false, cond, ◌==◌, List, [], ◌∷◌, ◌++◌, length, drop, map, Option, Some, None, take_while, refl, sym, ap, ◌∙◌, subst, arith, inl, inr, length-append, length-drop}
use Rattle.std.proofs.lemmas.List.{length-map}
use Rattle.std.specs.Char.{to_ascii_lowercase}
use Rattle.std.specs.List.{AllByRecursion}
use Rattle.std.proofs.lemmas.Bool.{cases_lt}
use Rattle.std.proofs.lemmas.List.Sums.{prefix_len-le-length}
use Rattle.std.proofs.lemmas.List.Folds.{length-prefix_len}
use Rattle.std.proofs.Math.ListN.{drop_of_length-le}
use Rattle.gcl_model.specs.Tokens.{Part, close_token, ends_with_byte, first_part, is_tag_byte, is_word_byte, name_at, open_token, part_or_separator, starts_with_byte, tag_behind, tag_tokens, tag_with_name, tokens_of}
use Rattle.gcl_model.specs.Collections.{IsToken}
use Rattle.gcl_model.proofs.Lists.{all_append, all_weaker}
use Rattle.gcl_model.proofs.Parts.{tokens_of-cons}
use Rattle.word_tokens.specs.Lexemes.{part_of}

-- a part of a text of n bytes: no token has more bytes than the part, and there are no more tokens than bytes
pub record FitsIn (n : ℕ) (part : Part) : Type 0 where
  pub some : 1 ≤ part.size
  pub fits : part.size ≤ n
  pub few : length part.tokens ≤ part.size
  pub short : AllByRecursion (λ token. length token ≤ part.size) part.tokens

abbrev OptionFits : ℕ → Option Part → Type 0
OptionFits n None = Unit {0}
OptionFits n (Some part) = FitsIn n part

take_while-le : (p : ℕ → Bool) (bytes : List ℕ) → length (take_while p bytes) ≤ length bytes
take_while-le p bytes = omega (arith, length-prefix_len p bytes, prefix_len-le-length p bytes)

ends_with_byte-some : (c : ℕ) (bytes : List ℕ) → ends_with_byte c bytes ≡ true → 1 ≤ length bytes
ends_with_byte-some c [] e = absurd cc
ends_with_byte-some c (b ∷ bytes) e = omega arith

-- what goes on with a byte at a place has that place
pub starts_with_byte-some : (c : ℕ) (bytes : List ℕ) (k : ℕ) → starts_with_byte c (drop k bytes) ≡ true → k < length bytes
starts_with_byte-some c bytes k e = elim (cases_lt k (length bytes)) [
  | inl below ↦ below
  | inr past ↦ let none : starts_with_byte c (drop k bytes) ≡ false = ap (starts_with_byte c) (drop_of_length-le bytes past) in absurd cc
]

length-open : (name : List ℕ) → length (open_token (map to_ascii_lowercase name)) ≡ length name + 2
length-open name = omega (arith, length-append (map to_ascii_lowercase name) (62 ∷ []), length-map name to_ascii_lowercase)

length-close : (name : List ℕ) → length (close_token (map to_ascii_lowercase name)) ≡ length name + 3
length-close name = omega (arith, length-append (map to_ascii_lowercase name) (62 ∷ []), length-map name to_ascii_lowercase)

record TokensFit (size : ℕ) (tokens : List (List ℕ)) : Type 0 where
  few : length tokens ≤ size
  short : AllByRecursion (λ token. length token ≤ size) tokens

tag_tokens_fit : (closing : Bool) (name between : List ℕ) → TokensFit (cond closing 2 1 + length name + length between + 1) (tag_tokens closing name between)
tag_tokens_fit true name between = record { few = omega arith; short = (omega (arith, length-close name), tt) }
tag_tokens_fit false name between = by_end (ends_with_byte 47 between) (ends_with_byte-some 47 between)
  where
    by_end : (s : Bool) → (s ≡ true → 1 ≤ length between)
        → TokensFit (1 + length name + length between + 1) (cond s (open_token (map to_ascii_lowercase name) ∷ close_token (map to_ascii_lowercase name) ∷ []) (open_token (map to_ascii_lowercase name) ∷ []))
    by_end true slash = let some : 1 ≤ length between = slash refl in
        record { few = omega arith; short = (omega (arith, length-open name), (omega (arith, length-close name), tt)) }
    by_end false slash = record { few = omega arith; short = (omega (arith, length-open name), tt) }

tag_with_name_fits : (n : ℕ) (closing : Bool) (name bytes : List ℕ) → cond closing 2 1 + length bytes ≤ n → OptionFits n (tag_with_name closing (cond closing 2 1) name bytes)
tag_with_name_fits n closing [] bytes le = tt
tag_with_name_fits n closing (b ∷ name) bytes le =
    let after = drop (length (b ∷ name)) bytes in
    let between = take_while is_tag_byte after in
    let tokens = tag_tokens_fit closing (b ∷ name) between in
    by_bracket _ _ (λ e.
    let within : length between < length after = starts_with_byte-some 62 after (length between) e in
    record {
      some = omega arith;
      fits = omega (arith, length-drop (length (b ∷ name)) bytes);
      few = tokens.few;
      short = tokens.short;
    })
  where
    by_bracket : (s : Bool) (part : Part) → (s ≡ true → FitsIn n part) → OptionFits n (cond s (Some part) None)
    by_bracket true part h = h refl
    by_bracket false part h = tt

tag_behind_fits : (bytes : List ℕ) → OptionFits (suc (length bytes)) (tag_behind bytes)
tag_behind_fits bytes = by_slash (starts_with_byte 47 bytes) (λ e. starts_with_byte-some 47 bytes 0 e)
  where
    by_slash : (closing : Bool) → (closing ≡ true → 0 < length bytes)
        → OptionFits (suc (length bytes)) (tag_with_name closing (cond closing 2 1) (name_at (cond closing (drop 1 bytes) bytes)) (cond closing (drop 1 bytes) bytes))
    by_slash true some = let h : 0 < length bytes = some refl in tag_with_name_fits _ true (name_at (drop 1 bytes)) (drop 1 bytes) (omega (arith, length-drop 1 bytes))
    by_slash false some = tag_with_name_fits _ false (name_at bytes) bytes (omega arith)

separator_fits : (n : ℕ) (part : Option Part) → 1 ≤ n → OptionFits n part → FitsIn n (part_or_separator part)
separator_fits n None le h = record { some = omega arith; fits = le; few = omega arith; short = tt }
separator_fits n (Some part) le h = h

cond_fits : (n : ℕ) (c : Bool) (p q : Part) → FitsIn n p → FitsIn n q → FitsIn n (cond c p q)
cond_fits n true p q h k = h
cond_fits n false p q h k = k

option_fits : (n : ℕ) (c : Bool) (part : Option Part) → OptionFits n part → OptionFits n (cond c part None)
option_fits n true part h = h
option_fits n false part h = tt

first_part_fits : (b : ℕ) (bytes : List ℕ) → FitsIn (suc (length bytes)) (first_part b bytes)
first_part_fits b bytes =
    let n = suc (length bytes) in
    let word = b ∷ take_while is_word_byte bytes in
    let tag = cond (b == 60) (tag_behind bytes) None in
    cond_fits n (is_word_byte b) record { size = length word; tokens = map to_ascii_lowercase word ∷ [] } (part_or_separator tag)
    record {
      some = omega arith;
      fits = omega (arith, take_while-le is_word_byte bytes);
      few = omega arith;
      short = (omega (arith, length-map word to_ascii_lowercase), tt);
    }
    (separator_fits n tag (omega arith) (option_fits n (b == 60) (tag_behind bytes) (tag_behind_fits bytes)))

pub part_of_fits : (text : List ℕ) → 0 < length text → FitsIn (length text) (part_of text)
part_of_fits [] some = absurd (omega arith)
part_of_fits (b ∷ bytes) some = first_part_fits b bytes

-- the tokens of a text are those of its first part, and those of the rest
pub tokens_of-part : (text : List ℕ) → tokens_of text ≡ (part_of text).tokens ++ tokens_of (drop (part_of text).size text)
tokens_of-part [] = refl
tokens_of-part (b ∷ bytes) = tokens_of-cons b bytes

short_in_longer : (m n : ℕ) (tokens : List (List ℕ)) → m ≤ n → AllByRecursion (λ token. length token ≤ m) tokens → AllByRecursion (λ token. length token ≤ n) tokens
short_in_longer m n tokens le = all_weaker (λ token. length token ≤ m) (λ token. length token ≤ n) (λ token short. omega arith) tokens

-- no token has more bytes than the text
short_tokens : (n : ℕ) (text : List ℕ) → length text ≤ n → AllByRecursion (λ token. length token ≤ length text) (tokens_of text)
short_tokens n [] le = tt
short_tokens zero (b ∷ bytes) le = absurd (omega arith)
short_tokens (suc n) (b ∷ bytes) le =
    let part = first_part b bytes in
    let fit = first_part_fits b bytes in
    let some : 1 ≤ part.size = fit.some in
    let fits : part.size ≤ suc (length bytes) = fit.fits in
    let rest : List ℕ = drop part.size (b ∷ bytes) in
    let shorter : length rest ≡ suc (length bytes) - part.size = length-drop part.size (b ∷ bytes) in
    subst (AllByRecursion (λ token. length token ≤ suc (length bytes))) (sym (tokens_of-cons b bytes))
    (all_append (λ token. length token ≤ suc (length bytes)) part.tokens (tokens_of rest) (short_in_longer part.size (suc (length bytes)) part.tokens fits fit.short)
    (short_in_longer (length rest) (suc (length bytes)) (tokens_of rest) (omega arith) (short_tokens n rest (omega arith))))

few_by : (n : ℕ) (text : List ℕ) → length text ≤ n → length (tokens_of text) ≤ length text
few_by n [] le = omega arith
few_by zero (b ∷ bytes) le = absurd (omega arith)
few_by (suc n) (b ∷ bytes) le =
    let part = first_part b bytes in
    let fit = first_part_fits b bytes in
    let some : 1 ≤ part.size = fit.some in
    let fits : part.size ≤ suc (length bytes) = fit.fits in
    let few : length part.tokens ≤ part.size = fit.few in
    let rest : List ℕ = drop part.size (b ∷ bytes) in
    let shorter : length rest ≡ suc (length bytes) - part.size = length-drop part.size (b ∷ bytes) in
    let fewer : length (tokens_of rest) ≤ length rest = few_by n rest (omega arith) in
    let all : length (tokens_of (b ∷ bytes)) ≡ length part.tokens + length (tokens_of rest) = ap length (tokens_of-cons b bytes) ∙ length-append part.tokens (tokens_of rest) in
    omega arith

-- there are no more tokens than bytes
pub few_tokens : (text : List ℕ) → length (tokens_of text) ≤ length text
few_tokens text = few_by (length text) text (omega arith)

-- no token of a text has more bytes than the text
shorter : (m n : ℕ) (text : List ℕ) → length text ≤ n → n ≤ m → AllByRecursion (λ (t : List ℕ). length t ≤ m) (tokens_of text)
shorter m n [] le within = tt
shorter m zero (b ∷ bytes) le within = absurd (omega arith)
shorter m (suc n) (b ∷ bytes) le within =
    let text : List ℕ = b ∷ bytes in
    let fit = part_of_fits (b ∷ bytes) (omega arith) in
    let some : 1 ≤ (part_of (b ∷ bytes)).size = fit.some in
    let fits : (part_of (b ∷ bytes)).size ≤ length (b ∷ bytes) = fit.fits in
    let rest : List ℕ = drop (part_of (b ∷ bytes)).size (b ∷ bytes) in
    let less = length-drop (part_of (b ∷ bytes)).size (b ∷ bytes) in
    subst (AllByRecursion (λ (t : List ℕ). length t ≤ m)) (sym (tokens_of-part (b ∷ bytes)))
    (all_append (λ (t : List ℕ). length t ≤ m) (part_of (b ∷ bytes)).tokens (tokens_of rest)
    (all_weaker (λ (t : List ℕ). length t ≤ (part_of (b ∷ bytes)).size) (λ (t : List ℕ). length t ≤ m) (λ t short. omega (arith, short, fits, le, within)) (part_of (b ∷ bytes)).tokens fit.short)
    (shorter m n rest (omega (arith, less, some, fits, le)) (omega (arith, within))))

pub tokens_within : (text : List ℕ) → AllByRecursion (λ (t : List ℕ). length t ≤ length text) (tokens_of text)
tokens_within text = shorter (length text) (length text) text (omega arith) (omega arith)

-- a text is a token if it is the one token of its first part
pub token_from_part : (text : List ℕ) → (part_of text).size ≡ length text → (part_of text).tokens ≡ text ∷ [] → IsToken text
token_from_part text size tokens =
    tokens_of-part text ∙ ap (λ ts. ts ++ tokens_of (drop (part_of text).size text)) tokens
    ∙ ap (λ rest. text ∷ tokens_of rest) (drop_of_length-le text (omega arith))

-- and only there
pub record IsWholePart (text : List ℕ) (part : Part) : Type 0 where
  pub size : part.size ≡ length text
  pub tokens : part.tokens ≡ text ∷ []

pub part_from_token : (text : List ℕ) → 0 < length text → IsToken text → IsWholePart text (part_of text)
part_from_token text some is =
    let fit = part_of_fits text some in
    let rest : List ℕ = drop (part_of text).size text in
    by_tokens (part_of text).size (part_of text).tokens (tokens_of rest) fit.some fit.fits fit.short
    (let shorter : length rest ≡ length text - (part_of text).size = length-drop (part_of text).size text in
    let less : 1 ≤ (part_of text).size = fit.some in
    short_in_longer (length rest) (length text - 1) (tokens_of rest) (omega arith) (short_tokens (length rest) rest (omega arith)))
    (sym (tokens_of-part text) ∙ is)
  where
    by_tokens : (size : ℕ) (tokens others : List (List ℕ)) → 1 ≤ size → size ≤ length text → AllByRecursion (λ token. length token ≤ size) tokens
        → AllByRecursion (λ token. length token ≤ length text - 1) others → tokens ++ others ≡ text ∷ [] → IsWholePart text record { size = size; tokens = tokens }
    by_tokens size [] [] first fits short shorter e = absurd cc
    by_tokens size [] (token ∷ others) first fits short shorter e =
        let same : token ≡ text = cc in
        let le : length token ≤ length text - 1 = shorter.0 in absurd (omega (arith, ap length same))
    by_tokens size (token ∷ []) others first fits short shorter e =
        let same : token ≡ text = cc in
        let le : length token ≤ size = short.0 in
        record { size = omega (arith, ap length same); tokens = ap (λ t. t ∷ []) same }
    by_tokens size (token ∷ next ∷ tokens) others first fits short shorter e =
        let none : next ∷ (tokens ++ others) ≡ [] = cc in absurd cc
