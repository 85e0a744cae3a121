-- A part by itself is the same part, and bytes of no word give no token.
use Rattle.std.proofs.Common.{◌≡◌, ℕ, zero, suc, ◌+◌, ◌-◌, ◌<◌, ◌≤◌, Bool, true, false, cond, ◌==◌, List, [], ◌∷◌, ◌++◌, length, take, drop, map, Option, Some, None, take_while, inl, inr, refl, sym, ap, ◌∙◌, arith, length-take}
use Rattle.std.specs.Char.{to_ascii_lowercase, is_ascii_alphabetic}
use Rattle.std.specs.List.{AllByRecursion}
use Rattle.std.proofs.lemmas.Bool.{cases_Bool}
use Rattle.std.proofs.lemmas.Bool.Decides.{nat_tests}
use Rattle.std.proofs.lemmas.List.{drop-take, drop_all, append-nil}
use Rattle.std.proofs.lemmas.List.Sums.{take_while-cons}
use Rattle.gcl_model.specs.Tokens.{Part, ends_with_byte, first_part, is_name_byte, is_tag_byte, is_word_byte, name_at, part_or_separator, starts_with_byte, tag_behind, tag_tokens, tag_with_name, tokens_of}
use Rattle.gcl_model.proofs.Parts.{first_part_size, tokens_of-cons}
use Rattle.word_tokens.specs.Lexemes.{part_of}

-- a run of bytes ends where it did, if the text is cut behind it
take_while-take : (p : ℕ → Bool) (m : ℕ) (bytes : List ℕ) → length (take_while p bytes) ≤ m → take_while p (take m bytes) ≡ take_while p bytes
take_while-take p zero [] le = refl
take_while-take p zero (b ∷ bytes) le = elim (cases_Bool (p b)) [
  | inl t ↦ let run : take_while p (b ∷ bytes) ≡ b ∷ take_while p bytes = take_while-cons p b bytes ∙ ap (λ t. cond t (b ∷ take_while p bytes) []) t in absurd (omega (arith, ap length run))
  | inr f ↦ sym (take_while-cons p b bytes ∙ ap (λ t. cond t (b ∷ take_while p bytes) []) f)
]
take_while-take p (suc m) [] le = refl
take_while-take p (suc m) (b ∷ bytes) le = elim (cases_Bool (p b)) [
  | inl t ↦
      let run : take_while p (b ∷ bytes) ≡ b ∷ take_while p bytes = take_while-cons p b bytes ∙ ap (λ t. cond t (b ∷ take_while p bytes) []) t in
      take_while-cons p b (take m bytes) ∙ ap (λ t. cond t (b ∷ take_while p (take m bytes)) []) t
      ∙ ap (λ more. b ∷ more) (take_while-take p m bytes (omega (arith, ap length run))) ∙ sym run
  | inr f ↦
      take_while-cons p b (take m bytes) ∙ ap (λ t. cond t (b ∷ take_while p (take m bytes)) []) f
      ∙ sym (take_while-cons p b bytes ∙ ap (λ t. cond t (b ∷ take_while p bytes) []) f)
]

starts-take : (c m : ℕ) (bytes : List ℕ) → 0 < m → starts_with_byte c (take m bytes) ≡ starts_with_byte c bytes
starts-take c zero bytes some = absurd (omega arith)
starts-take c (suc m) [] some = refl
starts-take c (suc m) (b ∷ bytes) some = refl

name_at-take : (m : ℕ) (bytes : List ℕ) → 0 < m → length (name_at bytes) ≤ m → name_at (take m bytes) ≡ name_at bytes
name_at-take zero bytes some le = absurd (omega arith)
name_at-take (suc m) [] some le = refl
name_at-take (suc m) (b ∷ bytes) some le = elim (cases_Bool (is_ascii_alphabetic b)) [
  | inl t ↦
      let long : length (take_while is_name_byte bytes) ≤ m = omega (arith, ap (λ t. length (cond t (b ∷ take_while is_name_byte bytes) [])) t) in
      ap (λ run. cond (is_ascii_alphabetic b) (b ∷ run) []) (take_while-take is_name_byte m bytes long)
  | inr f ↦ ap (λ t. cond t (b ∷ take_while is_name_byte (take m bytes)) []) f ∙ sym (ap (λ t. cond t (b ∷ take_while is_name_byte bytes) []) f)
]

-- what is left behind some bytes, of a text that is cut
drop_of-take : (k m : ℕ) (bytes : List ℕ) → k ≤ m → drop k (take m bytes) ≡ take (m - k) (drop k bytes)
drop_of-take k m bytes le = let e : m ≡ k + (m - k) = omega arith in ap (λ n. drop k (take n bytes)) e ∙ drop-take k (m - k) bytes

-- a tag is found again in its own bytes
tag_with_name-take : (closing : Bool) (opened m : ℕ) (name bytes : List ℕ) (part : Part) → tag_with_name closing opened name bytes ≡ Some part → part.size ≡ opened + m
    → tag_with_name closing opened name (take m bytes) ≡ Some part
tag_with_name-take closing opened m [] bytes part is size = absurd cc
tag_with_name-take closing opened m (b ∷ name) bytes part is size =
    let k : ℕ = length (b ∷ name) in
    let after : List ℕ = drop k bytes in
    let between : List ℕ = take_while is_tag_byte after in
    by_end (starts_with_byte 62 (drop (length between) after)) refl is
  where
    found : List ℕ → Bool → Option Part
    found between s = cond s (Some record { size = opened + length (b ∷ name) + length between + 1; tokens = tag_tokens closing (b ∷ name) between }) None

    by_end : (s : Bool) → starts_with_byte 62 (drop (length (take_while is_tag_byte (drop (length (b ∷ name)) bytes))) (drop (length (b ∷ name)) bytes)) ≡ s
        → cond s (Some (let p : Part = record { size = opened + length (b ∷ name) + length (take_while is_tag_byte (drop (length (b ∷ name)) bytes)) + 1; tokens = tag_tokens closing (b ∷ name) (take_while is_tag_byte (drop (length (b ∷ name)) bytes)) } in p)) None ≡ Some part
        → tag_with_name closing opened (b ∷ name) (take m bytes) ≡ Some part
    by_end false e f = absurd cc
    by_end true e f =
        let k : ℕ = length (b ∷ name) in
        let after : List ℕ = drop k bytes in
        let between : List ℕ = take_while is_tag_byte after in
        let n : ℕ = length between in
        let the : (let p : Part = record { size = opened + k + n + 1; tokens = tag_tokens closing (b ∷ name) between } in p) ≡ part = cc in
        let same : opened + k + n + 1 ≡ part.size = ap (λ p. p.size) the in
        let room : k + n + 1 ≡ m = omega arith in
        let behind : drop k (take m bytes) ≡ take (m - k) after = drop_of-take k m bytes (omega arith) in
        let run : take_while is_tag_byte (drop k (take m bytes)) ≡ between = ap (take_while is_tag_byte) behind ∙ take_while-take is_tag_byte (m - k) after (omega arith) in
        let ends : starts_with_byte 62 (drop n (drop k (take m bytes))) ≡ true =
        ap (λ xs. starts_with_byte 62 (drop n xs)) behind ∙ ap (starts_with_byte 62) (drop_of-take n (m - k) after (omega arith)) ∙ starts-take 62 (m - k - n) (drop n after) (omega arith) ∙ e in
        ap (λ xs. cond (starts_with_byte 62 (drop (length xs) (drop k (take m bytes)))) (Some (let p : Part = record { size = opened + k + length xs + 1; tokens = tag_tokens closing (b ∷ name) xs } in p)) None) run
        ∙ ap (λ s. cond s (Some (let p : Part = record { size = opened + k + n + 1; tokens = tag_tokens closing (b ∷ name) between } in p)) None) ends
        ∙ f

-- the name of a tag and its brackets are within it
record HasName (opened : ℕ) (name : List ℕ) (size : ℕ) : Type 0 where
  some : 0 < length name
  within : opened + length name + 1 ≤ size

tag_has_name : (closing : Bool) (opened : ℕ) (name bytes : List ℕ) (part : Part) → tag_with_name closing opened name bytes ≡ Some part → HasName opened name part.size
tag_has_name closing opened [] bytes part is = absurd cc
tag_has_name closing opened (b ∷ name) bytes part is = by_end _ _ _ is
  where
    by_end : (s : Bool) (between : ℕ) (tokens : List (List ℕ)) → cond s (Some (let p : Part = record { size = opened + length (b ∷ name) + between + 1; tokens = tokens } in p)) None ≡ Some part → HasName opened (b ∷ name) part.size
    by_end false between tokens e = absurd cc
    by_end true between tokens e =
        let the : (let p : Part = record { size = opened + length (b ∷ name) + between + 1; tokens = tokens } in p) ≡ part = cc in
        record { some = omega arith; within = omega (arith, ap (λ p. p.size) the) }

tag_behind-take : (m : ℕ) (bytes : List ℕ) (part : Part) → tag_behind bytes ≡ Some part → part.size ≡ 1 + m → tag_behind (take m bytes) ≡ Some part
tag_behind-take m bytes part is size = by_slash (starts_with_byte 47 bytes) refl is
  where
    again : (closing : Bool) (opened k : ℕ) (inside : List ℕ) → tag_with_name closing opened (name_at inside) inside ≡ Some part → part.size ≡ opened + k → tag_with_name closing opened (name_at (take k inside)) (take k inside) ≡ Some part
    again closing opened k inside e same =
        let named = tag_has_name closing opened (name_at inside) inside part e in
        ap (λ name. tag_with_name closing opened name (take k inside)) (name_at-take k inside (omega (arith, named.within)) (omega (arith, named.within)))
        ∙ tag_with_name-take closing opened k (name_at inside) inside part e same

    by_slash : (closing : Bool) → starts_with_byte 47 bytes ≡ closing
        → tag_with_name closing (cond closing 2 1) (name_at (cond closing (drop 1 bytes) bytes)) (cond closing (drop 1 bytes) bytes) ≡ Some part
        → tag_behind (take m bytes) ≡ Some part
    by_slash true slash e =
        let named = tag_has_name true 2 (name_at (drop 1 bytes)) (drop 1 bytes) part e in
        let some : 1 ≤ m = omega (arith, named.within) in
        let starts : starts_with_byte 47 (take m bytes) ≡ true = starts-take 47 m bytes some ∙ slash in
        ap (λ closing. tag_with_name closing (cond closing 2 1) (name_at (cond closing (drop 1 (take m bytes)) (take m bytes))) (cond closing (drop 1 (take m bytes)) (take m bytes))) starts
        ∙ ap (λ inside. tag_with_name true 2 (name_at inside) inside) (drop_of-take 1 m bytes some)
        ∙ again true 2 (m - 1) (drop 1 bytes) e (omega arith)
    by_slash false slash e =
        let named = tag_has_name false 1 (name_at bytes) bytes part e in
        let some : 1 ≤ m = omega (arith, named.within) in
        let starts : starts_with_byte 47 (take m bytes) ≡ false = starts-take 47 m bytes some ∙ slash in
        ap (λ closing. tag_with_name closing (cond closing 2 1) (name_at (cond closing (drop 1 (take m bytes)) (take m bytes))) (cond closing (drop 1 (take m bytes)) (take m bytes))) starts
        ∙ again false 1 m bytes e size

-- a word, by its first byte and the others
abbrev word_part : ℕ → List ℕ → Part
word_part b run = record { size = length (b ∷ run); tokens = map to_ascii_lowercase (b ∷ run) ∷ [] }

-- what is at a byte that begins no word, by what is after it
abbrev other_part : ℕ → Option Part → Part
other_part b tag = part_or_separator (cond (b == 60) tag None)

first_part-take : (m b : ℕ) (bytes : List ℕ) → 0 < length (first_part b bytes).tokens → (first_part b bytes).size ≡ 1 + m → first_part b (take m bytes) ≡ first_part b bytes
first_part-take m b bytes some size = by_word (is_word_byte b) some size
  where
    by_tag : (o p : Option Part) → ((part : Part) → o ≡ Some part → part.size ≡ 1 + m → p ≡ Some part) → 0 < length (part_or_separator o).tokens → (part_or_separator o).size ≡ 1 + m → part_or_separator p ≡ part_or_separator o
    by_tag None p same some size = absurd (omega arith)
    by_tag (Some part) p same some size = ap part_or_separator (same part refl size)

    by_bracket : (s : Bool) → 0 < length (part_or_separator (cond s (tag_behind bytes) None)).tokens → (part_or_separator (cond s (tag_behind bytes) None)).size ≡ 1 + m
        → part_or_separator (cond s (tag_behind (take m bytes)) None) ≡ part_or_separator (cond s (tag_behind bytes) None)
    by_bracket true some size = by_tag (tag_behind bytes) (tag_behind (take m bytes)) (λ part e same. tag_behind-take m bytes part e same) some size
    by_bracket false some size = refl

    by_word : (s : Bool) → 0 < length (cond s (word_part b (take_while is_word_byte bytes)) (other_part b (tag_behind bytes))).tokens
        → (cond s (word_part b (take_while is_word_byte bytes)) (other_part b (tag_behind bytes))).size ≡ 1 + m
        → cond s (word_part b (take_while is_word_byte (take m bytes))) (other_part b (tag_behind (take m bytes)))
        ≡ cond s (word_part b (take_while is_word_byte bytes)) (other_part b (tag_behind bytes))
    by_word true some size = ap (word_part b) (take_while-take is_word_byte m bytes (omega arith))
    by_word false some size = by_bracket (b == 60) some size

-- the bytes of a part that gives tokens give these tokens, and no others
pub tokens_of-whole : (text : List ℕ) → 0 < length text → 0 < length (part_of text).tokens → tokens_of (take (part_of text).size text) ≡ (part_of text).tokens
tokens_of-whole [] some given = absurd (omega arith)
tokens_of-whole (b ∷ bytes) some given = by_size (first_part b bytes).size refl
  where
    by_size : (n : ℕ) → (first_part b bytes).size ≡ n → tokens_of (take n (b ∷ bytes)) ≡ (first_part b bytes).tokens
    by_size zero e = let h : 1 ≤ (first_part b bytes).size = first_part_size b bytes in absurd (omega arith)
    by_size (suc m) e =
        let same : first_part b (take m bytes) ≡ first_part b bytes = first_part-take m b bytes given (omega arith) in
        tokens_of-cons b (take m bytes)
        ∙ ap (λ (part : Part). part.tokens ++ tokens_of (drop part.size (b ∷ take m bytes))) same
        ∙ ap (λ rest. (first_part b bytes).tokens ++ tokens_of rest) (drop_all (first_part b bytes).size (b ∷ take m bytes) (omega (arith, length-take m bytes)))
        ∙ append-nil (first_part b bytes).tokens

-- each of the bytes is in no word
abbrev pub AreOther : List ℕ → Type 0
AreOther bytes = AllByRecursion (λ b. is_word_byte b ≡ false) bytes

other_than_letter : (b : ℕ) → is_word_byte b ≡ false → is_ascii_alphabetic b ≡ false
other_than_letter b e = grind (arith, nat_tests)

-- no tag begins if no letter comes
no_name : (bytes : List ℕ) → AreOther bytes → name_at bytes ≡ []
no_name [] others = refl
no_name (b ∷ bytes) others = ap (λ t. cond t (b ∷ take_while is_name_byte bytes) []) (other_than_letter b others.0)

no_tag : (bytes : List ℕ) → AreOther bytes → tag_behind bytes ≡ None
no_tag bytes others = by_slash (starts_with_byte 47 bytes)
  where
    behind : (bytes : List ℕ) → AreOther bytes → AreOther (drop 1 bytes)
    behind [] others = tt
    behind (b ∷ bytes) others = others.1

    by_slash : (closing : Bool) → tag_with_name closing (cond closing 2 1) (name_at (cond closing (drop 1 bytes) bytes)) (cond closing (drop 1 bytes) bytes) ≡ None
    by_slash true = ap (λ name. tag_with_name true 2 name (drop 1 bytes)) (no_name (drop 1 bytes) (behind bytes others))
    by_slash false = ap (λ name. tag_with_name false 1 name bytes) (no_name bytes others)

-- bytes that are in no word give no token
pub no_tokens : (bytes : List ℕ) → AreOther bytes → tokens_of bytes ≡ []
no_tokens [] others = refl
no_tokens (b ∷ bytes) others =
    let tag : cond (b == 60) (tag_behind bytes) None ≡ None = ap (λ o. cond (b == 60) o None) (no_tag bytes others.1) ∙ cond_same (b == 60) in
    let part : first_part b bytes ≡ part_or_separator None =
    ap (λ t. cond t (word_part b (take_while is_word_byte bytes)) (other_part b (tag_behind bytes))) others.0 ∙ ap part_or_separator tag in
    tokens_of-cons b bytes ∙ ap (λ (p : Part). p.tokens ++ tokens_of (drop p.size (b ∷ bytes))) part ∙ no_tokens bytes others.1
  where
    cond_same : (s : Bool) → cond s (let o : Option Part = None in o) None ≡ None
    cond_same true = refl
    cond_same false = refl

-- a tag gives a token
abbrev OptionGives : Option Part → Type 0
OptionGives None = Unit {0}
OptionGives (Some part) = 0 < length part.tokens

tag_tokens_some : (closing : Bool) (name between : List ℕ) → 0 < length (tag_tokens closing name between)
tag_tokens_some true name between = omega arith
tag_tokens_some false name between = elim (cases_Bool (ends_with_byte 47 between)) [
  | inl t ↦ rw t (omega arith)
  | inr f ↦ rw f (omega arith)
]

tag_gives : (closing : Bool) (opened : ℕ) (name bytes : List ℕ) → OptionGives (tag_with_name closing opened name bytes)
tag_gives closing opened [] bytes = tt
tag_gives closing opened (b ∷ name) bytes = by_end _ _ (tag_tokens_some closing (b ∷ name) (take_while is_tag_byte (drop (length (b ∷ name)) bytes)))
  where
    by_end : (s : Bool) (part : Part) → 0 < length part.tokens → OptionGives (cond s (Some part) None)
    by_end true part some = some
    by_end false part some = tt

-- what gives no token is one byte, of no word
pub record IsSeparator (b : ℕ) (part : Part) : Type 0 where
  pub one : part.size ≡ 1
  pub other : is_word_byte b ≡ false

pub separator : (b : ℕ) (bytes : List ℕ) → length (first_part b bytes).tokens ≡ 0 → IsSeparator b (first_part b bytes)
separator b bytes none = by_word (is_word_byte b) refl none
  where
    by_tag : (o : Option Part) → OptionGives o → length (part_or_separator o).tokens ≡ 0 → (part_or_separator o).size ≡ 1
    by_tag None gives none = refl
    by_tag (Some part) gives none = absurd (omega (arith, gives))

    by_bracket : (s : Bool) → length (part_or_separator (cond s (tag_behind bytes) None)).tokens ≡ 0 → (part_or_separator (cond s (tag_behind bytes) None)).size ≡ 1
    by_bracket true none =
        let closing = starts_with_byte 47 bytes in
        let inside = cond closing (drop 1 bytes) bytes in
        by_tag (tag_behind bytes) (tag_gives closing (cond closing 2 1) (name_at inside) inside) none
    by_bracket false none = refl

    by_word : (s : Bool) → is_word_byte b ≡ s → length (cond s (word_part b (take_while is_word_byte bytes)) (other_part b (tag_behind bytes))).tokens ≡ 0
        → IsSeparator b (cond s (word_part b (take_while is_word_byte bytes)) (other_part b (tag_behind bytes)))
    by_word true e none = absurd (omega arith)
    by_word false e none = record { one = by_bracket (b == 60) none; other = e }
