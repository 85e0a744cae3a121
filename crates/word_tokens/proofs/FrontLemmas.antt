-- What a text begins with: its name, the end of its tag, its word.
use Rattle.std.proofs.Common.{◌≡◌, ◌≢◌, ℕ, zero, suc, ◌+◌, ◌-◌, ◌<◌, Bool, true, false, not, ◌&&◌, ◌||◌, cond, eqb, nat_eq, ◌==◌, List, [], ◌∷◌, length, take, drop, map, get_or, Some, None, take_while, refl, sym, ap, ◌∙◌, arith}
use Rattle.std.specs.Char.{to_ascii_lowercase, is_ascii_alphabetic}
use Rattle.std.specs.List.{prefix_len, slice_get}
use Rattle.std.specs.Option.{option_eq}
use Rattle.std.proofs.lemmas.Bool.{eq-eqb, ne_eqb}
use Rattle.std.proofs.lemmas.List.Sums.{take_while-cons, prefix_len_is}
use Rattle.std.proofs.lemmas.List.Folds.{length-prefix_len}
use Rattle.std.proofs.Math.Seq.{drop-length}
use Rattle.memchr.specs.Find.{IsFirstByte, is_byte2}
use Rattle.gcl_model.specs.Tokens.{Part, ends_with_byte, is_name_byte, is_tag_byte, is_word_byte, name_at, starts_with_byte, tag_tokens, tag_with_name, part_or_separator, tag_behind}
use Rattle.word_tokens.specs.Lexemes.{part_of, tag_end}

-- a name is the run of bytes of a name, if a letter comes first
pub name_at-letter : (text : List ℕ) → is_ascii_alphabetic (get_or text 0 0) ≡ true → name_at text ≡ take_while is_name_byte text
name_at-letter [] e = refl
name_at-letter (b ∷ bytes) e = rw (take_while-cons is_name_byte b bytes, e) refl

-- the run is what comes before its end
pub take-take_while : (p : ℕ → Bool) (text : List ℕ) → take (length (take_while p text)) text ≡ take_while p text
take-take_while p text = ap (λ n. take n text) (length-prefix_len p text)

-- the last byte
pub ends_with_byte-last : (c : ℕ) (bytes : List ℕ) → option_eq nat_eq (slice_get bytes (length bytes - 1)) (Some c) ≡ ends_with_byte c bytes
ends_with_byte-last c [] = refl
ends_with_byte-last c (b ∷ []) = refl
ends_with_byte-last c (b ∷ next ∷ bytes) =
    let e : length (b ∷ next ∷ bytes) - 1 ≡ suc (length bytes) = omega arith in
    let f : length (next ∷ bytes) - 1 ≡ length bytes = omega arith in
    ap (λ n. option_eq nat_eq (slice_get (b ∷ next ∷ bytes) n) (Some c)) e ∙ sym (ap (λ n. option_eq nat_eq (slice_get (next ∷ bytes) n) (Some c)) f) ∙ ends_with_byte-last c (next ∷ bytes)

pub starts_with_byte-drop : (c : ℕ) (bytes : List ℕ) (k : ℕ) → k < length bytes → starts_with_byte c (drop k bytes) ≡ eqb (get_or bytes k 0) c
starts_with_byte-drop c [] k below = absurd (omega arith)
starts_with_byte-drop c (b ∷ bytes) zero below = refl
starts_with_byte-drop c (b ∷ bytes) (suc k) below = starts_with_byte-drop c bytes k (omega arith)

-- neither bracket
other_byte : (p q : Bool) → (p || q ≡ true → ⊥) → (not p && not q) ≡ true
other_byte true q no_bracket = absurd (no_bracket refl)
other_byte false true no_bracket = absurd (no_bracket refl)
other_byte false false no_bracket = refl

a_bracket : (p q : Bool) → (p || q) ≡ true → (not p && not q) ≡ false
a_bracket true q e = refl
a_bracket false true e = refl
a_bracket false false e = absurd cc

-- the search for brackets from after a name
pub record BracketAt (after : List ℕ) (k : ℕ) : Type 0 where
  pub within : k < length after
  pub before : prefix_len is_tag_byte after ≡ k

pub bracket_at : (after : List ℕ) (k : ℕ) → IsFirstByte (is_byte2 60 62) after (Some k) → BracketAt after k
bracket_at after k found = record {
  within = found.0.high;
  before = prefix_len_is is_tag_byte after k 0 (let h : k < length after = found.0.high in omega arith)
      (λ i below. other_byte (eqb (get_or after i 0) 60) (eqb (get_or after i 0) 62) (found.0.before i (omega arith) below))
      (λ within. a_bracket (eqb (get_or after k 0) 60) (eqb (get_or after k 0) 62) found.1);
}

tag_end_by : (after : List ℕ) (n : ℕ) (s : Bool) → prefix_len is_tag_byte after ≡ n → starts_with_byte 62 (drop n after) ≡ s → tag_end after ≡ cond s (Some n) None
tag_end_by after n s e f =
    let m = length-prefix_len is_tag_byte after ∙ e in
    ap (λ i. cond (starts_with_byte 62 (drop i after)) (Some i) None) m ∙ ap (λ t. cond t (Some n) None) f

pub tag_end-some : (after : List ℕ) (k : ℕ) → IsFirstByte (is_byte2 60 62) after (Some k) → get_or after k 0 ≡ 62 → Some k ≡ tag_end after
tag_end-some after k found is =
    let at = bracket_at after k found in
    sym (tag_end_by after k true at.before (starts_with_byte-drop 62 after k at.within ∙ eq-eqb _ _ is))

pub tag_end-open : (after : List ℕ) (k : ℕ) → IsFirstByte (is_byte2 60 62) after (Some k) → get_or after k 0 ≢ 62 → None ≡ tag_end after
tag_end-open after k found other =
    let at = bracket_at after k found in
    sym (tag_end_by after k false at.before (starts_with_byte-drop 62 after k at.within ∙ ne_eqb _ _ other))

pub tag_end-none : (after : List ℕ) → IsFirstByte (is_byte2 60 62) after None → None ≡ tag_end after
tag_end-none after nowhere =
    let all = prefix_len_is is_tag_byte after (length after) 0 (omega arith)
    (λ i below. other_byte (eqb (get_or after i 0) 60) (eqb (get_or after i 0) 62) (nowhere i (omega arith) below))
    (λ below. absurd (omega arith)) in
    sym (tag_end_by after (length after) false all (ap (starts_with_byte 62) (drop-length after)))

-- a tag by its end
by_end : (s : Bool) (opened size k : ℕ) (closing : Bool) (name between after : List ℕ) → between ≡ take (length between) after → cond s (Some (length between)) None ≡ Some k
    → cond s (Some (let part : Part = record { size = opened + size + length between + 1; tokens = tag_tokens closing name between } in part)) None ≡ Some record { size = opened + size + k + 1; tokens = tag_tokens closing name (take k after) }
by_end true opened size k closing name between after e is =
    let n : length between ≡ k = cc in
    ap (λ (part : Part). Some part) (ap (λ m. record { size = opened + size + m + 1; tokens = tag_tokens closing name between }) n
    ∙ ap (λ xs. record { size = opened + size + k + 1; tokens = tag_tokens closing name xs }) (e ∙ ap (λ m. take m after) n))
by_end false opened size k closing name between after e is = absurd cc

pub tag_with_name-some : (closing : Bool) (opened : ℕ) (name bytes : List ℕ) (k : ℕ) → 0 < length name → tag_end (drop (length name) bytes) ≡ Some k
    → tag_with_name closing opened name bytes ≡ Some record { size = opened + length name + k + 1; tokens = tag_tokens closing name (take k (drop (length name) bytes)) }
tag_with_name-some closing opened [] bytes k some e = absurd (omega arith)
tag_with_name-some closing opened (b ∷ name) bytes k some e =
    let after = drop (length (b ∷ name)) bytes in
    by_end _ opened (length (b ∷ name)) k closing (b ∷ name) (take_while is_tag_byte after) after (sym (take-take_while is_tag_byte after)) e

-- a text that begins with a word, by the length of the word
pub part_of-word : (text : List ℕ) (n : ℕ) → n ≡ length (take_while is_word_byte text) → 0 < n → part_of text ≡ record { size = n; tokens = map to_ascii_lowercase (take n text) ∷ [] }
part_of-word [] n e some = absurd (omega arith)
part_of-word (b ∷ bytes) n e some = by_byte (is_word_byte b) refl
  where
    by_byte : (word : Bool) → is_word_byte b ≡ word → part_of (b ∷ bytes) ≡ record { size = n; tokens = map to_ascii_lowercase (take n (b ∷ bytes)) ∷ [] }
    by_byte true is =
        let run : take_while is_word_byte (b ∷ bytes) ≡ b ∷ take_while is_word_byte bytes = take_while-cons is_word_byte b bytes ∙ ap (λ t. cond t (b ∷ take_while is_word_byte bytes) []) is in
        let taken : take n (b ∷ bytes) ≡ b ∷ take_while is_word_byte bytes = ap (λ m. take m (b ∷ bytes)) e ∙ take-take_while is_word_byte (b ∷ bytes) ∙ run in
        let size : n ≡ length (b ∷ take_while is_word_byte bytes) = e ∙ ap length run in
        ap (λ t. cond t (let part : Part = record { size = length (b ∷ take_while is_word_byte bytes); tokens = map to_ascii_lowercase (b ∷ take_while is_word_byte bytes) ∷ [] } in part) (part_or_separator (cond (b == 60) (tag_behind bytes) None))) is
        ∙ ap (λ m. record { size = m; tokens = map to_ascii_lowercase (b ∷ take_while is_word_byte bytes) ∷ [] }) (sym size)
        ∙ ap (λ xs. record { size = n; tokens = map to_ascii_lowercase xs ∷ [] }) (sym taken)
    by_byte false is =
        let none : take_while is_word_byte (b ∷ bytes) ≡ [] = take_while-cons is_word_byte b bytes ∙ ap (λ t. cond t (b ∷ take_while is_word_byte bytes) []) is in
        absurd (omega (arith, ap length none))
