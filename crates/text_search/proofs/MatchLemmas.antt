-- The words of a file that begin with a prefix.
use Rattle.std.proofs.Common.{nat_cmp, ◌≡◌, ◌↔◌, ℕ, ◌+◌, ◌<◌, Bool, true, false, cond, List, [], ◌∷◌, ◌++◌, map, length, take, drop, get_or, inl, inr, refl, sym, ap, ◌∙◌}
use Rattle.std.proofs.lemmas.Bool.{cases_Bool}
use Rattle.std.proofs.lemmas.List.{append-nil, append_assoc, take_more, drop_more}
use Rattle.std.proofs.lemmas.Slice.Eq.{bytes_eq-Decides}
use Rattle.std.specs.declared.cmp.Ordering.TheVariants.{Less, Equal, Greater}
use Rattle.std.specs.Ordering.{match_ordering}
use Rattle.std.specs.Cmp.Lexicographic.{slice_cmp}
use Rattle.gcl_model.specs.Collections.{file_start, file_end, with_boundaries, words_from}
use Rattle.gcl_model.specs.Texts.{Word}
use Rattle.gcl_model.specs.Tokens.{tokens_of}
use Rattle.gcl_model.specs.Wide.{begins_with}
use Rattle.wide_terms.specs.Vocabulary.{with_token, in_byte_order, matching_words}
use Rattle.wide_terms.proofs.Tokens.{has_left, has_right, has_parts}
use Rattle.wide_terms.proofs.Vocabularies.{order_rises, order_has, has_order, order_is, order_rising, matching_rise, matching-append}
use Rattle.text_search.specs.FileTexts.{file_text}
use Rattle.text_search.specs.Matching.{with_match, with_matches}
use Rattle.text_search.proofs.FileLemmas.{file_words}

-- the test of what a token begins with
pub begins_yes : (prefix token : List ℕ) (r : Bool) → ((r ≡ true) ↔ (prefix ≡ take (length prefix) token)) → r ≡ true → begins_with prefix token ≡ true
begins_yes prefix token r tells is = (bytes_eq-Decides (take (length prefix) token) prefix).1 (sym (tells.0 is))

pub begins_no : (prefix token : List ℕ) (r : Bool) → ((r ≡ true) ↔ (prefix ≡ take (length prefix) token)) → r ≡ false → begins_with prefix token ≡ false
begins_no prefix token r tells is = elim (cases_Bool (begins_with prefix token)) [
  | inl t ↦ let e : r ≡ true = tells.1 (sym ((bytes_eq-Decides (take (length prefix) token) prefix).0 t)) in let never : true ≡ false = sym e ∙ is in absurd cc
  | inr f ↦ f
]

-- where a word goes among others: none so far is it, or comes behind it
pub place_on : (word other : List ℕ) (words : List (List ℕ)) (at : ℕ) → at < length words → other ≡ get_or words at other → slice_cmp nat_cmp word other ≡ Greater
    → take at words ++ with_token word (drop at words) ≡ take (at + 1) words ++ with_token word (drop (at + 1) words)
place_on word other words at below is greater =
    let rest = drop (at + 1) words in
    let x = get_or words at other in
    ap (λ xs. take at words ++ with_token word xs) (drop_more words at other below)
    ∙ ap (λ o. take at words ++ match_ordering o (word ∷ x ∷ rest) (x ∷ rest) (x ∷ with_token word rest)) (ap (slice_cmp nat_cmp word) (sym is) ∙ greater)
    ∙ sym (append_assoc (take at words) (x ∷ []) (with_token word rest))
    ∙ ap (λ xs. xs ++ with_token word rest) (sym (take_more words at other below))

pub place_here : (word other : List ℕ) (words : List (List ℕ)) (at : ℕ) → at < length words → other ≡ get_or words at other → slice_cmp nat_cmp word other ≡ Less
    → take at words ++ with_token word (drop at words) ≡ take at words ++ word ∷ drop at words
place_here word other words at below is less =
    let rest = drop (at + 1) words in
    let x = get_or words at other in
    ap (λ xs. take at words ++ with_token word xs) (drop_more words at other below)
    ∙ ap (λ o. take at words ++ match_ordering o (word ∷ x ∷ rest) (x ∷ rest) (x ∷ with_token word rest)) (ap (slice_cmp nat_cmp word) (sym is) ∙ less)
    ∙ ap (λ xs. take at words ++ word ∷ xs) (sym (drop_more words at other below))

pub place_there : (word other : List ℕ) (words : List (List ℕ)) (at : ℕ) → at < length words → other ≡ get_or words at other → slice_cmp nat_cmp word other ≡ Equal
    → take at words ++ with_token word (drop at words) ≡ take at words ++ drop at words
place_there word other words at below is equal =
    let rest = drop (at + 1) words in
    let x = get_or words at other in
    ap (λ xs. take at words ++ with_token word xs) (drop_more words at other below)
    ∙ ap (λ o. take at words ++ match_ordering o (word ∷ x ∷ rest) (x ∷ rest) (x ∷ with_token word rest)) (ap (slice_cmp nat_cmp word) (sym is) ∙ equal)
    ∙ ap (λ xs. take at words ++ xs) (sym (drop_more words at other below))

-- the matching words of a text with one word more
match_step : (words : List Word) (w : Word) (prefix : List ℕ) → with_match prefix w.token (matching_words words prefix) ≡ matching_words (words ++ w ∷ []) prefix
match_step words w prefix = by_test (begins_with prefix w.token) refl
  where
    by_test : (b : Bool) → begins_with prefix w.token ≡ b → cond b (with_token w.token (matching_words words prefix)) (matching_words words prefix) ≡ matching_words (words ++ w ∷ []) prefix
    by_test true is = sym (
        matching-append words (w ∷ []) prefix
        ∙ ap (λ b. in_byte_order (matching_words words prefix ++ cond b (w.token ∷ []) [])) is
        ∙ order_is (matching_words words prefix ++ w.token ∷ []) (in_byte_order (w.token ∷ matching_words words prefix)) (order_rises (w.token ∷ matching_words words prefix))
        (λ u m. order_has (w.token ∷ matching_words words prefix) u (elim (has_parts (matching_words words prefix) (w.token ∷ []) u m) [
          | inl n ↦ inr n
          | inr n ↦ elim n [ inl e ↦ inl e | inr none ↦ absurd none ]
        ]))
        (λ u m. elim (has_order (w.token ∷ matching_words words prefix) u m) [
          | inl e ↦ has_right (matching_words words prefix) (w.token ∷ []) u (inl e)
          | inr n ↦ has_left (matching_words words prefix) (w.token ∷ []) u n
        ])
        ∙ ap (with_token w.token) (order_rising (matching_words words prefix) (matching_rise words prefix)))
    by_test false is = sym (
        matching-append words (w ∷ []) prefix
        ∙ ap (λ b. in_byte_order (matching_words words prefix ++ cond b (w.token ∷ []) [])) is
        ∙ ap in_byte_order (append-nil (matching_words words prefix))
        ∙ order_rising (matching_words words prefix) (matching_rise words prefix))

match_all : (words more : List Word) (prefix : List ℕ) → with_matches prefix (map (λ (w : Word). w.token) more) (matching_words words prefix) ≡ matching_words (words ++ more) prefix
match_all words [] prefix = ap (λ ws. matching_words ws prefix) (sym (append-nil words))
match_all words (w ∷ more) prefix =
    ap (with_matches prefix (map (λ (w : Word). w.token) more)) (match_step words w prefix)
    ∙ match_all (words ++ w ∷ []) more prefix
    ∙ ap (λ ws. matching_words ws prefix) (append_assoc words (w ∷ []) more)

with_matches-append : (prefix : List ℕ) (xs ys words : List (List ℕ)) → with_matches prefix (xs ++ ys) words ≡ with_matches prefix ys (with_matches prefix xs words)
with_matches-append prefix [] ys words = refl
with_matches-append prefix (x ∷ xs) ys words = with_matches-append prefix xs ys (with_match prefix x words)

tokens-words_from : (p : ℕ) (tokens : List (List ℕ)) → map (λ (w : Word). w.token) (words_from p tokens) ≡ tokens
tokens-words_from p [] = refl
tokens-words_from p (token ∷ tokens) = ap (λ ts. token ∷ ts) (tokens-words_from (p + 1) tokens)

-- the words of a file, put one by one
pub match_file : (bytes prefix : List ℕ) → with_match prefix file_end (with_matches prefix (tokens_of bytes) (with_match prefix file_start [])) ≡ matching_words (file_text bytes).words prefix
match_file bytes prefix =
    let tokens = tokens_of bytes in
    let none : List Word = [] in
    sym (with_matches-append prefix tokens (file_end ∷ []) (with_match prefix file_start []))
    ∙ ap (λ ts. with_matches prefix ts []) (sym (tokens-words_from 0 (with_boundaries tokens)))
    ∙ match_all none (words_from 0 (with_boundaries tokens)) prefix
    ∙ ap (λ ws. matching_words ws prefix) (sym (file_words bytes))
