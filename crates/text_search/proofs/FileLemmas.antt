-- The words of a file, and what a table has of them.
use Rattle.std.proofs.Common.{◌≡◌, ℕ, zero, suc, ◌+◌, ◌<◌, ◌≤◌, Bool, true, false, cond, ◌||◌, List, [], ◌∷◌, ◌++◌, length, map, filter, take, drop, bytes_eq, inl, inr, refl, sym, ap, ◌∙◌, subst, arith, length-append, length-take, length-drop, add-one}
use Rattle.std.proofs.Math.Path.{fun_ext}
use Rattle.std.proofs.lemmas.Bool.{cases_Bool}
use Rattle.std.proofs.lemmas.List.{append-nil, append_assoc}
use Rattle.std.proofs.lemmas.Slice.Eq.{bytes_eq-Decides}
use Rattle.std.specs.List.{AllByRecursion}
use Rattle.gcl_model.specs.Collections.{words_from, with_boundaries, width_of, file_start, file_end}
use Rattle.gcl_model.specs.Limits.{most_file}
use Rattle.gcl_model.specs.Texts.{Text, Word, IsText, AreRisingBelow, places}
use Rattle.gcl_model.specs.Tokens.{tokens_of}
use Rattle.gcl_model.proofs.WordLists.{rising_filter, places-append}
use Rattle.word_tokens.proofs.PartLemmas.{few_tokens}
use Rattle.text_search.specs.FileTexts.{file_text}
use Rattle.text_search.specs.Names.{is_named, named_text}
use Rattle.text_search.specs.Tables.{Entry, tokens_in, filled, noted, places_in, AreEmpty, AreClimbing, Names}
use Rattle.text_search.specs.Kept.{IsKept}
use Rattle.text_search.proofs.NameLemmas.{places_named, places_unnamed}

pub file_words : (bytes : List ℕ) → (file_text bytes).words ≡ words_from 0 (with_boundaries (tokens_of bytes))
file_words bytes = append-nil (words_from 0 (with_boundaries (tokens_of bytes)))

rising_from : (next p : ℕ) (tokens : List (List ℕ)) → p + length tokens ≤ next → AreRisingBelow next p (words_from p tokens)
rising_from next p [] le = tt
rising_from next p (token ∷ tokens) le = (omega arith, omega arith, rising_from next (p + 1) tokens (omega arith))

pub file_is_text : (bytes : List ℕ) → length bytes ≤ most_file → IsText (file_text bytes)
file_is_text bytes fits =
    let few : length (tokens_of bytes) ≤ length bytes = few_tokens bytes in
    let width : length (with_boundaries (tokens_of bytes)) ≡ width_of (tokens_of bytes) = omega (arith, length-append (tokens_of bytes) (file_end ∷ [])) in
    record {
      ordered = omega arith;
      in_range = omega arith;
      rising = subst (AreRisingBelow (file_text bytes).next 0) (sym (file_words bytes)) (rising_from (file_text bytes).next 0 (with_boundaries (tokens_of bytes)) (omega arith));
    }

pub named_is_text : (names : List (List ℕ)) (text : Text) → IsText text → IsText (named_text names text)
named_is_text names text is = record { ordered = is.ordered; in_range = is.in_range; rising = rising_filter text.next text.first (λ w. is_named names w.token) text.words is.rising }

-- the places of a token climb
climbing_above : (next low : ℕ) (words : List Word) (token : List ℕ) (p : ℕ) → AreRisingBelow next low words → p < low → AllByRecursion (λ q. p < q) (places words token)
climbing_above next low [] token p rising lt = tt
climbing_above next low (w ∷ words) token p rising lt =
    let from : low ≤ w.address = rising.0 in
    let rest = climbing_above next (w.address + 1) words token p rising.2 (omega arith) in
    elim (cases_Bool (bytes_eq w.token token)) [ inl e ↦ rw e (omega arith, rest) | inr e ↦ rw e rest ]

pub places_climb : (next low : ℕ) (words : List Word) (token : List ℕ) → AreRisingBelow next low words → AreClimbing (places words token)
places_climb next low [] token rising = tt
places_climb next low (w ∷ words) token rising =
    elim (cases_Bool (bytes_eq w.token token)) [
      | inl e ↦ rw e (climbing_above next (w.address + 1) words token w.address rising.2 (omega arith), places_climb next (w.address + 1) words token rising.2)
      | inr e ↦ rw e (places_climb next (w.address + 1) words token rising.2)
    ]

-- a filled table
pub tokens-filled : (words : List Word) (names : List (List ℕ)) → tokens_in (filled words names) ≡ names
tokens-filled words [] = refl
tokens-filled words (name ∷ names) = ap (λ xs. name ∷ xs) (tokens-filled words names)

pub filled-empty : (entries : List Entry) → AreEmpty entries → entries ≡ filled [] (tokens_in entries)
filled-empty [] h = refl
filled-empty (e ∷ entries) h =
    ap (λ ps. record { token = e.token; places = ps } ∷ entries) h.0 ∙ ap (λ xs. record { token = e.token; places = [] } ∷ xs) (filled-empty entries h.1)

place_of_one : (token name : List ℕ) (address : ℕ) (s : Bool) → bytes_eq token name ≡ s → places (record { address = address; token = token } ∷ []) name ≡ cond s (address ∷ []) []
place_of_one token name address true e = ap (λ s. map (λ (w : Word). w.address) (cond s (record { address = address; token = token } ∷ []) [])) e
place_of_one token name address false e = ap (λ s. map (λ (w : Word). w.address) (cond s (record { address = address; token = token } ∷ []) [])) e

-- one word more is noted
pub filled-more : (words : List Word) (names : List (List ℕ)) (token : List ℕ) (address : ℕ) → map (noted token address) (filled words names) ≡ filled (words ++ record { address = address; token = token } ∷ []) names
filled-more words [] token address = refl
filled-more words (name ∷ names) token address =
    let w : Word = record { address = address; token = token } in
    ap (λ ps. record { token = name; places = ps } ∷ map (noted token address) (filled words names))
    (ap (λ ps. places words name ++ ps) (sym (place_of_one token name address (bytes_eq token name) refl)) ∙ sym (places-append words (w ∷ []) name))
    ∙ ap (λ xs. record { token = name; places = places (words ++ w ∷ []) name } ∷ xs) (filled-more words names token address)

-- a table has the places of a token that it has, and else none
filled-in : (words : List Word) (names : List (List ℕ)) (token : List ℕ) → is_named names token ≡ true → places_in (filled words names) token ≡ places words token
filled-in words [] token named = absurd cc
filled-in words (name ∷ names) token named = by_name (bytes_eq token name) refl named (λ h. filled-in words names token h)
  where
    by_name : (s : Bool) → bytes_eq token name ≡ s → (s || is_named names token) ≡ true → (is_named names token ≡ true → places_in (filled words names) token ≡ places words token)
        → cond s (places words name) (places_in (filled words names) token) ≡ places words token
    by_name true e h rest = ap (places words) (sym ((bytes_eq-Decides token name).0 e))
    by_name false e h rest = rest h

filled-out : (words : List Word) (names : List (List ℕ)) (token : List ℕ) → is_named names token ≡ false → places_in (filled words names) token ≡ []
filled-out words [] token unnamed = refl
filled-out words (name ∷ names) token unnamed = by_name (bytes_eq token name) unnamed (λ h. filled-out words names token h)
  where
    by_name : (s : Bool) → (s || is_named names token) ≡ false → (is_named names token ≡ false → places_in (filled words names) token ≡ []) → cond s (places words name) (places_in (filled words names) token) ≡ []
    by_name true h rest = absurd cc
    by_name false h rest = rest h

pub filled-places : (words : List Word) (names : List (List ℕ)) (token : List ℕ) → places_in (filled words names) token ≡ places (filter (λ w. is_named names w.token) words) token
filled-places words names token = elim (cases_Bool (is_named names token)) [
  | inl t ↦ filled-in words names token t ∙ sym (places_named names words token t)
  | inr f ↦ filled-out words names token f ∙ sym (places_unnamed names words token f)
]

-- a table that is kept of a file has the places of each token
pub kept_places : (bytes : List ℕ) (next : ℕ) (table : List Entry) (token : List ℕ) → IsKept bytes next table → places_in table token ≡ places (named_text (tokens_in table) (file_text bytes)).words token
kept_places bytes next table token kept = ap (λ entries. places_in entries token) kept.places ∙ filled-places (file_text bytes).words (tokens_in table) token

-- the same names leave the same words
pub named_same : (a b : List (List ℕ)) (text : Text) → ((token : List ℕ) → is_named a token ≡ is_named b token) → named_text a text ≡ named_text b text
named_same a b text h = ap (λ (p : List ℕ → Bool). record { first = text.first; next = text.next; words = filter (λ w. p w.token) text.words }) (fun_ext h)

words_from-push : (p : ℕ) (tokens : List (List ℕ)) (token : List ℕ) → words_from p (tokens ++ token ∷ []) ≡ words_from p tokens ++ record { address = p + length tokens; token = token } ∷ []
words_from-push p [] token = let e : p ≡ p + 0 = omega arith in ap (λ n. record { address = n; token = token } ∷ []) e
words_from-push p (t ∷ tokens) token =
    let e : p + 1 + length tokens ≡ p + length (t ∷ tokens) = omega arith in
    ap (λ ws. record { address = p; token = t } ∷ ws) (words_from-push (p + 1) tokens token ∙ ap (λ n. words_from (p + 1) tokens ++ record { address = n; token = token } ∷ []) e)

take_next : (tokens more : List (List ℕ)) (token : List ℕ) (i : ℕ) → drop i tokens ≡ token ∷ more → take (suc i) tokens ≡ take i tokens ++ token ∷ []
take_next tokens more token zero is = ap (take 1) is
take_next [] more token (suc i) is = absurd cc
take_next (t ∷ tokens) more token (suc i) is = ap (λ xs. t ∷ xs) (take_next tokens more token i is)

-- after the words so far comes the next word
pub words_noted : (words : List Word) (tokens more : List (List ℕ)) (token : List ℕ) (i : ℕ) → drop i tokens ≡ token ∷ more
    → (words ++ words_from 1 (take i tokens)) ++ record { address = i + 1; token = token } ∷ [] ≡ words ++ words_from 1 (take (i + 1) tokens)
words_noted words tokens more token i is =
    let left : length (drop i tokens) ≡ suc (length more) = ap length is in
    let size : i + 1 ≡ 1 + length (take i tokens) = omega (arith, length-drop i tokens, length-take i tokens) in
    append_assoc words (words_from 1 (take i tokens)) (record { address = i + 1; token = token } ∷ [])
    ∙ ap (λ ws. words ++ ws)
    (ap (λ n. words_from 1 (take i tokens) ++ record { address = n; token = token } ∷ []) size
    ∙ sym (words_from-push 1 (take i tokens) token)
    ∙ ap (words_from 1) (sym (ap (λ n. take n tokens) (add-one i) ∙ take_next tokens more token i is)))

-- a table whose tokens are noted from the first to the last
pub file_noted : (bytes : List ℕ) (old start inside all : List Entry) (last : ℕ) → AreEmpty old → start ≡ map (noted file_start 0) old
    → ((words : List Word) (names : List (List ℕ)) → start ≡ filled words names → inside ≡ filled (words ++ words_from 1 (tokens_of bytes)) names)
    → last ≡ length (tokens_of bytes) + 1 → all ≡ map (noted file_end last) inside → all ≡ filled (file_text bytes).words (tokens_in old)
file_noted bytes old start inside all last none first middle at end =
    let names : List (List ℕ) = tokens_in old in
    let tokens : List (List ℕ) = tokens_of bytes in
    let w : Word = record { address = 0; token = file_start } in
    let begun : start ≡ filled (w ∷ []) names = first ∙ ap (map (noted file_start 0)) (filled-empty old none) ∙ filled-more [] names file_start 0 in
    let went : inside ≡ filled (w ∷ words_from 1 tokens) names = middle (w ∷ []) names begun in
    let place : last ≡ 1 + length tokens = omega arith in
    end ∙ ap (map (noted file_end last)) went ∙ filled-more (w ∷ words_from 1 tokens) names file_end last
    ∙ ap (λ n. filled (w ∷ (words_from 1 tokens ++ record { address = n; token = file_end } ∷ [])) names) place
    ∙ sym (ap (λ ws. filled ws names) (file_words bytes ∙ ap (λ ws. w ∷ ws) (words_from-push 1 tokens file_end)))

pub kept_of : (bytes : List ℕ) (old all : List Entry) (last next : ℕ) → length bytes ≤ most_file → last ≡ length (tokens_of bytes) + 1 → next ≡ last + 1 → all ≡ filled (file_text bytes).words (tokens_in old) → IsKept bytes next all
kept_of bytes old all last next fits at behind is =
    let same : tokens_in all ≡ tokens_in old = ap tokens_in is ∙ tokens-filled (file_text bytes).words (tokens_in old) in
    record { fits = fits; width = omega arith; places = is ∙ ap (filled (file_text bytes).words) (sym same) }

-- the view of a table with the names of an expression
pub kept_text : (bytes : List ℕ) (empty old all : List Entry) (names : List (List ℕ)) → empty ≡ [] → Names (tokens_in empty) (tokens_in old) names → all ≡ filled (file_text bytes).words (tokens_in old)
    → named_text (tokens_in all) (file_text bytes) ≡ named_text names (file_text bytes)
kept_text bytes empty old all names none named is =
    named_same (tokens_in all) names (file_text bytes) (λ token.
    ap (λ tokens. is_named tokens token) (ap tokens_in is ∙ tokens-filled (file_text bytes).words (tokens_in old)) ∙ named token
    ∙ ap (λ entries. is_named (tokens_in entries) token || is_named names token) none)
