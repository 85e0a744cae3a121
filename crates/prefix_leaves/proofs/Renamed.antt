-- What the renamed text holds, and what an expression denotes over it.
use Rattle.std.proofs.Common.{◌≡◌, ℕ, ◌+◌, Bool, true, false, not, cond, ◌&&◌, ◌||◌, eqb, List, [], ◌∷◌, length, map, filter, bytes_eq, refl, ap, ◌∙◌}
use Rattle.std.proofs.Math.Path.{fun_ext}
use Rattle.std.specs.List.{list_any, list_all}
use Rattle.std.proofs.lemmas.Bool.{and_parts}
use Rattle.gcl_model.specs.Texts.{Text, Word, holds, places, AreRisingBelow, IsText}
use Rattle.gcl_model.specs.Forms.{Form, Forms, term, phrase, width, both, one, seq, containing, contained_in, not_containing, not_contained_in, no_forms, more_forms}
use Rattle.gcl_model.specs.Meaning.{denotes, operands, extents_where, is_minimal, all_cover, any_contains, runs_in_order, holds_in_row, is_containing, is_contained_in, is_not_containing, is_not_contained_in}
use Rattle.gcl_model.specs.Wide.{stands_for_word, denotes_wide, wide_operands, wide}
use Rattle.prefix_leaves.specs.Renaming.{name_among, renamed_word, renamed, is_meant_among, is_apart, are_apart}
use Rattle.prefix_leaves.specs.Laws.{NamesThatAreApartDecide}
use Rattle.prefix_leaves.proofs.NameLemmas.{apart_name, untouched_name}

-- if a name is that of the words that pass a test, it is where these are
pub holds_by : (prefixes : List (List ℕ)) (name : List ℕ) (test : List ℕ → Bool) → ((word : List ℕ) → bytes_eq (name_among prefixes word) name ≡ test word)
    → (words : List Word) (p : ℕ) → holds (map (renamed_word prefixes) words) name p ≡ list_any (λ w. eqb w.address p && test w.token) words
holds_by prefixes name test same [] p = refl
holds_by prefixes name test same (w ∷ words) p =
    ap (λ b. (eqb w.address p && b) || holds (map (renamed_word prefixes) words) name p) (same w.token)
    ∙ ap (λ b. (eqb w.address p && test w.token) || b) (holds_by prefixes name test same words p)

pub places_by : (prefixes : List (List ℕ)) (name : List ℕ) (test : List ℕ → Bool) → ((word : List ℕ) → bytes_eq (name_among prefixes word) name ≡ test word)
    → (words : List Word) → places (map (renamed_word prefixes) words) name ≡ map (λ w. w.address) (filter (λ w. test w.token) words)
places_by prefixes name test same [] = refl
places_by prefixes name test same (w ∷ words) =
    ap (λ b. map (λ (w : Word). w.address) (cond b (renamed_word prefixes w ∷ filter (λ w. bytes_eq w.token name) (map (renamed_word prefixes) words)) (filter (λ w. bytes_eq w.token name) (map (renamed_word prefixes) words)))) (same w.token)
    ∙ step (test w.token) (places_by prefixes name test same words)
  where
    step : (b : Bool) → places (map (renamed_word prefixes) words) name ≡ map (λ w. w.address) (filter (λ w. test w.token) words)
        → map (λ (w : Word). w.address) (cond b (renamed_word prefixes w ∷ filter (λ w. bytes_eq w.token name) (map (renamed_word prefixes) words)) (filter (λ w. bytes_eq w.token name) (map (renamed_word prefixes) words)))
        ≡ map (λ (w : Word). w.address) (cond b (w ∷ filter (λ w. test w.token) words) (filter (λ w. test w.token) words))
    step true rest = ap (λ ps. w.address ∷ ps) rest
    step false rest = rest

-- no word passes the test that none passes
pub none_by : (words : List Word) → map (λ (w : Word). w.address) (filter (λ w. false) words) ≡ []
none_by [] = refl
none_by (w ∷ words) = none_by words

rising_renamed : (prefixes : List (List ℕ)) (next low : ℕ) (words : List Word) → AreRisingBelow next low words → AreRisingBelow next low (map (renamed_word prefixes) words)
rising_renamed prefixes next low [] r = tt
rising_renamed prefixes next low (w ∷ words) r = (r.0, r.1, rising_renamed prefixes next (w.address + 1) words r.2)

pub renamed_is_text : (prefixes : List (List ℕ)) (text : Text) → IsText text → IsText (renamed prefixes text)
renamed_is_text prefixes text is = record { ordered = is.ordered; in_range = is.in_range; rising = rising_renamed prefixes text.next text.first text.words is.rising }

row_renamed : (prefixes : List (List ℕ)) (words : List Word) (tokens : List (List ℕ)) (p : ℕ) → list_all (λ token. not (is_meant_among prefixes token)) tokens ≡ true
    → holds_in_row (map (renamed_word prefixes) words) tokens p ≡ holds_in_row words tokens p
row_renamed prefixes words [] p h = refl
row_renamed prefixes words (token ∷ tokens) p h =
    let parts = and_parts (not (is_meant_among prefixes token)) (list_all (λ token. not (is_meant_among prefixes token)) tokens) h in
    ap (λ s. s && holds_in_row (map (renamed_word prefixes) words) tokens (p + 1)) (holds_by prefixes token (λ word. bytes_eq word token) (λ word. untouched_name prefixes token word parts.0) words p)
    ∙ ap (λ s. holds words token p && s) (row_renamed prefixes words tokens (p + 1) parts.1)

mutual
  same_meaning : (prefixes : List (List ℕ)) (text : Text) (form : Form) → is_apart prefixes form ≡ true → denotes (renamed prefixes text) form ≡ denotes_wide text form
  same_meaning prefixes text (term token) h = fun_ext (λ c. ap (λ s. eqb c.start c.end && s) (holds_by prefixes token (stands_for_word token) (λ word. apart_name prefixes token word h) text.words c.start))
  same_meaning prefixes text (phrase tokens) h = fun_ext (λ c. ap (λ s. eqb (c.end + 1) (c.start + length tokens) && s) (row_renamed prefixes text.words tokens c.start h))
  same_meaning prefixes text (width n) h = refl
  same_meaning prefixes text (both forms) h = ap (λ lists. is_minimal text (all_cover lists)) (same_operands prefixes text forms h)
  same_meaning prefixes text (one forms) h = ap (λ lists. is_minimal text (any_contains lists)) (same_operands prefixes text forms h)
  same_meaning prefixes text (seq forms) h = ap (λ lists. is_minimal text (runs_in_order lists)) (same_operands prefixes text forms h)
  same_meaning prefixes text (containing a b) h =
      let parts = and_parts (is_apart prefixes a) (is_apart prefixes b) h in
      ap (λ d. is_containing d (extents_where text (denotes (renamed prefixes text) b))) (same_meaning prefixes text a parts.0)
      ∙ ap (λ d. is_containing (denotes_wide text a) (extents_where text d)) (same_meaning prefixes text b parts.1)
  same_meaning prefixes text (contained_in a b) h =
      let parts = and_parts (is_apart prefixes a) (is_apart prefixes b) h in
      ap (λ d. is_contained_in d (extents_where text (denotes (renamed prefixes text) b))) (same_meaning prefixes text a parts.0)
      ∙ ap (λ d. is_contained_in (denotes_wide text a) (extents_where text d)) (same_meaning prefixes text b parts.1)
  same_meaning prefixes text (not_containing a b) h =
      let parts = and_parts (is_apart prefixes a) (is_apart prefixes b) h in
      ap (λ d. is_not_containing d (extents_where text (denotes (renamed prefixes text) b))) (same_meaning prefixes text a parts.0)
      ∙ ap (λ d. is_not_containing (denotes_wide text a) (extents_where text d)) (same_meaning prefixes text b parts.1)
  same_meaning prefixes text (not_contained_in a b) h =
      let parts = and_parts (is_apart prefixes a) (is_apart prefixes b) h in
      ap (λ d. is_not_contained_in d (extents_where text (denotes (renamed prefixes text) b))) (same_meaning prefixes text a parts.0)
      ∙ ap (λ d. is_not_contained_in (denotes_wide text a) (extents_where text d)) (same_meaning prefixes text b parts.1)

  same_operands : (prefixes : List (List ℕ)) (text : Text) (forms : Forms) → are_apart prefixes forms ≡ true → operands (renamed prefixes text) forms ≡ wide_operands text forms
  same_operands prefixes text no_forms h = refl
  same_operands prefixes text (more_forms form forms) h =
      let parts = and_parts (is_apart prefixes form) (are_apart prefixes forms) h in
      ap (λ d. extents_where text d ∷ operands (renamed prefixes text) forms) (same_meaning prefixes text form parts.0)
      ∙ ap (λ lists. wide text form ∷ lists) (same_operands prefixes text forms parts.1)

pub apart_decides : NamesThatAreApartDecide
apart_decides prefixes text form h = ap (extents_where text) (same_meaning prefixes text form h)
