-- The meaning of an expression depends on the words that it names.
use Rattle.std.proofs.Common.{◌≡◌, ℕ, ◌+◌, ◌*◌, Bool, true, false, cond, ◌&&◌, ◌||◌, eqb, List, [], ◌∷◌, ◌++◌, length, map, filter, min, bytes_eq, inl, inr, refl, sym, ap, ◌∙◌}
use Rattle.std.proofs.Math.Bool.{and-false, or-true}
use Rattle.std.proofs.Math.Path.{fun_ext}
use Rattle.std.proofs.lemmas.Bool.{cases_Bool}
use Rattle.std.proofs.lemmas.List.Folds.{list_any-append}
use Rattle.std.proofs.lemmas.Slice.Eq.{bytes_eq-Decides}
use Rattle.std.specs.List.{AllByRecursion}
use Rattle.gcl_model.specs.Texts.{Text, Word, holds, is_word, places}
use Rattle.gcl_model.specs.Forms.{Form, Forms, term, phrase, width, both, one, seq, containing, contained_in, not_containing, not_contained_in, no_forms, more_forms}
use Rattle.gcl_model.specs.Meaning.{concordance, denotes, operands, extents_where, is_minimal, all_cover, any_contains, runs_in_order, holds_in_row, is_containing, is_contained_in, is_not_containing, is_not_contained_in}
use Rattle.gcl_model.specs.Cost.{cost, costs, fewest_places, turns_cost}
use Rattle.gcl_model.proofs.Lists.{all_left, all_right, all_weaker}
use Rattle.text_search.specs.FileTexts.{file_text}
use Rattle.text_search.specs.Names.{names_of, names_in, is_named, named_text, query_text}
use Rattle.wide_terms.specs.Expansion.{expansion}
use Rattle.wide_terms.proofs.Spreading.{expansion_is_wide}
use Rattle.text_search.specs.Laws.{NamesDecideTheList, NamesDecideTheWideList, NamesDecideTheCost}

-- each of the tokens is named
abbrev pub AreNamed : List (List ℕ) → List (List ℕ) → Type 0
AreNamed names tokens = AllByRecursion (λ token. is_named names token ≡ true) tokens

-- a word that is no name is none of the tokens that are named
other_word : (names : List (List ℕ)) (token other : List ℕ) → is_named names token ≡ true → is_named names other ≡ false → bytes_eq other token ≡ false
other_word names token other named unnamed = elim (cases_Bool (bytes_eq other token)) [
  | inl same ↦ let e : other ≡ token = (bytes_eq-Decides other token).0 same in let t : is_named names other ≡ true = ap (is_named names) e ∙ named in let never = sym t ∙ unnamed in absurd cc
  | inr f ↦ f
]

pub holds_named : (names : List (List ℕ)) (words : List Word) (token : List ℕ) (p : ℕ) → is_named names token ≡ true → holds (filter (λ w. is_named names w.token) words) token p ≡ holds words token p
holds_named names [] token p named = refl
holds_named names (w ∷ words) token p named = elim (cases_Bool (is_named names w.token)) [
  | inl t ↦ ap (λ s. holds (cond s (w ∷ filter (λ w. is_named names w.token) words) (filter (λ w. is_named names w.token) words)) token p) t
      ∙ ap (λ s. is_word token p w || s) (holds_named names words token p named)
  | inr f ↦ ap (λ s. holds (cond s (w ∷ filter (λ w. is_named names w.token) words) (filter (λ w. is_named names w.token) words)) token p) f
      ∙ holds_named names words token p named
      ∙ sym (ap (λ s. (eqb w.address p && s) || holds words token p) (other_word names token w.token named f) ∙ ap (λ s. s || holds words token p) (and-false (eqb w.address p)))
]

pub places_named : (names : List (List ℕ)) (words : List Word) (token : List ℕ) → is_named names token ≡ true → places (filter (λ w. is_named names w.token) words) token ≡ places words token
places_named names [] token named = refl
places_named names (w ∷ words) token named = elim (cases_Bool (is_named names w.token)) [
  | inl t ↦ ap (λ s. places (cond s (w ∷ filter (λ w. is_named names w.token) words) (filter (λ w. is_named names w.token) words)) token) t
      ∙ by_token (bytes_eq w.token token) (places_named names words token named)
  | inr f ↦ ap (λ s. places (cond s (w ∷ filter (λ w. is_named names w.token) words) (filter (λ w. is_named names w.token) words)) token) f
      ∙ places_named names words token named
      ∙ sym (ap (λ s. map (λ (w : Word). w.address) (cond s (w ∷ filter (λ w. bytes_eq w.token token) words) (filter (λ w. bytes_eq w.token token) words))) (other_word names token w.token named f))
]
  where
    by_token : (s : Bool) → places (filter (λ w. is_named names w.token) words) token ≡ places words token
        → map (λ (w : Word). w.address) (cond s (w ∷ filter (λ w. bytes_eq w.token token) (filter (λ w. is_named names w.token) words)) (filter (λ w. bytes_eq w.token token) (filter (λ w. is_named names w.token) words)))
        ≡ map (λ (w : Word). w.address) (cond s (w ∷ filter (λ w. bytes_eq w.token token) words) (filter (λ w. bytes_eq w.token token) words))
    by_token true rest = ap (λ ps. w.address ∷ ps) rest
    by_token false rest = rest

-- a token that is not named occurs nowhere
pub places_unnamed : (names : List (List ℕ)) (words : List Word) (token : List ℕ) → is_named names token ≡ false → places (filter (λ w. is_named names w.token) words) token ≡ []
places_unnamed names [] token unnamed = refl
places_unnamed names (w ∷ words) token unnamed = elim (cases_Bool (is_named names w.token)) [
  | inl t ↦ ap (λ s. places (cond s (w ∷ filter (λ w. is_named names w.token) words) (filter (λ w. is_named names w.token) words)) token) t
      ∙ ap (λ s. map (λ (w : Word). w.address) (cond s (w ∷ filter (λ w. bytes_eq w.token token) (filter (λ w. is_named names w.token) words)) (filter (λ w. bytes_eq w.token token) (filter (λ w. is_named names w.token) words)))) (differs t)
      ∙ places_unnamed names words token unnamed
  | inr f ↦ ap (λ s. places (cond s (w ∷ filter (λ w. is_named names w.token) words) (filter (λ w. is_named names w.token) words)) token) f ∙ places_unnamed names words token unnamed
]
  where
    differs : is_named names w.token ≡ true → bytes_eq w.token token ≡ false
    differs t = elim (cases_Bool (bytes_eq w.token token)) [
      | inl same ↦ let e : w.token ≡ token = (bytes_eq-Decides w.token token).0 same in let never : true ≡ false = sym t ∙ ap (is_named names) e ∙ unnamed in absurd cc
      | inr f ↦ f
    ]

-- with a name in front each of the tokens that are named is
named_behind : (names more tokens : List (List ℕ)) → AreNamed names tokens → AreNamed (more ++ names) tokens
named_behind names more tokens h = all_weaker (λ token. is_named names token ≡ true) (λ token. is_named (more ++ names) token ≡ true)
    (λ token e. list_any-append (λ name. bytes_eq token name) more names ∙ ap (λ s. is_named more token || s) e ∙ or-true (is_named more token)) tokens h

pub all_named : (names : List (List ℕ)) → AreNamed names names
all_named [] = tt
all_named (name ∷ names) = (
  ap (λ s. s || is_named names name) ((bytes_eq-Decides name name).1 refl),
  named_behind names (name ∷ []) names (all_named names),
)

row_named : (names : List (List ℕ)) (words : List Word) (tokens : List (List ℕ)) (p : ℕ) → AreNamed names tokens → holds_in_row (filter (λ w. is_named names w.token) words) tokens p ≡ holds_in_row words tokens p
row_named names words [] p h = refl
row_named names words (token ∷ tokens) p h =
    ap (λ s. s && holds_in_row (filter (λ w. is_named names w.token) words) tokens (p + 1)) (holds_named names words token p h.0)
    ∙ ap (λ s. holds words token p && s) (row_named names words tokens (p + 1) h.1)

mutual
  same_meaning : (names : List (List ℕ)) (text : Text) (form : Form) → AreNamed names (names_of form) → denotes (named_text names text) form ≡ denotes text form
  same_meaning names text (term token) h = fun_ext (λ c. ap (λ s. eqb c.start c.end && s) (holds_named names text.words token c.start h.0))
  same_meaning names text (phrase tokens) h = fun_ext (λ c. ap (λ s. eqb (c.end + 1) (c.start + length tokens) && s) (row_named names text.words tokens c.start h))
  same_meaning names text (width n) h = refl
  same_meaning names text (both forms) h = ap (λ lists. is_minimal text (all_cover lists)) (same_operands names text forms h)
  same_meaning names text (one forms) h = ap (λ lists. is_minimal text (any_contains lists)) (same_operands names text forms h)
  same_meaning names text (seq forms) h = ap (λ lists. is_minimal text (runs_in_order lists)) (same_operands names text forms h)
  same_meaning names text (containing a b) h =
      ap (λ d. is_containing d (extents_where text (denotes (named_text names text) b))) (same_meaning names text a (all_left (λ token. is_named names token ≡ true) (names_of a) (names_of b) h))
      ∙ ap (λ d. is_containing (denotes text a) (extents_where text d)) (same_meaning names text b (all_right (λ token. is_named names token ≡ true) (names_of a) (names_of b) h))
  same_meaning names text (contained_in a b) h =
      ap (λ d. is_contained_in d (extents_where text (denotes (named_text names text) b))) (same_meaning names text a (all_left (λ token. is_named names token ≡ true) (names_of a) (names_of b) h))
      ∙ ap (λ d. is_contained_in (denotes text a) (extents_where text d)) (same_meaning names text b (all_right (λ token. is_named names token ≡ true) (names_of a) (names_of b) h))
  same_meaning names text (not_containing a b) h =
      ap (λ d. is_not_containing d (extents_where text (denotes (named_text names text) b))) (same_meaning names text a (all_left (λ token. is_named names token ≡ true) (names_of a) (names_of b) h))
      ∙ ap (λ d. is_not_containing (denotes text a) (extents_where text d)) (same_meaning names text b (all_right (λ token. is_named names token ≡ true) (names_of a) (names_of b) h))
  same_meaning names text (not_contained_in a b) h =
      ap (λ d. is_not_contained_in d (extents_where text (denotes (named_text names text) b))) (same_meaning names text a (all_left (λ token. is_named names token ≡ true) (names_of a) (names_of b) h))
      ∙ ap (λ d. is_not_contained_in (denotes text a) (extents_where text d)) (same_meaning names text b (all_right (λ token. is_named names token ≡ true) (names_of a) (names_of b) h))

  same_operands : (names : List (List ℕ)) (text : Text) (forms : Forms) → AreNamed names (names_in forms) → operands (named_text names text) forms ≡ operands text forms
  same_operands names text no_forms h = refl
  same_operands names text (more_forms form forms) h =
      ap (λ d. extents_where text d ∷ operands (named_text names text) forms) (same_meaning names text form (all_left (λ token. is_named names token ≡ true) (names_of form) (names_in forms) h))
      ∙ ap (λ lists. concordance text form ∷ lists) (same_operands names text forms (all_right (λ token. is_named names token ≡ true) (names_of form) (names_in forms) h))

pub same_list : (names : List (List ℕ)) (text : Text) (form : Form) → AreNamed names (names_of form) → concordance (named_text names text) form ≡ concordance text form
same_list names text form h = ap (extents_where text) (same_meaning names text form h)

pub names_decide_the_list : NamesDecideTheList
names_decide_the_list text form = same_list (names_of form) text form (all_named (names_of form))

pub names_decide_the_wide_list : NamesDecideTheWideList
names_decide_the_wide_list bytes form = names_decide_the_list (file_text bytes) (expansion (file_text bytes) form) ∙ expansion_is_wide (file_text bytes) form

pub fewest_named : (names : List (List ℕ)) (words : List Word) (tokens : List (List ℕ)) → AreNamed names tokens → fewest_places (filter (λ w. is_named names w.token) words) tokens ≡ fewest_places words tokens
fewest_named names words [] h = refl
fewest_named names words (token ∷ []) h = ap length (places_named names words token h.0)
fewest_named names words (token ∷ next ∷ tokens) h =
    ap (λ ps. min (length ps) (fewest_places (filter (λ w. is_named names w.token) words) (next ∷ tokens))) (places_named names words token h.0)
    ∙ ap (λ n. min (length (places words token)) n) (fewest_named names words (next ∷ tokens) h.1)

same_turns : (names : List (List ℕ)) (text : Text) (a b : Form) (x y m n : ℕ) → AreNamed names (names_of a ++ names_of b) → x ≡ m → y ≡ n → turns_cost (named_text names text) a b x y ≡ turns_cost text a b m n
same_turns names text a b x y m n h e f =
    ap (λ list. (min (length list) (length (concordance (named_text names text) b)) + 2) * (x + y)) (same_list names text a (all_left (λ token. is_named names token ≡ true) (names_of a) (names_of b) h))
    ∙ ap (λ list. (min (length (concordance text a)) (length list) + 2) * (x + y)) (same_list names text b (all_right (λ token. is_named names token ≡ true) (names_of a) (names_of b) h))
    ∙ ap (λ k. (min (length (concordance text a)) (length (concordance text b)) + 2) * (k + y)) e
    ∙ ap (λ k. (min (length (concordance text a)) (length (concordance text b)) + 2) * (m + k)) f

mutual
  same_cost : (names : List (List ℕ)) (text : Text) (most : ℕ) (form : Form) → AreNamed names (names_of form) → cost (named_text names text) most form ≡ cost text most form
  same_cost names text most (term token) h = refl
  same_cost names text most (phrase tokens) h = ap (λ n. (n + 2) * (2 * length tokens) * most) (fewest_named names text.words tokens h)
  same_cost names text most (width n) h = refl
  same_cost names text most (both forms) h = ap (λ n. 4 * n) (same_costs names text most forms h)
  same_cost names text most (one forms) h = ap (λ n. 4 * n) (same_costs names text most forms h)
  same_cost names text most (seq forms) h = ap (λ n. 4 * n) (same_costs names text most forms h)
  same_cost names text most (containing a b) h = same_turns names text a b _ _ _ _ h (same_cost names text most a (all_left (λ token. is_named names token ≡ true) (names_of a) (names_of b) h)) (same_cost names text most b (all_right (λ token. is_named names token ≡ true) (names_of a) (names_of b) h))
  same_cost names text most (contained_in a b) h = same_turns names text a b _ _ _ _ h (same_cost names text most a (all_left (λ token. is_named names token ≡ true) (names_of a) (names_of b) h)) (same_cost names text most b (all_right (λ token. is_named names token ≡ true) (names_of a) (names_of b) h))
  same_cost names text most (not_containing a b) h = same_turns names text a b _ _ _ _ h (same_cost names text most a (all_left (λ token. is_named names token ≡ true) (names_of a) (names_of b) h)) (same_cost names text most b (all_right (λ token. is_named names token ≡ true) (names_of a) (names_of b) h))
  same_cost names text most (not_contained_in a b) h = same_turns names text a b _ _ _ _ h (same_cost names text most a (all_left (λ token. is_named names token ≡ true) (names_of a) (names_of b) h)) (same_cost names text most b (all_right (λ token. is_named names token ≡ true) (names_of a) (names_of b) h))

  same_costs : (names : List (List ℕ)) (text : Text) (most : ℕ) (forms : Forms) → AreNamed names (names_in forms) → costs (named_text names text) most forms ≡ costs text most forms
  same_costs names text most no_forms h = refl
  same_costs names text most (more_forms form forms) h =
      ap (λ n. n + costs (named_text names text) most forms) (same_cost names text most form (all_left (λ token. is_named names token ≡ true) (names_of form) (names_in forms) h))
      ∙ ap (λ n. cost text most form + n) (same_costs names text most forms (all_right (λ token. is_named names token ≡ true) (names_of form) (names_in forms) h))

pub names_decide_the_cost : NamesDecideTheCost
names_decide_the_cost text most form = same_cost (names_of form) text most form (all_named (names_of form))

-- the list over the named words of a file is that over the file
pub list_of_file : (bytes : List ℕ) (text : Text) (form : Form) → text ≡ query_text bytes form → concordance text form ≡ concordance (file_text bytes) form
list_of_file bytes text form is = ap (λ t. concordance t form) is ∙ names_decide_the_list (file_text bytes) form

pub cost_of_file : (bytes : List ℕ) (text : Text) (form : Form) → text ≡ query_text bytes form → cost text 1 form ≡ cost (file_text bytes) 1 form
cost_of_file bytes text form is = ap (λ t. cost t 1 form) is ∙ names_decide_the_cost (file_text bytes) 1 form
