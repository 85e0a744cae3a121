-- The concordance list of an expansion is the wide list.
use Rattle.std.proofs.Common.{◌≡◌, ℕ, ◌-◌, ◌/◌, ◌≤◌, Bool, true, false, not, cond, ◌&&◌, ◌||◌, eqb, filter, map, List, [], ◌∷◌, length, take, bytes_eq, inl, inr, refl, sym, ap, ◌∙◌, subst, arith}
use Rattle.std.specs.List.{list_any}
use Rattle.std.proofs.lemmas.Bool.{true≢false, and_parts, and_from, eqb-true, eq-eqb, or_cases}
use Rattle.std.proofs.lemmas.List.{length-take}
use Rattle.std.proofs.lemmas.Slice.Eq.{bytes_eq-Decides}
use Rattle.gcl_model.specs.Extents.{Extent, is_nested, same_extent, contains_extent, covers, is_inside, is_least, all_extents}
use Rattle.gcl_model.specs.Texts.{Text, Word, holds}
use Rattle.gcl_model.specs.Forms.{Form, Forms, term, phrase, width, both, one, seq, containing, contained_in, not_containing, not_contained_in, no_forms, more_forms}
use Rattle.gcl_model.specs.FormOf.{forms_from}
use Rattle.gcl_model.specs.Meaning.{extents_where, is_term, is_minimal, all_cover, any_contains, runs_in_order, denotes, operands, concordance}
use Rattle.gcl_model.specs.Wide.{is_prefix_term, prefix_of, begins_with, stands_for_word, holds_wide, is_wide_term, denotes_wide, wide_operands, wide}
use Rattle.gcl_model.proofs.Covers.{nested_tells}
use Rattle.gcl_model.proofs.Minimal.{filter_has, has_filter, same_truth}
use Rattle.gcl_model.proofs.Meanings.{filter_and, contains_tells}
use Rattle.wide_terms.specs.Vocabulary.{matching_words}
use Rattle.wide_terms.specs.Expansion.{node_words, one_of_words, expansion, expansions}
use Rattle.wide_terms.proofs.Tokens as T
use Rattle.wide_terms.proofs.Flattening.{tree_list}
use Rattle.wide_terms.proofs.Vocabularies.{matching_has, has_matching}

-- two tests that agree on the members keep the same ones
pub filter_agree_on : {X : Type 0} (p q : X → Bool) (xs : List X) → ((x : X) → T.Has xs x → p x ≡ q x) → filter p xs ≡ filter q xs
filter_agree_on p q [] same = refl
filter_agree_on p q (x ∷ xs) same =
    ap (λ b. cond b (x ∷ filter p xs) (filter p xs)) (same x (inl refl)) ∙ ap (λ l. cond (q x) (x ∷ l) l) (filter_agree_on p q xs (λ y m. same y (inr m)))

any_same : {X : Type 0} (p q : X → Bool) (xs : List X) → ((x : X) → p x ≡ q x) → list_any p xs ≡ list_any q xs
any_same p q [] same = refl
any_same p q (x ∷ xs) same = ap (λ b. b || list_any p xs) (same x) ∙ ap (λ b. q x || b) (any_same p q xs same)

-- a term that is no prefix term stands for itself
plain_term : (text : Text) (token : List ℕ) → is_prefix_term token ≡ false → (c : Extent) → is_term text token c ≡ is_wide_term text token c
plain_term text token plain c =
    ap (λ b. eqb c.start c.end && b)
    (any_same (λ (w : Word). eqb w.address c.start && bytes_eq w.token token) (λ (w : Word). eqb w.address c.start && stands_for_word token w.token) text.words
    (λ w. ap (λ b. eqb w.address c.start && cond b (begins_with (prefix_of token) w.token) (bytes_eq w.token token)) (sym plain)))

-- one of the tokens is at the address
abbrev any_holds : List Word → List (List ℕ) → ℕ → Bool
any_holds words tokens p = list_any (λ token. holds words token p) tokens

-- the words of a prefix are where it holds
prefix_holds : (words : List Word) (token : List ℕ) → is_prefix_term token ≡ true → (p : ℕ) → any_holds words (matching_words words (prefix_of token)) p ≡ holds_wide words token p
prefix_holds words token is p =
    let tokens = matching_words words (prefix_of token) in
    let wide_at : Word → Bool = λ w. eqb w.address p && stands_for_word token w.token in
    let begins : (w : Word) → stands_for_word token w.token ≡ begins_with (prefix_of token) w.token = λ w. ap (λ b. cond b (begins_with (prefix_of token) w.token) (bytes_eq w.token token)) is in
    same_truth (any_holds words tokens p) (holds_wide words token p)
    (λ e.
    let r = T.any_tells (λ t. holds words t p) tokens e in
    let at : Word → Bool = λ w. eqb w.address p && bytes_eq w.token r.0 in
    let s = T.any_tells at words r.2 in
    let parts = and_parts (eqb s.0.address p) (bytes_eq s.0.token r.0) s.2 in
    let same : s.0.token ≡ r.0 = (bytes_eq-Decides s.0.token r.0).0 parts.1 in
    T.any_from wide_at words s.0 s.1 (and_from (eqb s.0.address p) (stands_for_word token s.0.token) parts.0 (begins s.0 ∙ ap (begins_with (prefix_of token)) same ∙ (has_matching words (prefix_of token) r.0 r.1).1)))
    (λ e.
    let s = T.any_tells wide_at words e in
    let parts = and_parts (eqb s.0.address p) (stands_for_word token s.0.token) s.2 in
    let at : Word → Bool = λ w. eqb w.address p && bytes_eq w.token s.0.token in
    T.any_from (λ t. holds words t p) tokens s.0.token (matching_has words (prefix_of token) s.0 s.1 (sym (begins s.0) ∙ parts.1))
    (T.any_from at words s.0 s.1 (and_from (eqb s.0.address p) (bytes_eq s.0.token s.0.token) parts.0 ((bytes_eq-Decides s.0.token s.0.token).1 refl))))

-- a token begins with what is in front of its last byte
pub begins_itself : (token : List ℕ) → begins_with (prefix_of token) token ≡ true
begins_itself token =
    let front : take (length (prefix_of token)) token ≡ prefix_of token = shorter (length token - 1) token (omega arith) in
    (bytes_eq-Decides (take (length (prefix_of token)) token) (prefix_of token)).1 front
  where
    shorter : (n : ℕ) (xs : List ℕ) → n ≤ length xs → take (length (take n xs)) xs ≡ take n xs
    shorter n xs le = let e : length (take n xs) ≡ n = simp length-take (omega arith) in ap (λ m. take m xs) e

-- if no word begins with the prefix, none is the prefix term
none_holds : (words : List Word) (token : List ℕ) → is_prefix_term token ≡ true → matching_words words (prefix_of token) ≡ [] → (p : ℕ) → holds words token p ≡ holds_wide words token p
none_holds words token is none p =
    let nowhere : holds_wide words token p ≡ false = sym (prefix_holds words token is p) ∙ ap (λ ts. any_holds words ts p) none in
    let at : Word → Bool = λ w. eqb w.address p && bytes_eq w.token token in
    let missing : (holds words token p ≡ true) → ⊥ = λ e.
    let s = T.any_tells at words e in
    let parts = and_parts (eqb s.0.address p) (bytes_eq s.0.token token) s.2 in
    let same : s.0.token ≡ token = (bytes_eq-Decides s.0.token token).0 parts.1 in
    let member = matching_has words (prefix_of token) s.0 s.1 (ap (begins_with (prefix_of token)) same ∙ begins_itself token) in
    subst (λ ts. T.Has ts s.0.token) none member in
    same_truth (holds words token p) (holds_wide words token p) (λ e. absurd (missing e)) (λ e. absurd (true≢false (sym e ∙ nowhere)))

-- single addresses: no other of them is nested in one
abbrev IsPoint : Extent → Type 0
IsPoint c = c.start ≡ c.end

least_point : (list : List Extent) (c : Extent) → IsPoint c → ((d : Extent) → T.Has list d → IsPoint d) → is_least list c ≡ true
least_point [] c point all = refl
least_point (d ∷ list) c point all = and_from _ _ (here (is_nested d c) refl) (least_point list c point (λ e m. all e (inr m)))
  where
    here : (b : Bool) → is_nested d c ≡ b → (not b || same_extent d c) ≡ true
    here false is = refl
    here true is =
        let inside = nested_tells d c is in
        let from = inside.0 in
        let upto = inside.1 in
        let one = all d (inl refl) in
        let at = point in
        and_from _ _ (eq-eqb d.start c.start (omega arith)) (eq-eqb d.end c.end (omega arith))

-- if only single addresses pass a test, all that pass are least
minimal_point : (text : Text) (test : Extent → Bool) → ((c : Extent) → test c ≡ true → IsPoint c) → (c : Extent) → is_minimal text test c ≡ test c
minimal_point text test points c = here (test c) refl
  where
    passing : (d : Extent) → T.Has (extents_where text test) d → IsPoint d
    passing d m = points d (T.has_filter test (all_extents text.first text.next) d m).1

    here : (b : Bool) → test c ≡ b → (b && is_least (extents_where text test) c) ≡ b
    here false is = refl
    here true is = least_point (extents_where text test) c (points c is) passing

-- a pair of the text is in a list if it passes the test
contains_passing : (text : Text) (test : Extent → Bool) (c : Extent) → T.Has (all_extents text.first text.next) c → contains_extent (extents_where text test) c ≡ test c
contains_passing text test c m =
    let same : Extent → Bool = λ a. same_extent a c in
    same_truth (contains_extent (extents_where text test) c) (test c)
    (λ e. (has_filter test (all_extents text.first text.next) c (contains_tells (extents_where text test) c e)).1)
    (λ e. T.any_from same (extents_where text test) c (T.filter_has test (all_extents text.first text.next) c m e) (and_from _ _ (eq-eqb c.start c.start refl) (eq-eqb c.end c.end refl)))

-- one of several terms, at a pair of the text
any_term : (text : Text) (tokens : List (List ℕ)) (c : Extent) → T.Has (all_extents text.first text.next) c →
    any_contains (operands text (forms_from (map term tokens))) c ≡ (eqb c.start c.end && any_holds text.words tokens c.start)
any_term text [] c m = no_more (eqb c.start c.end)
  where
    no_more : (b : Bool) → false ≡ (b && false)
    no_more true = refl
    no_more false = refl
any_term text (token ∷ tokens) c m =
    ap (λ b. b || any_contains (operands text (forms_from (map term tokens))) c) (contains_passing text (is_term text token) c m)
    ∙ ap (λ b. is_term text token c || b) (any_term text tokens c m)
    ∙ split (eqb c.start c.end) (holds text.words token c.start) (any_holds text.words tokens c.start)
  where
    split : (a b d : Bool) → ((a && b) || (a && d)) ≡ (a && (b || d))
    split true b d = refl
    split false b d = refl

-- of any pair, only a single address is in the list of a term
one_point : (text : Text) (tokens : List (List ℕ)) (c : Extent) → any_contains (operands text (forms_from (map term tokens))) c ≡ true → IsPoint c
one_point text [] c e = absurd (true≢false (sym e))
one_point text (token ∷ tokens) c e =
    elim (or_cases (contains_extent (extents_where text (is_term text token)) c) (any_contains (operands text (forms_from (map term tokens))) c) e) [
      | inl h ↦ eqb-true c.start c.end (and_parts _ _ (has_filter (is_term text token) (all_extents text.first text.next) c (contains_tells (extents_where text (is_term text token)) c h)).1).0
      | inr h ↦ one_point text tokens c h
    ]

-- the list of one of several terms
one_list : (text : Text) (tokens : List (List ℕ)) (wide_at : ℕ → Bool) → ((p : ℕ) → any_holds text.words tokens p ≡ wide_at p) →
    concordance text (one (forms_from (map term tokens))) ≡ extents_where text (λ c. eqb c.start c.end && wide_at c.start)
one_list text tokens wide_at same =
    let test = any_contains (operands text (forms_from (map term tokens))) in
    filter_agree_on (is_minimal text test) (λ (c : Extent). eqb c.start c.end && wide_at c.start) (all_extents text.first text.next)
    (λ c m. minimal_point text test (one_point text tokens) c ∙ any_term text tokens c m ∙ ap (λ b. eqb c.start c.end && b) (same c.start))

-- a prefix term as one of its words
spread : (text : Text) (token : List ℕ) (words : List (List ℕ)) → is_prefix_term token ≡ true → words ≡ matching_words text.words (prefix_of token) → concordance text (one_of_words token words) ≡ wide text (term token)
spread text token [] is none =
    filter_agree_on (is_term text token) (is_wide_term text token) (all_extents text.first text.next) (λ c m. ap (λ b. eqb c.start c.end && b) (none_holds text.words token is (sym none) c.start))
spread text token (word ∷ []) is known =
    filter_agree_on (is_term text word) (is_wide_term text token) (all_extents text.first text.next)
    (λ c m. ap (λ b. eqb c.start c.end && b) (sym (or_nothing (holds text.words word c.start)) ∙ ap (λ ts. any_holds text.words ts c.start) known ∙ prefix_holds text.words token is c.start))
  where
    or_nothing : (b : Bool) → (b || false) ≡ b
    or_nothing true = refl
    or_nothing false = refl
spread text token (word ∷ next ∷ words) is known =
    tree_list text (length (word ∷ next ∷ words) / node_words) (word ∷ next ∷ words)
    ∙ one_list text (word ∷ next ∷ words) (holds_wide text.words token) (λ p. ap (λ ts. any_holds text.words ts p) known ∙ prefix_holds text.words token is p)

term_spread : (text : Text) (token : List ℕ) → concordance text (expansion text (term token)) ≡ wide text (term token)
term_spread text token = here (is_prefix_term token) refl
  where
    here : (b : Bool) → is_prefix_term token ≡ b → concordance text (cond b (one_of_words token (matching_words text.words (prefix_of token))) (term token)) ≡ wide text (term token)
    here true is = spread text token (matching_words text.words (prefix_of token)) is refl
    here false is = filter_agree_on (is_term text token) (is_wide_term text token) (all_extents text.first text.next) (λ c m. plain_term text token is c)

-- a containment, by the lists of its operands
module _ (text : Text) (first first_wide second second_wide : Extent → Bool)
    (at_first : extents_where text first ≡ extents_where text first_wide) (at_second : extents_where text second ≡ extents_where text second_wide) where
  pub by_lists : (test : List Extent → Extent → Bool) → extents_where text (λ c. first c && test (extents_where text second) c) ≡ extents_where text (λ c. first_wide c && test (extents_where text second_wide) c)
  by_lists test =
      filter_and first (test (extents_where text second)) (all_extents text.first text.next)
      ∙ ap (filter (test (extents_where text second))) at_first
      ∙ ap (λ l. filter (test l) (extents_where text first_wide)) at_second
      ∙ sym (filter_and first_wide (test (extents_where text second_wide)) (all_extents text.first text.next))

mutual
  pub expansion_is_wide : (text : Text) (form : Form) → concordance text (expansion text form) ≡ wide text form
  expansion_is_wide text (term token) = term_spread text token
  expansion_is_wide text (phrase tokens) = refl
  expansion_is_wide text (width n) = refl
  expansion_is_wide text (both forms) = ap (λ ls. extents_where text (is_minimal text (all_cover ls))) (expansions_are_wide text forms)
  expansion_is_wide text (one forms) = ap (λ ls. extents_where text (is_minimal text (any_contains ls))) (expansions_are_wide text forms)
  expansion_is_wide text (seq forms) = ap (λ ls. extents_where text (is_minimal text (runs_in_order ls))) (expansions_are_wide text forms)
  expansion_is_wide text (containing a b) =
      by_lists text (denotes text (expansion text a)) (denotes_wide text a) (denotes text (expansion text b)) (denotes_wide text b) (expansion_is_wide text a) (expansion_is_wide text b) covers
  expansion_is_wide text (contained_in a b) =
      by_lists text (denotes text (expansion text a)) (denotes_wide text a) (denotes text (expansion text b)) (denotes_wide text b) (expansion_is_wide text a) (expansion_is_wide text b) is_inside
  expansion_is_wide text (not_containing a b) =
      by_lists text (denotes text (expansion text a)) (denotes_wide text a) (denotes text (expansion text b)) (denotes_wide text b) (expansion_is_wide text a) (expansion_is_wide text b) (λ l c. not (covers l c))
  expansion_is_wide text (not_contained_in a b) =
      by_lists text (denotes text (expansion text a)) (denotes_wide text a) (denotes text (expansion text b)) (denotes_wide text b) (expansion_is_wide text a) (expansion_is_wide text b) (λ l c. not (is_inside l c))

  pub expansions_are_wide : (text : Text) (forms : Forms) → operands text (expansions text forms) ≡ wide_operands text forms
  expansions_are_wide text no_forms = refl
  expansions_are_wide text (more_forms form forms) =
      ap (λ l. l ∷ operands text (expansions text forms)) (expansion_is_wide text form) ∙ ap (λ ls. wide text form ∷ ls) (expansions_are_wide text forms)
