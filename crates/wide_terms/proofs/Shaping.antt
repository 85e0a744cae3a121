-- What an expansion keeps: it is well formed, and without prefix terms it is the expression.
use Rattle.std.proofs.Common.{◌≡◌, ℕ, zero, suc, ◌+◌, ◌/◌, ◌≤◌, ◌<◌, leb, Bool, true, false, cond, map, take, drop, get_or, List, [], ◌∷◌, ◌++◌, length, refl, sym, ap, ◌∙◌, subst, arith}
use Rattle.std.proofs.lemmas.Bool.{or_parts, leb-false}
use Rattle.gcl_model.specs.Texts.{Text}
use Rattle.gcl_model.specs.Forms.{Form, Forms, term, phrase, width, both, one, seq, containing, contained_in, not_containing, not_contained_in, no_forms, more_forms, forms_count}
use Rattle.std.proofs.lemmas.List.{length-take, length-drop, map-append, take_more}
use Rattle.gcl_model.specs.declared.expr.Expr.{Expr}
use Rattle.gcl_model.specs.FormOf.{form_of, forms_from}
use Rattle.gcl_model.specs.Meaning.{concordance}
use Rattle.gcl_model.specs.WellFormed.{IsWellFormed, AreWellFormed}
use Rattle.gcl_model.specs.Wide.{is_prefix_term, prefix_of, wide}
use Rattle.wide_terms.specs.Vocabulary.{matching_words}
use Rattle.wide_terms.specs.Expansion.{node_words, tree_of_words, one_of_words, expansion, expansions, has_prefix_term, any_has_prefix_term, sum_of_prefixes, sums_of_prefixes}
use Rattle.wide_terms.proofs.Spreading.{expansion_is_wide}

terms_formed : (words : List (List ℕ)) → AreWellFormed (forms_from (map term words))
terms_formed [] = tt
terms_formed (word ∷ words) = (tt, terms_formed words)

terms_formed_one : (words : List (List ℕ)) → 2 ≤ length words → IsWellFormed (one (forms_from (map term words)))
terms_formed_one words some = (subst (λ n. 2 ≤ n) (sym (terms_counted words)) some, terms_formed words)
  where
    terms_counted : (ws : List (List ℕ)) → forms_count (forms_from (map term ws)) ≡ length ws
    terms_counted [] = refl
    terms_counted (w ∷ ws) = omega (arith, terms_counted ws)

tree_formed : (levels : ℕ) (words : List (List ℕ)) → 2 ≤ length words → IsWellFormed (tree_of_words levels words)
tree_formed zero words some = terms_formed_one words some
tree_formed (suc levels) words some =
    here (leb (length words) node_words) refl (tree_formed levels (take (length words / 2) words)) (tree_formed levels (drop (length words / 2) words))
  where
    here : (few : Bool) → leb (length words) node_words ≡ few → (2 ≤ length (take (length words / 2) words) → IsWellFormed (tree_of_words levels (take (length words / 2) words))) →
        (2 ≤ length (drop (length words / 2) words) → IsWellFormed (tree_of_words levels (drop (length words / 2) words))) →
        IsWellFormed (cond few (one (forms_from (map term words))) (one (more_forms (tree_of_words levels (take (length words / 2) words)) (more_forms (tree_of_words levels (drop (length words / 2) words)) no_forms))))
    here true is first second = terms_formed_one words some
    here false is first second =
        let more : 8 < length words = leb-false (length words) node_words is in
        let taken = length-take (length words / 2) words in
        let left = length-drop (length words / 2) words in
        (omega arith, (first (omega (arith, more, taken)), (second (omega (arith, more, left)), tt)))

one_formed : (token : List ℕ) (words : List (List ℕ)) → IsWellFormed (one_of_words token words)
one_formed token [] = tt
one_formed token (word ∷ []) = tt
one_formed token (word ∷ next ∷ words) = tree_formed (length (word ∷ next ∷ words) / node_words) (word ∷ next ∷ words) (omega arith)

expansions_count : (text : Text) (forms : Forms) → forms_count (expansions text forms) ≡ forms_count forms
expansions_count text no_forms = refl
expansions_count text (more_forms form forms) = ap (λ n. n + 1) (expansions_count text forms)

mutual
  pub expansion_formed : (text : Text) (form : Form) → IsWellFormed form → IsWellFormed (expansion text form)
  expansion_formed text (term token) formed = here (is_prefix_term token)
    where
      here : (b : Bool) → IsWellFormed (cond b (one_of_words token (matching_words text.words (prefix_of token))) (term token))
      here true = one_formed token (matching_words text.words (prefix_of token))
      here false = tt
  expansion_formed text (phrase tokens) formed = formed
  expansion_formed text (width n) formed = formed
  expansion_formed text (both forms) formed = (subst (λ n. 2 ≤ n) (sym (expansions_count text forms)) formed.0, expansions_formed text forms formed.1)
  expansion_formed text (one forms) formed = (subst (λ n. 2 ≤ n) (sym (expansions_count text forms)) formed.0, expansions_formed text forms formed.1)
  expansion_formed text (seq forms) formed = (subst (λ n. 2 ≤ n) (sym (expansions_count text forms)) formed.0, expansions_formed text forms formed.1)
  expansion_formed text (containing a b) formed = (expansion_formed text a formed.0, expansion_formed text b formed.1)
  expansion_formed text (contained_in a b) formed = (expansion_formed text a formed.0, expansion_formed text b formed.1)
  expansion_formed text (not_containing a b) formed = (expansion_formed text a formed.0, expansion_formed text b formed.1)
  expansion_formed text (not_contained_in a b) formed = (expansion_formed text a formed.0, expansion_formed text b formed.1)

  pub expansions_formed : (text : Text) (forms : Forms) → AreWellFormed forms → AreWellFormed (expansions text forms)
  expansions_formed text no_forms formed = tt
  expansions_formed text (more_forms form forms) formed = (expansion_formed text form formed.0, expansions_formed text forms formed.1)

two_stay : (make : Form → Form → Form) (a b x y : Form) → a ≡ x → b ≡ y → make a b ≡ make x y
two_stay make a b x y p q = ap (λ f. make f b) p ∙ ap (make x) q

mutual
  pub expansion_stays : (text : Text) (form : Form) → has_prefix_term form ≡ false → expansion text form ≡ form
  expansion_stays text (term token) plain = ap (λ b. cond b (one_of_words token (matching_words text.words (prefix_of token))) (term token)) plain
  expansion_stays text (phrase tokens) plain = refl
  expansion_stays text (width n) plain = refl
  expansion_stays text (both forms) plain = ap both (expansions_stay text forms plain)
  expansion_stays text (one forms) plain = ap one (expansions_stay text forms plain)
  expansion_stays text (seq forms) plain = ap seq (expansions_stay text forms plain)
  expansion_stays text (containing a b) plain =
      let p = or_parts (has_prefix_term a) (has_prefix_term b) plain in two_stay containing (expansion text a) (expansion text b) a b (expansion_stays text a p.0) (expansion_stays text b p.1)
  expansion_stays text (contained_in a b) plain =
      let p = or_parts (has_prefix_term a) (has_prefix_term b) plain in two_stay contained_in (expansion text a) (expansion text b) a b (expansion_stays text a p.0) (expansion_stays text b p.1)
  expansion_stays text (not_containing a b) plain =
      let p = or_parts (has_prefix_term a) (has_prefix_term b) plain in two_stay not_containing (expansion text a) (expansion text b) a b (expansion_stays text a p.0) (expansion_stays text b p.1)
  expansion_stays text (not_contained_in a b) plain =
      let p = or_parts (has_prefix_term a) (has_prefix_term b) plain in two_stay not_contained_in (expansion text a) (expansion text b) a b (expansion_stays text a p.0) (expansion_stays text b p.1)

  pub expansions_stay : (text : Text) (forms : Forms) → any_has_prefix_term forms ≡ false → expansions text forms ≡ forms
  expansions_stay text no_forms plain = refl
  expansions_stay text (more_forms form forms) plain =
      let p = or_parts (has_prefix_term form) (any_has_prefix_term forms) plain in
      ap (λ f. more_forms f (expansions text forms)) (expansion_stays text form p.0) ∙ ap (more_forms form) (expansions_stay text forms p.1)

pub others_stay : (text : Text) (form : Form) → has_prefix_term form ≡ false → (expansion text form ≡ form) × (wide text form ≡ concordance text form)
others_stay text form plain =
    let stays = expansion_stays text form plain in (stays, sym (expansion_is_wide text form) ∙ ap (concordance text) stays)

-- operands as a list
pub expansions_each : (text : Text) (forms : List Form) → forms_from (map (expansion text) forms) ≡ expansions text (forms_from forms)
expansions_each text [] = refl
expansions_each text (form ∷ forms) = ap (more_forms (expansion text form)) (expansions_each text forms)

sums-push : (of_prefix : List ℕ → ℕ) (forms : List Form) (form : Form) → sums_of_prefixes of_prefix (forms_from (forms ++ form ∷ [])) ≡ sums_of_prefixes of_prefix (forms_from forms) + sum_of_prefixes of_prefix form
sums-push of_prefix [] form = omega arith
sums-push of_prefix (f ∷ forms) form = let rest = sums-push of_prefix forms form in omega (arith, rest)

operands_more : (exprs : List Expr) (i : ℕ) (expr : Expr) → i < length exprs → expr ≡ get_or exprs i expr → map form_of (take (i + 1) exprs) ≡ map form_of (take i exprs) ++ form_of expr ∷ []
operands_more exprs i expr lt at =
    ap (map form_of) (take_more exprs i expr lt) ∙ map-append form_of (take i exprs) (get_or exprs i expr ∷ []) ∙ ap (λ e. map form_of (take i exprs) ++ form_of e ∷ []) (sym at)

-- one operand more
pub expanded_more : (text : Text) (made exprs : List Expr) (i : ℕ) (expr expanded : Expr) → i < length exprs → expr ≡ get_or exprs i expr → map form_of made ≡ map (expansion text) (map form_of (take i exprs)) →
    form_of expanded ≡ expansion text (form_of expr) → map form_of (made ++ expanded ∷ []) ≡ map (expansion text) (map form_of (take (i + 1) exprs))
expanded_more text made exprs i expr expanded lt at before is =
    map-append form_of made (expanded ∷ [])
    ∙ ap (λ forms. forms ++ form_of expanded ∷ []) before
    ∙ ap (λ form. map (expansion text) (map form_of (take i exprs)) ++ form ∷ []) is
    ∙ sym (map-append (expansion text) (map form_of (take i exprs)) (form_of expr ∷ []))
    ∙ ap (map (expansion text)) (sym (operands_more exprs i expr lt at))

pub sums_more : (of_prefix : List ℕ → ℕ) (exprs : List Expr) (i : ℕ) (expr : Expr) → i < length exprs → expr ≡ get_or exprs i expr →
    sums_of_prefixes of_prefix (forms_from (map form_of (take (i + 1) exprs))) ≡ sums_of_prefixes of_prefix (forms_from (map form_of (take i exprs))) + sum_of_prefixes of_prefix (form_of expr)
sums_more of_prefix exprs i expr lt at =
    ap (λ forms. sums_of_prefixes of_prefix (forms_from forms)) (operands_more exprs i expr lt at) ∙ sums-push of_prefix (map form_of (take i exprs)) (form_of expr)

-- those so far and one more are no more than all
pub sums_upto : (of_prefix : List ℕ → ℕ) (exprs : List Expr) (i : ℕ) (expr : Expr) → i < length exprs → expr ≡ get_or exprs i expr →
    sums_of_prefixes of_prefix (forms_from (map form_of (take i exprs))) + sum_of_prefixes of_prefix (form_of expr) ≤ sums_of_prefixes of_prefix (forms_from (map form_of exprs))
sums_upto of_prefix [] i expr lt at = absurd (omega arith)
sums_upto of_prefix (e ∷ es) zero expr lt at = let same = ap (λ (x : Expr). sum_of_prefixes of_prefix (form_of x)) at in omega arith
sums_upto of_prefix (e ∷ es) (suc i) expr lt at = let rest = sums_upto of_prefix es i expr (omega arith) at in omega (arith, rest)
