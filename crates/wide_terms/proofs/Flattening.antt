-- One of trees is one of all that they have.
use Rattle.std.proofs.Common.{◌≡◌, ℕ, zero, suc, ◌-◌, ◌/◌, ◌<◌, Bool, true, false, cond, ◌||◌, leb, map, List, [], ◌∷◌, ◌++◌, length, take, drop, refl, sym, ap, ◌∙◌, arith}
use Rattle.std.proofs.lemmas.Bool.{true≢false, and_parts, and_from, lt-leb}
use Rattle.std.proofs.lemmas.List.{map-append, take-append-drop}
use Rattle.gcl_model.specs.Extents.{Extent, covers, all_extents}
use Rattle.gcl_model.specs.Texts.{Text}
use Rattle.gcl_model.specs.Forms.{Form, Forms, term, phrase, width, both, one, seq, containing, contained_in, not_containing, not_contained_in, no_forms, more_forms}
use Rattle.gcl_model.specs.FormOf.{forms_from}
use Rattle.gcl_model.specs.Meaning.{denotes, operands, concordance}
use Rattle.gcl_model.proofs.Meanings.{any_cover, covers_one, same_list, concordance_rises}
use Rattle.gcl_model.proofs.Reach.{operands_of}
use Rattle.wide_terms.specs.Expansion.{node_words, tree_of_words}
use Rattle.wide_terms.specs.Trees.{is_term_tree, are_term_trees, leaf_tokens, all_leaf_tokens}

-- a member of one of these lies within c
abbrev pub some_covers : Text → List Form → Extent → Bool
some_covers text forms c = any_cover (operands text (forms_from forms)) c

-- expressions that lie within the same extents have the same list
pub same_covers : (text : Text) (a b : Form) → ((c : Extent) → covers (concordance text a) c ≡ covers (concordance text b) c) → concordance text a ≡ concordance text b
same_covers text a b same = same_list (denotes text a) (denotes text b) (all_extents text.first text.next) (concordance_rises text a) (concordance_rises text b) same

pub one_covers : (text : Text) (forms : Forms) (c : Extent) → covers (concordance text (one forms)) c ≡ any_cover (operands text forms) c
one_covers text forms c = covers_one text (operands text forms) (operands_of text forms) c

or_more : (p q r : Bool) → (p || (q || r)) ≡ ((p || q) || r)
or_more true q r = refl
or_more false q r = refl

or_none : (p : Bool) → (p || false) ≡ p
or_none true = refl
or_none false = refl

pub some-append : (text : Text) (xs ys : List Form) (c : Extent) → some_covers text (xs ++ ys) c ≡ (some_covers text xs c || some_covers text ys c)
some-append text [] ys c = refl
some-append text (x ∷ xs) ys c =
    ap (λ b. covers (concordance text x) c || b) (some-append text xs ys c) ∙ or_more (covers (concordance text x) c) (some_covers text xs c) (some_covers text ys c)

pub one_flattens : (text : Text) (before inner behind : List Form) →
    concordance text (one (forms_from (before ++ one (forms_from inner) ∷ behind))) ≡ concordance text (one (forms_from (before ++ inner ++ behind)))
one_flattens text before inner behind =
    same_covers text (one (forms_from (before ++ one (forms_from inner) ∷ behind))) (one (forms_from (before ++ inner ++ behind)))
    (λ c.
    one_covers text (forms_from (before ++ one (forms_from inner) ∷ behind)) c
    ∙ some-append text before (one (forms_from inner) ∷ behind) c
    ∙ ap (λ b. some_covers text before c || (b || some_covers text behind c)) (one_covers text (forms_from inner) c)
    ∙ or_more (some_covers text before c) (some_covers text inner c) (some_covers text behind c)
    ∙ ap (λ b. b || some_covers text behind c) (sym (some-append text before inner c))
    ∙ sym (some-append text (before ++ inner) behind c)
    ∙ sym (one_covers text (forms_from (before ++ inner ++ behind)) c))

-- if the words of two parts follow each other, the terms of all are those of the parts
two_parts : (text : Text) (xs ys : List (List ℕ)) (c : Extent) → some_covers text (map term (xs ++ ys)) c ≡ (some_covers text (map term xs) c || some_covers text (map term ys) c)
two_parts text xs ys c = ap (λ forms. some_covers text forms c) (map-append term xs ys) ∙ some-append text (map term xs) (map term ys) c

mutual
  pub tree_covers : (text : Text) (form : Form) → is_term_tree form ≡ true → (c : Extent) → covers (concordance text form) c ≡ some_covers text (map term (leaf_tokens form)) c
  tree_covers text (term token) is c = sym (or_none (covers (concordance text (term token)) c))
  tree_covers text (one forms) is c = one_covers text forms c ∙ trees_cover text forms is c
  tree_covers text (phrase tokens) is c = absurd (true≢false (sym is))
  tree_covers text (width n) is c = absurd (true≢false (sym is))
  tree_covers text (both forms) is c = absurd (true≢false (sym is))
  tree_covers text (seq forms) is c = absurd (true≢false (sym is))
  tree_covers text (containing a b) is c = absurd (true≢false (sym is))
  tree_covers text (contained_in a b) is c = absurd (true≢false (sym is))
  tree_covers text (not_containing a b) is c = absurd (true≢false (sym is))
  tree_covers text (not_contained_in a b) is c = absurd (true≢false (sym is))

  pub trees_cover : (text : Text) (forms : Forms) → are_term_trees forms ≡ true → (c : Extent) → any_cover (operands text forms) c ≡ some_covers text (map term (all_leaf_tokens forms)) c
  trees_cover text no_forms is c = refl
  trees_cover text (more_forms form forms) is c =
      let parts = and_parts (is_term_tree form) (are_term_trees forms) is in
      ap (λ b. b || any_cover (operands text forms) c) (tree_covers text form parts.0 c)
      ∙ ap (λ b. some_covers text (map term (leaf_tokens form)) c || b) (trees_cover text forms parts.1 c)
      ∙ sym (two_parts text (leaf_tokens form) (all_leaf_tokens forms) c)

pub tree_flattens : (text : Text) (form : Form) → is_term_tree form ≡ true → concordance text form ≡ concordance text (one (forms_from (map term (leaf_tokens form))))
tree_flattens text form is =
    same_covers text form (one (forms_from (map term (leaf_tokens form)))) (λ c. tree_covers text form is c ∙ sym (one_covers text (forms_from (map term (leaf_tokens form))) c))

-- what is made of words is a tree of their terms
terms_are_trees : (words : List (List ℕ)) → are_term_trees (forms_from (map term words)) ≡ true
terms_are_trees [] = refl
terms_are_trees (word ∷ words) = terms_are_trees words

terms_leaves : (words : List (List ℕ)) → all_leaf_tokens (forms_from (map term words)) ≡ words
terms_leaves [] = refl
terms_leaves (word ∷ words) = ap (λ tokens. word ∷ tokens) (terms_leaves words)

append_nothing : {X : Type 0} (xs : List X) → xs ++ [] ≡ xs
append_nothing [] = refl
append_nothing (x ∷ xs) = ap (λ l. x ∷ l) (append_nothing xs)

pub tree_of_terms : (levels : ℕ) (words : List (List ℕ)) → is_term_tree (tree_of_words levels words) ≡ true
tree_of_terms zero words = terms_are_trees words
tree_of_terms (suc levels) words = here (leb (length words) node_words) (tree_of_terms levels (take (length words / 2) words)) (tree_of_terms levels (drop (length words / 2) words))
  where
    here : (few : Bool) → is_term_tree (tree_of_words levels (take (length words / 2) words)) ≡ true → is_term_tree (tree_of_words levels (drop (length words / 2) words)) ≡ true →
        is_term_tree (cond few (one (forms_from (map term words))) (one (more_forms (tree_of_words levels (take (length words / 2) words)) (more_forms (tree_of_words levels (drop (length words / 2) words)) no_forms))))
        ≡ true
    here true first second = terms_are_trees words
    here false first second = and_from _ _ first (and_from _ _ second refl)

pub tree_leaves : (levels : ℕ) (words : List (List ℕ)) → leaf_tokens (tree_of_words levels words) ≡ words
tree_leaves zero words = terms_leaves words
tree_leaves (suc levels) words = here (leb (length words) node_words) (tree_leaves levels (take (length words / 2) words)) (tree_leaves levels (drop (length words / 2) words))
  where
    here : (few : Bool) → leaf_tokens (tree_of_words levels (take (length words / 2) words)) ≡ take (length words / 2) words →
        leaf_tokens (tree_of_words levels (drop (length words / 2) words)) ≡ drop (length words / 2) words →
        leaf_tokens (cond few (one (forms_from (map term words))) (one (more_forms (tree_of_words levels (take (length words / 2) words)) (more_forms (tree_of_words levels (drop (length words / 2) words)) no_forms))))
        ≡ words
    here true first second = terms_leaves words
    here false first second =
        ap (λ l. l ++ (leaf_tokens (tree_of_words levels (drop (length words / 2) words)) ++ [])) first
        ∙ ap (λ l. take (length words / 2) words ++ l) (append_nothing (leaf_tokens (tree_of_words levels (drop (length words / 2) words))) ∙ second)
        ∙ take-append-drop (length words / 2) words

-- and has the list of one of them
pub tree_list : (text : Text) (levels : ℕ) (words : List (List ℕ)) → concordance text (tree_of_words levels words) ≡ concordance text (one (forms_from (map term words)))
tree_list text levels words =
    tree_flattens text (tree_of_words levels words) (tree_of_terms levels words) ∙ ap (λ tokens. concordance text (one (forms_from (map term tokens)))) (tree_leaves levels words)

-- more words than one node has are one of two halves
pub tree-more : (levels : ℕ) (words : List (List ℕ)) → 0 < levels → 8 < length words →
    tree_of_words levels words
    ≡ one (more_forms (tree_of_words (levels - 1) (take (length words / 2) words)) (more_forms (tree_of_words (levels - 1) (drop (length words / 2) words)) no_forms))
tree-more zero words some more = absurd (omega arith)
tree-more (suc levels) words some more =
    let less : suc levels - 1 ≡ levels = omega arith in
    rw less (ap (λ few. cond few (one (forms_from (map term words))) (one (more_forms (tree_of_words levels (take (length words / 2) words)) (more_forms (tree_of_words levels (drop (length words / 2) words)) no_forms)))) (lt-leb (length words) 8 more))
