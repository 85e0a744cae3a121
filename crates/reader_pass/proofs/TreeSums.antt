-- Sums of the members of terms that rise, and of trees of them.
use Rattle.std.proofs.Common.{◌≡◌, ℕ, ◌+◌, ◌<◌, Bool, true, false, filter, map, take, get_or, List, [], ◌∷◌, ◌++◌, length, bytes_eq, refl, sym, ap, ◌∙◌, subst, arith, inl, inr}
use Rattle.std.specs.List.{AllByRecursion, list_any}
use Rattle.std.proofs.lemmas.Bool.{cases_Bool, and_parts, and_from}
use Rattle.std.proofs.lemmas.List.{map-append, take_more}
use Rattle.std.proofs.lemmas.Slice.Eq.{bytes_eq-Decides}
use Rattle.gcl_model.specs.declared.expr.Expr.{Expr}
use Rattle.gcl_model.specs.Extents.{Extent, all_extents}
use Rattle.gcl_model.specs.Forms.{Form}
use Rattle.gcl_model.specs.FormOf.{form_of, forms_from}
use Rattle.gcl_model.specs.Meaning.{concordance, is_minimal, any_contains}
use Rattle.gcl_model.specs.Texts.{Text, IsText, places}
use Rattle.gcl_model.proofs.Lists.{all_append, all_weaker}
use Rattle.wide_terms.specs.Vocabulary.{ComesBefore}
use Rattle.wide_terms.specs.Trees.{is_term_tree, are_term_trees, leaf_tokens, all_leaf_tokens}
use Rattle.wide_terms.proofs.Flattening.{tree_flattens}
use Rattle.wide_terms.proofs.Tokens.{before_trans, never_before_itself}
use Rattle.reader_pass.specs.Sums.{IsSumOf}
use Rattle.reader_pass.proofs.TermCounts.{count_new, one_count}

none_pass : (test : Extent → Bool) → ((c : Extent) → test c ≡ false) → (list : List Extent) → filter test list ≡ []
none_pass test fails [] = refl
none_pass test fails (c ∷ list) = rw (fails c) (none_pass test fails list)

-- before any term is seen there is nothing
pub none_seen : (text : Text) (last : List ℕ) → IsSumOf text [] 0 last
none_seen text last = record {
  counted = sym (ap length (none_pass (is_minimal text (any_contains [])) (λ c. refl) (all_extents text.first text.next)));
  behind = λ token before. tt;
}

-- a token that comes after others is none of them
others_differ : (token : List ℕ) (seen : List (List ℕ)) → AllByRecursion (λ other. ComesBefore other token) seen → list_any (λ other. bytes_eq other token) seen ≡ false
others_differ token [] all = refl
others_differ token (other ∷ seen) all =
    elim (cases_Bool (bytes_eq other token)) [
      | inl e ↦ absurd (never_before_itself token (subst (λ t. ComesBefore t token) ((bytes_eq-Decides other token).0 e) all.0))
      | inr e ↦ rw e (others_differ token seen all.1)
    ]

-- one term more, which comes after the last
pub one_seen : (text : Text) (seen : List (List ℕ)) (count : ℕ) (last token : List ℕ) (sum : ℕ) → IsText text → IsSumOf text seen count last → ComesBefore last token → sum ≡ count + length (places text.words token) →
    IsSumOf text (seen ++ token ∷ []) sum token
one_seen text seen count last token sum sound old before is =
    let all = old.behind token before in
    let more = count_new text seen token sound (others_differ token seen all) in
    let whole = one_count text (seen ++ token ∷ []) sound in
    let earlier = one_count text seen sound in
    let counted = old.counted in
    record {
      counted = omega (arith, more, whole, earlier, counted, is);
      behind = λ next after. all_append (λ other. ComesBefore other next) seen (token ∷ []) (all_weaker (λ other. ComesBefore other token) (λ other. ComesBefore other next) (λ other b. before_trans other token next b after) seen all) (after, tt);
    }

-- the operands so far and one more
operands_more : (exprs : List Expr) (i : ℕ) (expr : Expr) → i < length exprs → expr ≡ get_or exprs i expr → map form_of (take (i + 1) exprs) ≡ map form_of (take i exprs) ++ form_of expr ∷ []
operands_more exprs i expr lt at =
    ap (map form_of) (take_more exprs i expr lt) ∙ map-append form_of (take i exprs) (get_or exprs i expr ∷ []) ∙ ap (λ e. map form_of (take i exprs) ++ form_of e ∷ []) (sym at)

trees-push : (forms : List Form) (form : Form) → are_term_trees (forms_from forms) ≡ true → is_term_tree form ≡ true → are_term_trees (forms_from (forms ++ form ∷ [])) ≡ true
trees-push [] form all tree = and_from _ _ tree refl
trees-push (f ∷ forms) form all tree = let parts = and_parts (is_term_tree f) (are_term_trees (forms_from forms)) all in and_from _ _ parts.0 (trees-push forms form parts.1 tree)

join : {X : Type 0} (xs ys zs : List X) → xs ++ (ys ++ zs) ≡ (xs ++ ys) ++ zs
join [] ys zs = refl
join (x ∷ xs) ys zs = ap (λ l. x ∷ l) (join xs ys zs)

nothing_more : {X : Type 0} (xs : List X) → xs ++ [] ≡ xs
nothing_more [] = refl
nothing_more (x ∷ xs) = ap (λ l. x ∷ l) (nothing_more xs)

leaves-push : (forms : List Form) (form : Form) → all_leaf_tokens (forms_from (forms ++ form ∷ [])) ≡ all_leaf_tokens (forms_from forms) ++ leaf_tokens form
leaves-push [] form = nothing_more (leaf_tokens form)
leaves-push (f ∷ forms) form = ap (λ l. leaf_tokens f ++ l) (leaves-push forms form) ∙ join (leaf_tokens f) (all_leaf_tokens (forms_from forms)) (leaf_tokens form)

pub trees_more : (exprs : List Expr) (i : ℕ) (expr : Expr) → i < length exprs → expr ≡ get_or exprs i expr → are_term_trees (forms_from (map form_of (take i exprs))) ≡ true → is_term_tree (form_of expr) ≡ true →
    are_term_trees (forms_from (map form_of (take (i + 1) exprs))) ≡ true
trees_more exprs i expr lt at all tree =
    ap (λ forms. are_term_trees (forms_from forms)) (operands_more exprs i expr lt at) ∙ trees-push (map form_of (take i exprs)) (form_of expr) all tree

pub leaves_more : (seen : List (List ℕ)) (exprs : List Expr) (i : ℕ) (expr : Expr) → i < length exprs → expr ≡ get_or exprs i expr →
    (seen ++ all_leaf_tokens (forms_from (map form_of (take i exprs)))) ++ leaf_tokens (form_of expr) ≡ seen ++ all_leaf_tokens (forms_from (map form_of (take (i + 1) exprs)))
leaves_more seen exprs i expr lt at =
    sym (join seen (all_leaf_tokens (forms_from (map form_of (take i exprs)))) (leaf_tokens (form_of expr)))
    ∙ ap (λ l. seen ++ l) (sym (leaves-push (map form_of (take i exprs)) (form_of expr)) ∙ ap (λ forms. all_leaf_tokens (forms_from forms)) (sym (operands_more exprs i expr lt at)))

pub no_operands : (text : Text) (seen : List (List ℕ)) (count : ℕ) (last : List ℕ) → IsSumOf text seen count last → IsSumOf text (seen ++ []) count last
no_operands text seen count last is = subst (λ s. IsSumOf text s count last) (sym (nothing_more seen)) is

-- the sum over a tree is the number of its members
pub tree_count : (text : Text) (form : Form) (count : ℕ) (last : List ℕ) → is_term_tree form ≡ true → IsSumOf text (leaf_tokens form) count last → count ≡ length (concordance text form)
tree_count text form count last tree sum = sum.counted ∙ ap length (sym (tree_flattens text form tree))
