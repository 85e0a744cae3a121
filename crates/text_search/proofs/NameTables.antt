-- The names of an expression, put into a table one after the other.
use Rattle.std.proofs.Common.{◌≡◌, ℕ, ◌+◌, ◌<◌, Bool, true, false, ◌||◌, List, [], ◌∷◌, ◌++◌, length, map, take, get_or, bytes_eq, Result, Ok, Err, Box, Global, ◌⊎◌, inl, inr, refl, sym, ap, ◌∙◌, subst}
use Rattle.std.specs.declared.alloc.AllocError.{AllocError}
use Rattle.std.specs.Result.{OnOk}
use Rattle.std.proofs.Math.Bool.{or-false}
use Rattle.std.proofs.lemmas.List.{take_more, append_assoc, append-nil}
use Rattle.std.proofs.lemmas.List.Folds.{list_any-append}
use Rattle.gcl_model.specs.declared.expr.Expr.{Expr, Containing, ContainedIn, NotContaining, NotContainedIn}
use Rattle.plain_text.proofs.Operands.{form_of-Containing, form_of-ContainedIn, form_of-NotContaining, form_of-NotContainedIn}
use Rattle.gcl_model.specs.FormOf.{form_of, forms_from}
use Rattle.text_search.specs.Names.{names_of, names_in, is_named}
use Rattle.text_search.specs.Tables.{Names}

or_group : (a b c : Bool) → ((a || b) || c) ≡ (a || (b || c))
or_group true b c = refl
or_group false b c = refl

pub names_none : (names : List (List ℕ)) → Names names names []
names_none names token = sym (or-false (is_named names token))

pub names_then : (a b c xs ys : List (List ℕ)) → Names a b xs → Names b c ys → Names a c (xs ++ ys)
names_then a b c xs ys h k token =
    k token ∙ ap (λ s. s || is_named ys token) (h token) ∙ or_group (is_named a token) (is_named xs token) (is_named ys token)
    ∙ ap (λ s. is_named a token || s) (sym (list_any-append (λ name. bytes_eq token name) xs ys))

names_in-push : (exprs : List Expr) (e : Expr) → names_in (forms_from (map form_of (exprs ++ e ∷ []))) ≡ names_in (forms_from (map form_of exprs)) ++ names_of (form_of e)
names_in-push [] e = append-nil (names_of (form_of e))
names_in-push (x ∷ exprs) e = ap (λ names. names_of (form_of x) ++ names) (names_in-push exprs e) ∙ sym (append_assoc (names_of (form_of x)) (names_in (forms_from (map form_of exprs))) (names_of (form_of e)))

-- one operand more
pub names_in-more : (exprs : List Expr) (i : ℕ) (e : Expr) → i < length exprs → e ≡ get_or exprs i e
    → names_in (forms_from (map form_of (take (i + 1) exprs))) ≡ names_in (forms_from (map form_of (take i exprs))) ++ names_of (form_of e)
names_in-more exprs i e below is = ap (λ xs. names_in (forms_from (map form_of xs))) (take_more exprs i e below ∙ ap (λ x. take i exprs ++ x ∷ []) (sym is)) ∙ names_in-push (take i exprs) e

-- the same names, written otherwise
pub on_same : (r : Result (Unit {0}) AllocError) (old new xs ys : List (List ℕ)) → xs ≡ ys → OnOk r (Names old new xs) → OnOk r (Names old new ys)
on_same r old new xs ys e h = subst (λ names. OnOk r (Names old new names)) e h

-- the names of a containment are those of both operands
pub two_names : (e : Expr) (a b : Box Expr Global) → (e ≡ Containing a b) ⊎ ((e ≡ ContainedIn a b) ⊎ ((e ≡ NotContaining a b) ⊎ (e ≡ NotContainedIn a b)))
    → names_of (form_of e) ≡ names_of (form_of a.value) ++ names_of (form_of b.value)
two_names e a b (inl is) = ap names_of (ap form_of is ∙ form_of-Containing a b)
two_names e a b (inr (inl is)) = ap names_of (ap form_of is ∙ form_of-ContainedIn a b)
two_names e a b (inr (inr (inl is))) = ap names_of (ap form_of is ∙ form_of-NotContaining a b)
two_names e a b (inr (inr (inr is))) = ap names_of (ap form_of is ∙ form_of-NotContainedIn a b)

pub on_then : (r : Result (Unit {0}) AllocError) (a b c xs ys : List (List ℕ)) → Names a b xs → OnOk r (Names b c ys) → OnOk r (Names a c (xs ++ ys))
on_then (Ok done) a b c xs ys h k = names_then a b c xs ys h k
on_then (Err e) a b c xs ys h k = tt
