-- An expression and its expansions, operand by operand.
use Rattle.std.proofs.Common.{◌≡◌, ℕ, zero, suc, ◌+◌, ◌<◌, ◌≤◌, leb, List, [], ◌∷◌, length, map, drop, get_or, Option, Some, None, ◌⊎◌, inl, inr, Box, Global, refl, sym, ap, ◌∙◌, subst, arith}
use Rattle.gcl_locality.specs.Changed.{later_end, back_to, on_to, changed_from, changed_upto}
use Rattle.gcl_model.specs.Access.{last_start}
use Rattle.gcl_model.specs.Extents.{Extent}
use denote.Param.Weighed.{most}
use Rattle.gcl_model.specs.declared.expr.Expr.{Expr, ContainedIn, NotContainedIn, size-Expr}
use Rattle.gcl_model.specs.declared.expr.Expr.TheOpen as F
use Rattle.gcl_model.specs.declared.expr.Expr.TheVariants.{rolls-ContainedIn, rolls-NotContainedIn}
use Rattle.gcl_model.specs.declared.expr.Expr.TheFolds.{fold-roll-Expr}
use Rattle.gcl_model.specs.FormOf.{form_of, form_step, forms_from}
use Rattle.gcl_model.specs.Forms.{Form, Forms, width, contained_in, not_contained_in, no_forms, more_forms}
use Rattle.gcl_model.specs.Limits.{address_end}
use Rattle.gcl_model.specs.Meaning.{concordance, denotes}
use Rattle.gcl_model.specs.Texts.{Text, IsText}
use Rattle.gcl_model.specs.WellFormed.{IsWellFormed, AreWellFormed}
use Rattle.gcl_model.proofs.Covers.{of_each, find_last_gives}
use Rattle.gcl_model.proofs.Lists.{drop_here}
use Rattle.gcl_model.proofs.Meanings.{IsOf, each_of_text}
use Rattle.gcl_model.specs.Wide.{wide}
use Rattle.wide_terms.specs.Expansion.{expansion, expansions}
use Rattle.wide_terms.specs.Laws.{ExpansionsAreWide}
use Rattle.standing_query.specs.inner.Walks.{second_operand}

-- no member ends behind the addresses
pub on_to_within : (text : Text) (form : Form) → IsText text → (p k : ℕ) → p < address_end → on_to p (concordance text form) k < address_end
on_to_within text form sound p k below = here (last_start (concordance text form) k) refl
  where
    here : (o : Option Extent) → last_start (concordance text form) k ≡ o → later_end p o < address_end
    here None none = below
    here (Some a) some =
        let of = of_each (IsOf text) (concordance text form) a (each_of_text text (denotes text form)) (find_last_gives (λ c. leb c.start k) (concordance text form) a some).0 in
        omega (arith, below, of.below, sound.in_range)

abbrev first_form : Forms → Form
first_form no_forms = width 0
first_form (more_forms form forms) = form

abbrev later_forms : Forms → Forms
later_forms no_forms = no_forms
later_forms (more_forms form forms) = forms

abbrev are_some : Forms → ℕ
are_some no_forms = 0
are_some (more_forms form forms) = 1

module _ (text : Text) where
  -- the second expressions are the expansions of the first
  abbrev pub AreExpansions : List Expr → List Expr → Type 0
  AreExpansions exprs others = forms_from (map form_of others) ≡ expansions text (forms_from (map form_of exprs))

  pub expansions_length : (exprs others : List Expr) → AreExpansions exprs others → length others ≡ length exprs
  expansions_length [] [] are = refl
  expansions_length [] (y ∷ ys) are = let h = ap are_some are in absurd (omega (arith, h))
  expansions_length (x ∷ xs) [] are = let h = ap are_some are in absurd (omega (arith, h))
  expansions_length (x ∷ xs) (y ∷ ys) are = ap suc (expansions_length xs ys (ap later_forms are))

  expansions_drop : (i : ℕ) (exprs others : List Expr) → AreExpansions exprs others → AreExpansions (drop i exprs) (drop i others)
  expansions_drop zero exprs others are = are
  expansions_drop (suc i) [] [] are = are
  expansions_drop (suc i) [] (y ∷ ys) are = let h = ap are_some are in absurd (omega (arith, h))
  expansions_drop (suc i) (x ∷ xs) [] are = let h = ap are_some are in absurd (omega (arith, h))
  expansions_drop (suc i) (x ∷ xs) (y ∷ ys) are = expansions_drop i xs ys (ap later_forms are)

  -- so each is the expansion of its own
  pub expansion_at : (i : ℕ) (exprs others : List Expr) (x y : Expr) → AreExpansions exprs others → i < length exprs → x ≡ get_or exprs i x → y ≡ get_or others i y → form_of y ≡ expansion text (form_of x)
  expansion_at i exprs others x y are within at at_other =
      let same = expansions_length exprs others are in
      let here = subst (λ (l : List Expr). AreExpansions l (drop i others)) (drop_here exprs i x within at) (expansions_drop i exprs others are) in
      let there = subst (λ (l : List Expr). AreExpansions (x ∷ drop (i + 1) exprs) l) (drop_here others i y (omega (arith, same, within)) at_other) here in
      ap first_form there

well_formed_drop : (i : ℕ) (exprs : List Expr) → AreWellFormed (forms_from (map form_of exprs)) → AreWellFormed (forms_from (map form_of (drop i exprs)))
well_formed_drop zero exprs well = well
well_formed_drop (suc i) [] well = tt
well_formed_drop (suc i) (x ∷ xs) well = well_formed_drop i xs well.1

-- each operand is well formed if all are
pub well_formed_at : (i : ℕ) (exprs : List Expr) (x : Expr) → AreWellFormed (forms_from (map form_of exprs)) → i < length exprs → x ≡ get_or exprs i x → IsWellFormed (form_of x)
well_formed_at i exprs x well within at = (subst (λ (l : List Expr). AreWellFormed (forms_from (map form_of l))) (drop_here exprs i x within at) (well_formed_drop i exprs well)).0

-- an operand is no deeper than the deepest one
pub size_at : (i : ℕ) (exprs : List Expr) (x : Expr) → i < length exprs → x ≡ get_or exprs i x → size-Expr x ≤ most size-Expr exprs
size_at i [] x within at = absurd (omega (arith, within))
size_at zero (y ∷ ys) x within at = let e = ap size-Expr at in omega (arith, e)
size_at (suc i) (y ∷ ys) x within at = let rest = size_at i ys x (omega (arith, within)) at in omega (arith, rest)

form_of-ContainedIn : (a b : Box Expr Global) → form_of (ContainedIn a b) ≡ contained_in (form_of a.value) (form_of b.value)
form_of-ContainedIn a b = ap form_of (sym (rolls-ContainedIn a b)) ∙ fold-roll-Expr Form form_step (F.ContainedIn a b)

form_of-NotContainedIn : (a b : Box Expr Global) → form_of (NotContainedIn a b) ≡ not_contained_in (form_of a.value) (form_of b.value)
form_of-NotContainedIn a b = ap form_of (sym (rolls-NotContainedIn a b)) ∙ fold-roll-Expr Form form_step (F.NotContainedIn a b)

-- the form asks what its members lie in
abbrev pub LooksInto : Form → Form → Form → Type 0
LooksInto form a b = (form ≡ contained_in a b) ⊎ (form ≡ not_contained_in a b)

pub looks_into : (expr : Expr) (a b : Box Expr Global) → (expr ≡ ContainedIn a b) ⊎ (expr ≡ NotContainedIn a b) → LooksInto (form_of expr) (form_of a.value) (form_of b.value)
looks_into expr a b (inl is) = inl (ap form_of is ∙ form_of-ContainedIn a b)
looks_into expr a b (inr is) = inr (ap form_of is ∙ form_of-NotContainedIn a b)

-- the second operand of an expansion has the wide list of the second operand
module _ (wide_lists : ExpansionsAreWide) (form a b : Form) (into : LooksInto form a b) where
  second_is : (text : Text) → second_operand (expansion text form) ≡ expansion text b
  second_is text = elim into [ inl is ↦ ap (λ f. second_operand (expansion text f)) is | inr is ↦ ap (λ f. second_operand (expansion text f)) is ]

  second_list : (text : Text) (expanded second : Form) → expanded ≡ expansion text form → second ≡ second_operand expanded → concordance text second ≡ wide text b
  second_list text expanded second is at = ap (concordance text) (at ∙ ap second_operand is ∙ second_is text) ∙ wide_lists text b

  module _ (old new : Text) (old_form new_form old_second new_second : Form) (old_is : old_form ≡ expansion old form) (new_is : new_form ≡ expansion new form)
      (old_at : old_second ≡ second_operand old_form) (new_at : new_second ≡ second_operand new_form) where
    pub reaches_from : (from p k low lower : ℕ) → p ≡ changed_from old new from a → k ≡ changed_from old new from b → low ≡ back_to p (concordance old old_second) k → lower ≡ back_to low (concordance new new_second) k →
        lower ≡ changed_from old new from form
    reaches_from from p k low lower first second old_low new_low =
        let is : lower ≡ back_to (back_to (changed_from old new from a) (wide old b) (changed_from old new from b)) (wide new b) (changed_from old new from b) = new_low ∙ ap (λ l. back_to low l k) (second_list new new_form new_second new_is new_at)
        ∙ ap (λ n. back_to n (wide new b) k) (old_low ∙ ap (λ l. back_to p l k) (second_list old old_form old_second old_is old_at))
        ∙ ap (λ n. back_to (back_to n (wide old b) k) (wide new b) k) first
        ∙ ap (λ n. back_to (back_to (changed_from old new from a) (wide old b) n) (wide new b) n) second in
        elim into [ inl at ↦ is ∙ ap (changed_from old new from) (sym at) | inr at ↦ is ∙ ap (changed_from old new from) (sym at) ]

    pub reaches_upto : (upto p k high higher : ℕ) → p ≡ changed_upto old new upto a → k ≡ changed_upto old new upto b → high ≡ on_to p (concordance old old_second) k → higher ≡ on_to high (concordance new new_second) k →
        higher ≡ changed_upto old new upto form
    reaches_upto upto p k high higher first second old_high new_high =
        let is : higher ≡ on_to (on_to (changed_upto old new upto a) (wide old b) (changed_upto old new upto b)) (wide new b) (changed_upto old new upto b) = new_high ∙ ap (λ l. on_to high l k) (second_list new new_form new_second new_is new_at)
        ∙ ap (λ n. on_to n (wide new b) k) (old_high ∙ ap (λ l. on_to p l k) (second_list old old_form old_second old_is old_at))
        ∙ ap (λ n. on_to (on_to n (wide old b) k) (wide new b) k) first
        ∙ ap (λ n. on_to (on_to (changed_upto old new upto a) (wide old b) n) (wide new b) n) second in
        elim into [ inl at ↦ is ∙ ap (changed_upto old new upto) (sym at) | inr at ↦ is ∙ ap (changed_upto old new upto) (sym at) ]
