-- The operands of a chain: one and the others.
use Rattle.std.proofs.Common.{◌≡◌, ℕ, ◌+◌, ◌≤◌, List, [], ◌∷◌, ◌++◌, Option, Vec, Global, refl, sym, ap, ◌∙◌, subst, arith}
use denote.Param.Weighed.{most, most-append}
use Rattle.gcl_model.specs.declared.expr.Expr.{Expr, Both, One, Seq, size-Expr}
use Rattle.gcl_model.specs.Extents.{Extent}
use Rattle.gcl_model.specs.Texts.{Text}
use Rattle.gcl_model.specs.Forms.{Form, both, one, seq}
use Rattle.gcl_model.specs.FormOf.{form_of}
use Rattle.gcl_model.specs.WellFormed.{IsWellFormed, AreWellFormed}
use Rattle.gcl_model.specs.Meaning.{concordance}
use Rattle.gcl_model.specs.Cost.{cost}
use Rattle.gcl_model.proofs.FormLemmas.{form_of-Both, form_of-One, form_of-Seq}
use Rattle.gcl_eval.specs.Operands.{operand_forms, operand_lists, operand_costs}
use Rattle.gcl_model.specs.Directions.{near_access, far_access}
use Rattle.gcl_eval.specs.Directions.{beside}
use Rattle.gcl_model.specs.declared.direction.Direction.{Direction}
use Rattle.gcl_model.specs.declared.direction.Direction.TheVariants.{Forward, Backward}

lists_at_end : (text : Text) (x : Expr) (others : List Expr) → operand_lists text (others ++ x ∷ []) ≡ operand_lists text others ++ concordance text (form_of x) ∷ []
lists_at_end text x [] = refl
lists_at_end text x (y ∷ others) = ap (λ lists. concordance text (form_of y) ∷ lists) (lists_at_end text x others)

pub lists_beside : (direction : Direction) (text : Text) (exprs : List Expr) (x : Expr) (others : List Expr) → exprs ≡ beside direction x others →
    operand_lists text exprs ≡ beside direction (concordance text (form_of x)) (operand_lists text others)
lists_beside Forward text exprs x others e = ap (operand_lists text) e
lists_beside Backward text exprs x others e = ap (operand_lists text) e ∙ lists_at_end text x others

costs_at_end : (text : Text) (bound : ℕ) (x : Expr) (others : List Expr) → operand_costs text bound (others ++ x ∷ []) ≡ cost text bound (form_of x) + operand_costs text bound others
costs_at_end text bound x [] = refl
costs_at_end text bound x (y ∷ others) = omega (arith, costs_at_end text bound x others)

pub costs_beside : (direction : Direction) (text : Text) (bound : ℕ) (exprs : List Expr) (x : Expr) (others : List Expr) → exprs ≡ beside direction x others →
    operand_costs text bound exprs ≡ cost text bound (form_of x) + operand_costs text bound others
costs_beside Forward text bound exprs x others e = ap (operand_costs text bound) e
costs_beside Backward text bound exprs x others e = ap (operand_costs text bound) e ∙ costs_at_end text bound x others

-- an operand and the others are well formed
pub record AreParts (x : Expr) (others : List Expr) : Type 0 where
  pub operand : IsWellFormed (form_of x)
  pub rest : AreWellFormed (operand_forms others)

parts_at_end : (x : Expr) (others : List Expr) → AreWellFormed (operand_forms (others ++ x ∷ [])) → AreParts x others
parts_at_end x [] a = record { operand = a.0; rest = tt }
parts_at_end x (y ∷ others) a =
    let later = parts_at_end x others a.1 in
    record { operand = later.operand; rest = (a.0, later.rest) }

pub parts_beside : (direction : Direction) (exprs : List Expr) (x : Expr) (others : List Expr) → exprs ≡ beside direction x others → AreWellFormed (operand_forms exprs) → AreParts x others
parts_beside Forward exprs x others e a =
    let b = subst (λ es. AreWellFormed (operand_forms es)) e a in
    record { operand = b.0; rest = b.1 }
parts_beside Backward exprs x others e a = parts_at_end x others (subst (λ es. AreWellFormed (operand_forms es)) e a)

-- neither an operand nor the others lie deeper than all of them
pub record AreNoDeeper (exprs : List Expr) (x : Expr) (others : List Expr) : Type 0 where
  pub operand : size-Expr x ≤ most size-Expr exprs
  pub rest : most size-Expr others ≤ most size-Expr exprs

pub depth_beside : (direction : Direction) (exprs : List Expr) (x : Expr) (others : List Expr) → exprs ≡ beside direction x others → AreNoDeeper exprs x others
depth_beside Forward exprs x others e = let is = ap (most size-Expr) e in record { operand = omega arith; rest = omega arith }
depth_beside Backward exprs x others e =
    let is = ap (most size-Expr) e ∙ most-append size-Expr others (x ∷ []) in
    record { operand = omega arith; rest = omega arith }

-- the form of a chain, by its kind
pub form-Both : (e : Expr) (v : Vec Expr Global) (exprs : List Expr) → e ≡ Both v → exprs ≡ v.items → form_of e ≡ both (operand_forms exprs)
form-Both e v exprs is same = ap form_of is ∙ form_of-Both v ∙ ap (λ es. both (operand_forms es)) (sym same)

pub form-One : (e : Expr) (v : Vec Expr Global) (exprs : List Expr) → e ≡ One v → exprs ≡ v.items → form_of e ≡ one (operand_forms exprs)
form-One e v exprs is same = ap form_of is ∙ form_of-One v ∙ ap (λ es. one (operand_forms es)) (sym same)

pub form-Seq : (e : Expr) (v : Vec Expr Global) (exprs : List Expr) → e ≡ Seq v → exprs ≡ v.items → form_of e ≡ seq (operand_forms exprs)
form-Seq e v exprs is same = ap form_of is ∙ form_of-Seq v ∙ ap (λ es. seq (operand_forms es)) (sym same)

-- an access is known by the form
pub by_form-near : (e : Expr) (form : Form) → form_of e ≡ form → (direction : Direction) (text : Text) (k : ℕ) (o : Option Extent) → o ≡ near_access direction (concordance text form) k →
    o ≡ near_access direction (concordance text (form_of e)) k
by_form-near e form is direction text k o found = found ∙ ap (λ f. near_access direction (concordance text f) k) (sym is)

pub by_form-far : (e : Expr) (form : Form) → form_of e ≡ form → (direction : Direction) (text : Text) (k : ℕ) (o : Option Extent) → o ≡ far_access direction (concordance text form) k →
    o ≡ far_access direction (concordance text (form_of e)) k
by_form-far e form is direction text k o found = found ∙ ap (λ f. far_access direction (concordance text f) k) (sym is)
