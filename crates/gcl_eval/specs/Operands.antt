-- The operands of a chain, as expressions of the program.
use Rattle.std.specs.Prelude.{ℕ, ◌≤◌, List, map}
use Rattle.gcl_model.specs.declared.expr.Expr.{Expr}
use Rattle.gcl_model.specs.Extents.{Extent}
use Rattle.gcl_model.specs.Texts.{Text}
use Rattle.gcl_model.specs.Forms.{Form, Forms, term, both, one, seq, no_forms, more_forms, forms_count}
use Rattle.gcl_model.specs.FormOf.{form_of, forms_from}
use Rattle.gcl_model.specs.Meaning.{operands}
use Rattle.gcl_model.specs.Cost.{costs}
use Rattle.gcl_model.specs.WellFormed.{AreWellFormed}

-- the forms of the operands, in order
abbrev pub operand_forms : List Expr → Forms
operand_forms exprs = forms_from (map form_of exprs)

-- their concordance lists: of "to" and "be" in `to be` at 1 and 2 these are (1, 1) and (2, 2)
abbrev pub operand_lists : Text → List Expr → List (List Extent)
operand_lists text exprs = operands text (operand_forms exprs)

-- how many look-ups one access of each of them may make in all: of two terms 2, if a look-up is one step
abbrev pub operand_costs : Text → ℕ → List Expr → ℕ
operand_costs text most exprs = costs text most (operand_forms exprs)

-- the form is a chain: "to" ^ "be" is one, and "to" is none
abbrev pub IsChain : Form → Type 0
IsChain (both forms) = Unit {0}
IsChain (one forms) = Unit {0}
IsChain (seq forms) = Unit {0}
IsChain _ = ⊥

-- there are two of them or more, each well formed
pub record AreOperands (forms : Forms) : Type 0 where
  pub several : 2 ≤ forms_count forms
  pub each : AreWellFormed forms

-- the form of "followed by" for two terms, whose members are elements: of "to" and "be" it is that of "to".."be"
abbrev pub element_form : (first second : List ℕ) → Form
element_form first second = seq (more_forms (term first) (more_forms (term second) no_forms))
