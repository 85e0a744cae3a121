-- A query may carry a proof that its expression is well formed, since there is one at most.
use Rattle.std.specs.Prelude.{Result, Ok, Err, IfOk}
use Rattle.std.specs.Global.{Global}
use Rattle.std.specs.declared.sync.Arc.{Arc}
use Rattle.std.specs.Coded.{×_prop, Unit-prop, le_prop}
use Rattle.gcl_model.specs.Forms.{Form, Forms, term, phrase, width, both, one, seq, containing, contained_in, not_containing, not_contained_in, no_forms, more_forms}
use Rattle.gcl_model.specs.FormOf.{form_of}
use Rattle.gcl_model.specs.WellFormed.{IsWellFormed, AreWellFormed}
use Rattle.gcl_model.specs.declared.expr.Expr.{Expr}
use Rattle.gcl_parser.specs.declared.fault.QueryFault.{QueryFault}

mutual
  -- a form is well formed in one way at most
  pub IsWellFormed-prop : (form : Form) → IsProp (IsWellFormed form)
  IsWellFormed-prop (term token) = Unit-prop
  IsWellFormed-prop (phrase tokens) = le_prop
  IsWellFormed-prop (width n) = ×_prop le_prop le_prop
  IsWellFormed-prop (both forms) = ×_prop le_prop (AreWellFormed-prop forms)
  IsWellFormed-prop (one forms) = ×_prop le_prop (AreWellFormed-prop forms)
  IsWellFormed-prop (seq forms) = ×_prop le_prop (AreWellFormed-prop forms)
  IsWellFormed-prop (containing a b) = ×_prop (IsWellFormed-prop a) (IsWellFormed-prop b)
  IsWellFormed-prop (contained_in a b) = ×_prop (IsWellFormed-prop a) (IsWellFormed-prop b)
  IsWellFormed-prop (not_containing a b) = ×_prop (IsWellFormed-prop a) (IsWellFormed-prop b)
  IsWellFormed-prop (not_contained_in a b) = ×_prop (IsWellFormed-prop a) (IsWellFormed-prop b)

  -- and so are several
  pub AreWellFormed-prop : (forms : Forms) → IsProp (AreWellFormed forms)
  AreWellFormed-prop no_forms = Unit-prop
  AreWellFormed-prop (more_forms form forms) = ×_prop (IsWellFormed-prop form) (AreWellFormed-prop forms)

-- and so is a query that is not refused
pub query-prop : (query : Result (Arc Expr Global) QueryFault) → IsProp (IfOk query (λ expr. IsWellFormed (form_of expr.value)))
query-prop (Ok expr) = IsWellFormed-prop (form_of expr.value)
query-prop (Err fault) = Unit-prop
