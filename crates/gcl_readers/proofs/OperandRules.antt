-- One operand more of a chain, by its reader.
use Rattle.std.proofs.Common.{◌≡◌, ℕ, ◌+◌, ◌≤◌, List, ◌∷◌, ◌++◌, length, take, drop, refl, sym, ap, ◌∙◌, subst, arith}
use Rattle.std.proofs.lemmas.List.{length-append, take-append-drop}
use Rattle.gcl_model.specs.declared.expr.Expr.{Expr}
use Rattle.gcl_model.specs.Texts.{Text}
use Rattle.gcl_model.specs.Forms.{Form}
use Rattle.gcl_model.specs.FormOf.{form_of}
use Rattle.gcl_model.specs.Meaning.{concordance}
use Rattle.gcl_model.specs.WellFormed.{IsWellFormed, AreWellFormed}
use Rattle.gcl_eval.specs.Operands.{operand_forms, operand_lists}
use Rattle.gcl_readers.specs.declared.front.Place.{Place}
use Rattle.gcl_readers.specs.Agreement.{AllAnswerFrom, AllAnswerInOrder, AnswersFrom}
use Rattle.gcl_readers.specs.Standing.{nodes, nodes_of, start_at, starts_at, size_of, Stands, AllStand}
use Rattle.gcl_readers.proofs.Standings.{nodes_some, first_stands, first_joined, starts_joined}

-- an operand and the places of its node
pub record IsOperand (text : Text) (exprs others : List Expr) (x : Expr) (places mine later : List Place) : Type 0 where
  pub fewer : nodes (form_of x) + nodes_of (operand_forms others) ≡ nodes_of (operand_forms exprs)
  pub some : 1 ≤ nodes (form_of x)
  pub well_formed : IsWellFormed (form_of x)
  pub stands : Stands text (form_of x) mine
  pub starts : starts_at (operand_forms exprs) places ≡ start_at mine ∷ starts_at (operand_forms others) later

at_head : (text : Text) (x : Expr) (others : List Expr) (places mine later : List Place) (size : ℕ) → AreWellFormed (operand_forms (x ∷ others)) → AllStand text (operand_forms (x ∷ others)) places →
    size ≡ size_of places → mine ≡ take size places → later ≡ drop size places → IsOperand text (x ∷ others) others x places mine later
at_head text x others places mine later size w s is front back =
    let f = first_stands text (form_of x) (operand_forms others) places s in
    let n : size ≡ nodes (form_of x) = is ∙ f.size in
    let at : mine ≡ take (nodes (form_of x)) places = front ∙ ap (λ m. take m places) n in
    let on : later ≡ drop (nodes (form_of x)) places = back ∙ ap (λ m. drop m places) n in
    record {
      fewer = refl;
      some = nodes_some (form_of x);
      well_formed = w.0;
      stands = subst (Stands text (form_of x)) (sym at) f.first;
      starts = ap (λ p. start_at p ∷ starts_at (operand_forms others) (drop (nodes (form_of x)) places)) (sym at) ∙ ap (λ p. start_at mine ∷ starts_at (operand_forms others) p) (sym on);
    }

pub operand_at : (text : Text) (exprs others : List Expr) (x : Expr) → exprs ≡ x ∷ others → (places mine later : List Place) (size : ℕ) → AreWellFormed (operand_forms exprs) → AllStand text (operand_forms exprs) places →
    size ≡ size_of places → mine ≡ take size places → later ≡ drop size places → IsOperand text exprs others x places mine later
operand_at text exprs others x e places mine later size w s is front back =
    subst (λ es. IsOperand text es others x places mine later) (sym e)
    (at_head text x others places mine later size (subst (λ es. AreWellFormed (operand_forms es)) e w) (subst (λ es. AllStand text (operand_forms es) places) e s) is front back)

-- after the operand and the others were asked
pub starts_after : (text : Text) (exprs others : List Expr) (x : Expr) → exprs ≡ x ∷ others → (mine later : List Place) → Stands text (form_of x) mine →
    starts_at (operand_forms exprs) (mine ++ later) ≡ start_at mine ∷ starts_at (operand_forms others) later
starts_after text exprs others x e mine later s = ap (λ es. starts_at (operand_forms es) (mine ++ later)) e ∙ starts_joined (form_of x) (operand_forms others) mine later s.count

pub answers_joined : (text : Text) (exprs others : List Expr) (x : Expr) → exprs ≡ x ∷ others → (mine later : List Place) (k : ℕ) → Stands text (form_of x) mine → AnswersFrom (concordance text (form_of x)) (start_at mine) k →
    AllAnswerFrom (operand_lists text others) (starts_at (operand_forms others) later) k → AllAnswerFrom (operand_lists text exprs) (starts_at (operand_forms exprs) (mine ++ later)) k
answers_joined text exprs others x e mine later k s answers rest =
    subst (λ es. AllAnswerFrom (operand_lists text es) (starts_at (operand_forms exprs) (mine ++ later)) k) (sym e)
    (subst (λ xs. AllAnswerFrom (operand_lists text (x ∷ others)) xs k) (sym (starts_after text exprs others x e mine later s)) (answers, rest))

pub in_order_joined : (text : Text) (exprs others : List Expr) (x : Expr) → exprs ≡ x ∷ others → (mine later : List Place) (k : ℕ) → Stands text (form_of x) mine →
    AllAnswerInOrder (concordance text (form_of x) ∷ operand_lists text others) (start_at mine ∷ starts_at (operand_forms others) later) k → AllAnswerInOrder (operand_lists text exprs) (starts_at (operand_forms exprs) (mine ++ later)) k
in_order_joined text exprs others x e mine later k s answers =
    subst (λ es. AllAnswerInOrder (operand_lists text es) (starts_at (operand_forms exprs) (mine ++ later)) k) (sym e)
    (subst (λ xs. AllAnswerInOrder (operand_lists text (x ∷ others)) xs k) (sym (starts_after text exprs others x e mine later s)) answers)

-- the first operand answers as its whole list does
pub first_answers : (text : Text) (exprs others : List Expr) (x : Expr) → exprs ≡ x ∷ others → (places : List Place) (mine later : List Place) (k : ℕ) → starts_at (operand_forms exprs) places ≡ start_at mine ∷ starts_at (operand_forms others) later →
    AllAnswerFrom (operand_lists text exprs) (starts_at (operand_forms exprs) places) k → AnswersFrom (concordance text (form_of x)) (start_at mine) k
first_answers text exprs others x e places mine later k starts all =
    (subst (λ es. AllAnswerFrom (operand_lists text es) (start_at mine ∷ starts_at (operand_forms others) later) k) e (subst (λ xs. AllAnswerFrom (operand_lists text exprs) xs k) starts all)).0

pub first_in_order : (text : Text) (exprs others : List Expr) (x : Expr) → exprs ≡ x ∷ others → (places : List Place) (mine later : List Place) (k : ℕ) → starts_at (operand_forms exprs) places ≡ start_at mine ∷ starts_at (operand_forms others) later →
    AllAnswerInOrder (operand_lists text exprs) (starts_at (operand_forms exprs) places) k → AllAnswerInOrder (concordance text (form_of x) ∷ operand_lists text others) (start_at mine ∷ starts_at (operand_forms others) later) k
first_in_order text exprs others x e places mine later k starts all =
    subst (λ es. AllAnswerInOrder (operand_lists text es) (start_at mine ∷ starts_at (operand_forms others) later) k) e (subst (λ xs. AllAnswerInOrder (operand_lists text exprs) xs k) starts all)

-- the others stand as they did
pub others_stand : (text : Text) (exprs others : List Expr) (x : Expr) → exprs ≡ x ∷ others → (places later : List Place) (size : ℕ) → AllStand text (operand_forms exprs) places → size ≡ size_of places → later ≡ drop size places →
    AllStand text (operand_forms others) later
others_stand text exprs others x e places later size s is back =
    let f = first_stands text (form_of x) (operand_forms others) places (subst (λ es. AllStand text (operand_forms es) places) e s) in
    subst (AllStand text (operand_forms others)) (sym (back ∙ ap (λ m. drop m places) (is ∙ f.size))) f.rest

pub stands_joined : (text : Text) (exprs others : List Expr) (x : Expr) → exprs ≡ x ∷ others → (mine later : List Place) → Stands text (form_of x) mine → AllStand text (operand_forms others) later →
    AllStand text (operand_forms exprs) (mine ++ later)
stands_joined text exprs others x e mine later s t = subst (λ es. AllStand text (operand_forms es) (mine ++ later)) (sym e) (first_joined text (form_of x) (operand_forms others) mine later s t)

-- as many places as before
pub joined_length : (text : Text) (form : Form) (places mine later : List Place) (size : ℕ) → mine ≡ take size places → later ≡ drop size places → Stands text form mine → (mine_after later_after : List Place) → Stands text form mine_after →
    length later_after ≡ length later → length (mine_after ++ later_after) ≡ length places
joined_length text form places mine later size front back s mine_after later_after t same =
    let whole : length mine + length later ≡ length places = sym (length-append mine later) ∙ ap (λ l. length (l ++ later)) front ∙ ap (λ l. length (take size places ++ l)) back ∙ ap length (take-append-drop size places) in
    let m : length mine_after ≡ length mine = t.count ∙ sym s.count in
    length-append mine_after later_after ∙ omega (arith, whole, m, same)
