-- The list of an expression, by the lists of its operands.
use Rattle.std.proofs.Common.{◌≡◌, ℕ, Bool, not, List, map, filter, Vec, Box, Global, Result, sym, ap, ◌∙◌}
use Rattle.std.specs.declared.alloc.AllocError.{AllocError}
use Rattle.std.specs.Result.{IfOk}
use Rattle.std.proofs.lemmas.Result.{IfOk-weaker}
use Rattle.gcl_model.specs.declared.expr.Expr.{Expr, Both, One, Seq, Containing, ContainedIn, NotContaining, NotContainedIn}
use Rattle.gcl_model.specs.declared.expr.Expr.TheOpen as F
use Rattle.gcl_model.specs.declared.expr.Expr.TheVariants.{rolls-Containing, rolls-ContainedIn, rolls-NotContaining, rolls-NotContainedIn}
use Rattle.gcl_model.specs.declared.expr.Expr.TheFolds.{fold-roll-Expr}
use Rattle.gcl_model.specs.Extents.{Extent, covers, is_inside, minimal, all_extents}
use Rattle.gcl_model.specs.Texts.{Text}
use Rattle.gcl_model.specs.declared.containment.Containment.{Containment}
use Rattle.gcl_model.specs.declared.containment.Containment.TheVariants as C
use Rattle.plain_text.specs.Containments.{keeps}
use Rattle.gcl_model.specs.Forms.{Form, containing, contained_in, not_containing, not_contained_in}
use Rattle.gcl_model.specs.FormOf.{form_of, form_step, forms_from, containment_form}
use Rattle.gcl_model.specs.Meaning.{concordance, denotes, operands, extents_where, is_minimal, all_cover, any_contains, runs_in_order}
use Rattle.gcl_model.proofs.FormLemmas.{form_of-Both, form_of-One, form_of-Seq}
use Rattle.gcl_model.proofs.Meanings.{filter_and, minimal_list}

pub form_of-Containing : (a b : Box Expr Global) → form_of (Containing a b) ≡ containing (form_of a.value) (form_of b.value)
form_of-Containing a b = ap form_of (sym (rolls-Containing a b)) ∙ fold-roll-Expr Form form_step (F.Containing a b)

pub form_of-ContainedIn : (a b : Box Expr Global) → form_of (ContainedIn a b) ≡ contained_in (form_of a.value) (form_of b.value)
form_of-ContainedIn a b = ap form_of (sym (rolls-ContainedIn a b)) ∙ fold-roll-Expr Form form_step (F.ContainedIn a b)

pub form_of-NotContaining : (a b : Box Expr Global) → form_of (NotContaining a b) ≡ not_containing (form_of a.value) (form_of b.value)
form_of-NotContaining a b = ap form_of (sym (rolls-NotContaining a b)) ∙ fold-roll-Expr Form form_step (F.NotContaining a b)

pub form_of-NotContainedIn : (a b : Box Expr Global) → form_of (NotContainedIn a b) ≡ not_contained_in (form_of a.value) (form_of b.value)
form_of-NotContainedIn a b = ap form_of (sym (rolls-NotContainedIn a b)) ∙ fold-roll-Expr Form form_step (F.NotContainedIn a b)

-- a result, by an equal list
equal_list : (r : Result (List Extent) AllocError) (x y : List Extent) → x ≡ y → IfOk r (λ l. l ≡ x) → IfOk r (λ l. l ≡ y)
equal_list r x y e h = IfOk-weaker r (λ l. l ≡ x) (λ l. l ≡ y) (λ l is. is ∙ e) h

-- the least pairs that pass a test
pub least_answer : (text : Text) (first next : ℕ) (test : Extent → Bool) (passing read : List Extent) (r : Result (List Extent) AllocError) →
    first ≡ text.first → next ≡ text.next → passing ≡ filter test (all_extents first next) → read ≡ passing →
    IfOk r (λ l. l ≡ minimal read) → IfOk r (λ l. l ≡ extents_where text (is_minimal text test))
least_answer text first next test passing read r p q given same h =
    equal_list r (minimal read) (extents_where text (is_minimal text test))
    (ap minimal (same ∙ given ∙ ap (λ n. filter test (all_extents n next)) p ∙ ap (λ n. filter test (all_extents text.first n)) q) ∙ sym (minimal_list text test)) h

-- a chain: its operands are in v, and their lists are given by a slice and read through another
module _ (text : Text) (e : Expr) (v : Vec Expr Global) (exprs : List Expr) (lists read : List (List Extent)) (r : Result (List Extent) AllocError)
    (at : exprs ≡ v.items) (given : lists ≡ operands text (forms_from (map form_of exprs))) (same : read ≡ lists) where
  of_operands : read ≡ operands text (forms_from (map form_of v.items))
  of_operands = same ∙ given ∙ ap (λ es. operands text (forms_from (map form_of es))) at

  pub both_answer : e ≡ Both v → IfOk r (λ l. l ≡ extents_where text (is_minimal text (all_cover read))) → IfOk r (λ l. l ≡ concordance text (form_of e))
  both_answer is h = equal_list r _ _ (ap (λ ls. extents_where text (is_minimal text (all_cover ls))) of_operands ∙ sym (ap (concordance text) (ap form_of is ∙ form_of-Both v))) h

  pub one_answer : e ≡ One v → IfOk r (λ l. l ≡ extents_where text (is_minimal text (any_contains read))) → IfOk r (λ l. l ≡ concordance text (form_of e))
  one_answer is h = equal_list r _ _ (ap (λ ls. extents_where text (is_minimal text (any_contains ls))) of_operands ∙ sym (ap (concordance text) (ap form_of is ∙ form_of-One v))) h

  pub seq_answer : e ≡ Seq v → IfOk r (λ l. l ≡ extents_where text (is_minimal text (runs_in_order read))) → IfOk r (λ l. l ≡ concordance text (form_of e))
  seq_answer is h = equal_list r _ _ (ap (λ ls. extents_where text (is_minimal text (runs_in_order ls))) of_operands ∙ sym (ap (concordance text) (ap form_of is ∙ form_of-Seq v))) h

-- what a containment keeps of the list of one expression by that of another is its list
kept_list : (text : Text) (containment : Containment) (a b : Form) →
    filter (keeps containment (concordance text b)) (concordance text a) ≡ concordance text (containment_form containment a b)
kept_list text C.Containing a b = sym (filter_and (denotes text a) (covers (concordance text b)) (all_extents text.first text.next))
kept_list text C.ContainedIn a b = sym (filter_and (denotes text a) (is_inside (concordance text b)) (all_extents text.first text.next))
kept_list text C.NotContaining a b = sym (filter_and (denotes text a) (λ c. not (covers (concordance text b) c)) (all_extents text.first text.next))
kept_list text C.NotContainedIn a b = sym (filter_and (denotes text a) (λ c. not (is_inside (concordance text b) c)) (all_extents text.first text.next))

-- a containment: the lists of its operands are read through slices
pub containment_answer : (text : Text) (containment : Containment) (a b : Form) (first second first_read second_read : List Extent) (r : Result (List Extent) AllocError) →
    first ≡ concordance text a → second ≡ concordance text b → first_read ≡ first → second_read ≡ second →
    IfOk r (λ l. l ≡ filter (keeps containment second_read) first_read) → IfOk r (λ l. l ≡ concordance text (containment_form containment a b))
containment_answer text containment a b first second first_read second_read r first_given second_given first_same second_same =
    equal_list r (filter (keeps containment second_read) first_read) (concordance text (containment_form containment a b))
    (ap (λ l. filter (keeps containment l) first_read) (second_same ∙ second_given) ∙ ap (filter (keeps containment (concordance text b))) (first_same ∙ first_given) ∙ kept_list text containment a b)
