-- What is found over the named words of a file is found over the file.
use Rattle.std.proofs.Common.{◌≡◌, ℕ, ◌+◌, ◌*◌, ◌≤◌, List, length, take, Result, subst}
use Rattle.std.specs.declared.alloc.AllocError.{AllocError}
use Rattle.std.specs.Result.{IfOk}
use Rattle.gcl_eval.specs.Members.{members_from}
use Rattle.gcl_model.specs.Cost.{cost}
use Rattle.gcl_model.specs.Extents.{Extent}
use Rattle.gcl_model.specs.Forms.{Form}
use Rattle.gcl_model.specs.Meaning.{concordance}
use Rattle.gcl_model.specs.Texts.{Text}
use Rattle.text_search.specs.FileTexts.{file_text}
use Rattle.text_search.specs.Names.{query_text}
use Rattle.text_search.proofs.NameLemmas.{list_of_file, cost_of_file}

pub page_of_file : (bytes : List ℕ) (text : Text) (form : Form) (k most : ℕ) (r : Result (List Extent) AllocError) → text ≡ query_text bytes form
    → IfOk r (λ members. members ≡ take most (members_from (concordance text form) k)) → IfOk r (λ members. members ≡ take most (members_from (concordance (file_text bytes) form) k))
page_of_file bytes text form k most r is h = subst (λ list. IfOk r (λ members. members ≡ take most (members_from list k))) (list_of_file bytes text form is) h

pub page_cost : (bytes : List ℕ) (text : Text) (form : Form) (k most old new : ℕ) → text ≡ query_text bytes form
    → new ≤ old + (length (take most (members_from (concordance text form) k)) + 1) * cost text 1 form
    → new ≤ old + (length (take most (members_from (concordance (file_text bytes) form) k)) + 1) * cost (file_text bytes) 1 form
page_cost bytes text form k most old new is h =
    subst (λ (n : ℕ). new ≤ old + (length (take most (members_from (concordance (file_text bytes) form) k)) + 1) * n) (cost_of_file bytes text form is)
    (subst (λ (list : List Extent). new ≤ old + (length (take most (members_from list k)) + 1) * cost text 1 form) (list_of_file bytes text form is) h)

pub count_cost : (bytes : List ℕ) (text : Text) (form : Form) (count old new : ℕ) → text ≡ query_text bytes form → new ≤ old + (count + 1) * cost text 1 form → new ≤ old + (count + 1) * cost (file_text bytes) 1 form
count_cost bytes text form count old new is h = subst (λ (n : ℕ). new ≤ old + (count + 1) * n) (cost_of_file bytes text form is) h
