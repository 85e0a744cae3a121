-- One file, searched by the words that the query names.
use Rattle.std.proofs.Common.{◌≡◌, ℕ, List, take, ap, ◌∙◌, Result, Ok, Err, OnErr}
use Rattle.gcl_model.specs.Forms.{Form}
use Rattle.gcl_model.specs.Meaning.{concordance}
use Rattle.gcl_model.specs.Texts.{Text}
use Rattle.gcl_model.specs.Wide.{wide}
use Rattle.text_search.specs.FileTexts.{file_text}
use Rattle.passages.specs.declared.shown.Shown.{Shown}
use Rattle.file_answers.specs.Outputs.{output_of}
use Rattle.grep_run.specs.Requests.{Request, file_output, shown_name, shown_of}
use Rattle.text_search.specs.Names.{query_text}
use Rattle.wide_terms.specs.Expansion.{expansion}
use Rattle.gcl_readers.specs.MergeCost.{merge_cost}
use Rattle.text_search.proofs.MergeLemmas.{names_decide_the_merge_cost}
use Rattle.text_search.proofs.NameLemmas.{names_decide_the_list}

-- what an expression became over a file, and the file's words that it names
pub record IsOver (bytes : List ℕ) (form over : Form) (text : Text) : Type 0 where
  pub text_is : text ≡ query_text bytes over
  pub form_is : over ≡ expansion (file_text bytes) form
  pub wide_is : concordance (file_text bytes) over ≡ wide (file_text bytes) form

-- the list is that over the whole file
pub list-is : (bytes : List ℕ) (form over : Form) (text : Text) → IsOver bytes form over text → concordance text over ≡ wide (file_text bytes) form
list-is bytes form over text is = ap (λ t. concordance t over) is.text_is ∙ names_decide_the_list (file_text bytes) over ∙ is.wide_is

-- and so is the bound on look-ups
pub looked-is : (bytes : List ℕ) (form over : Form) (text : Text) → IsOver bytes form over text →
    merge_cost text 1 over ≡ merge_cost (file_text bytes) 1 (expansion (file_text bytes) form)
looked-is bytes form over text is =
    ap (λ t. merge_cost t 1 over) is.text_is ∙ names_decide_the_merge_cost (file_text bytes) 1 over ∙ ap (merge_cost (file_text bytes) 1) is.form_is

pub on_err : {T E : Type 0} (r : Result T E) (P : Type 0) → P → OnErr r P
on_err (Ok t) P p = tt
on_err (Err e) P p = p

-- what is written is what is asked of the whole file
pub output-is : (r : Request) (name bytes : List ℕ) (over : Form) (text : Text) (shown : Shown) (label : List ℕ) → IsOver bytes r.form over text → shown ≡ shown_of r name → label ≡ shown_name name →
    output_of r.mode shown label bytes (take r.most (concordance text over)) ≡ file_output r name bytes
output-is r name bytes over text shown label is shown_is label_is =
    ap (λ s. output_of r.mode s label bytes (take r.most (concordance text over))) shown_is
    ∙ ap (λ (n : List ℕ). output_of r.mode (shown_of r name) n bytes (take r.most (concordance text over))) label_is
    ∙ ap (λ l. output_of r.mode (shown_of r name) (shown_name name) bytes (take r.most l)) (list-is bytes r.form over text is)
