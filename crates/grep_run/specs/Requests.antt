-- What is asked of files, and what is written of each.
use Rattle.std.specs.Prelude.{ℕ, Bool, List, codes, bytes_eq, length, nat_lt, take, None, Some, if◌then◌else◌}
use Rattle.gcl_model.specs.Extents.{Extent}
use Rattle.gcl_model.specs.Forms.{Form}
use Rattle.gcl_model.specs.FormOf.{form_of}
use Rattle.gcl_model.specs.Wide.{wide}
use Rattle.text_search.specs.FileTexts.{file_text}
use Rattle.passages.specs.declared.shown.Shown.{Shown}
use Rattle.file_answers.specs.Outputs.{output_of}
use Rattle.file_answers.specs.declared.mode.Mode.{Mode}
use Rattle.grep_run.specs.declared.wish.Wish.{Wish}

-- what is written, whether names and numbers are in front of it, the most answers of a file that count, and the query
pub record Request : Type 0 where
  pub mode : Mode
  pub named : Bool
  pub numbered : Bool
  pub most : ℕ
  pub form : Form

-- what a wish asks for
abbrev pub request_of : Wish → Request
request_of wish = record { mode = wish.asking.mode; named = wish.named; numbered = wish.numbered; most = wish.asking.most; form = form_of wish.asking.expr.now }

-- the name that a file is shown by
abbrev pub shown_name : List ℕ → List ℕ
shown_name name = if bytes_eq name (codes "-") then codes "(standard input)" else name

-- what is in front of each of its lines
abbrev pub shown_of : Request → List ℕ → Shown
shown_of r name = record { name = if r.named then Some (shown_name name) else None; numbered = r.numbered }

-- the answers of a file, which is searched by itself; a prefix term stands for each of the file's words that begin with it
abbrev pub answers_of : Request → List ℕ → List Extent
answers_of r bytes = take r.most (wide (file_text bytes) r.form)

-- whether it has an answer
abbrev pub has_answer : Request → List ℕ → Bool
has_answer r bytes = nat_lt 0 (length (answers_of r bytes))

-- what is written of a file
abbrev pub file_output : Request → List ℕ → List ℕ → List ℕ
file_output r name bytes = output_of r.mode (shown_of r name) (shown_name name) bytes (answers_of r bytes)
