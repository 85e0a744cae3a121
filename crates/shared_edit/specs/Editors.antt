-- What contracts see of an editor.
use Rattle.std.specs.Prelude.{ℕ, zero, suc, List, [], ◌∷◌, ◌++◌}

-- which editor it is, how many of its adds and of its deletions were accepted, and how many of its edits were refused
pub record EditorContent : Type 0 where
  pub number : ℕ
  pub added : ℕ
  pub gone : ℕ
  pub refused : ℕ

-- what contracts see of an editor
abbrev pub editor_content : ℕ → ℕ → ℕ → ℕ → EditorContent
editor_content number added gone refused = record { number = number; added = added; gone = gone; refused = refused }

-- this many editors that have made no edit yet, numbered from 0
abbrev pub new_editors : ℕ → List EditorContent
new_editors zero = []
new_editors (suc n) = new_editors n ++ editor_content n 0 0 0 ∷ []
