-- What each thread of a share does to its editor.
use Rattle.std.specs.Prelude.{◌≡◌, ℕ, ⊤, Bool, true, ◌&&◌, List, [], ◌∷◌, ◌++◌, Option, None, Some, option_to_list}
use Rattle.shared_edit.specs.Editors.{EditorContent}
use Rattle.share_run.specs.Work.{HasEdited}
use Rattle.share_run.specs.declared.sides.Task.{Task}
use Rattle.share_run.specs.declared.sides.Task.TheVariants.{Edit, Settle}

-- what is seen of a side: its editor, if it has one, and whether its work is done
pub record SideContent : Type 0 where
  pub editor : Option EditorContent
  pub done : Bool

-- what contracts see of a side
abbrev pub side_content : Option EditorContent → Bool → SideContent
side_content editor done = record { editor = editor; done = done }

-- the editor of a task, if it is not the lane's
abbrev pub editor_of : {A G S J : Type 0} → Task A G S J → Option EditorContent
editor_of (Edit editor) = Some editor
editor_of (Settle lane) = None

-- an editor edited its files, if its work is done; a side without an editor is still without one
abbrev pub EditorHasWorked : ℕ → ℕ → Bool → Option EditorContent → Option EditorContent → Type 0
EditorHasWorked editors files done None None = ⊤
EditorHasWorked editors files done None (Some after) = ⊥
EditorHasWorked editors files done (Some before) None = ⊥
EditorHasWorked editors files done (Some before) (Some after) = done ≡ true → HasEdited editors files before after

-- the same for a side
abbrev pub HasWorked : ℕ → ℕ → SideContent → SideContent → Type 0
HasWorked editors files before after = EditorHasWorked editors files after.done before.editor after.editor

-- the editors of the sides, from the last side to the first
abbrev pub editors_from : List SideContent → List EditorContent
editors_from [] = []
editors_from (side ∷ sides) = editors_from sides ++ option_to_list side.editor

-- the work of each side is done
abbrev pub are_done : List SideContent → Bool
are_done [] = true
are_done (side ∷ sides) = side.done && are_done sides
