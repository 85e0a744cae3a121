-- The head of a line as it is written.
use Rattle.std.specs.Prelude.{ℕ, Bool, List, [], ◌∷◌, ◌++◌, decimal, Option, None, Some, if◌then◌else◌}
use Rattle.passages.specs.declared.shown.Shown.{Shown}

-- a name with a mark after it, if names are shown
abbrev pub name_head : Option (List ℕ) → ℕ → List ℕ
name_head None mark = []
name_head (Some name) mark = name ++ mark ∷ []

-- a line's number with a mark after it, if numbers are shown
abbrev pub number_head : Bool → ℕ → ℕ → List ℕ
number_head numbered mark number = if numbered then decimal number ++ mark ∷ [] else []

-- a line as it is written: for the name "a", a colon, the number 3 and "to be" it is "a:3:to be", with a newline
abbrev pub shown_line : Shown → ℕ → ℕ → List ℕ → List ℕ
shown_line shown mark number bytes = name_head shown.name mark ++ number_head shown.numbered mark number ++ bytes ++ 10 ∷ []
