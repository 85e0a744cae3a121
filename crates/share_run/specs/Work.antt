-- What an editor's work does to its numbers.
use Rattle.std.specs.Prelude.{◌≡◌, ℕ, zero, suc, ◌+◌, ◌*◌, ◌%◌, ◌<◌, ◌≤◌, ◌==◌, Bool, true, false, List, [], ◌∷◌}
use Rattle.shared_edit.specs.Editors.{EditorContent}

-- how many answers an editor got
abbrev pub answers_of : EditorContent → ℕ
answers_of e = e.added + e.gone + e.refused

-- 1 if it is true, else 0
abbrev pub one_where : Bool → ℕ
one_where true = 1
one_where false = 0

-- how many of the files below some number are an editor's: their number divided by the number of editors leaves its number.
-- Of 9 files and 2 editors number 0 has 5
abbrev pub files_for : ℕ → ℕ → ℕ → ℕ
files_for editors number zero = 0
files_for editors number (suc i) = files_for editors number i + one_where (i % editors == number)

-- one file was added or refused, and if it was the third accepted since the last deletion, a deletion was called
pub record TakesOne (before : EditorContent) (taken dels : ℕ) (after : EditorContent) (taken' dels' : ℕ) : Type 0 where
  pub number : after.number ≡ before.number
  pub answers : answers_of after + dels ≡ answers_of before + 1 + dels'
  pub thirds : after.added + 3 * dels + taken ≡ before.added + 3 * dels' + taken'
  pub few : taken' < 3
  pub added : after.added ≤ before.added + 1
  pub gone : after.gone + dels ≤ before.gone + dels'
  pub some : (dels ≤ dels') × (dels' ≤ dels + 1)

-- each of an editor's files was added or refused, and one deletion was called for three that were accepted
pub record HasEdited (editors files : ℕ) (before after : EditorContent) : Type 0 where
  pub dels : ℕ
  pub number : after.number ≡ before.number
  pub answers : answers_of after ≡ answers_of before + files_for editors before.number files + dels
  pub within : after.added ≤ before.added + files_for editors before.number files
  pub least : before.added + 3 * dels ≤ after.added
  pub most : after.added ≤ before.added + 3 * dels + 2
  pub gone : after.gone ≤ before.gone + dels

-- each of the editors has edited
abbrev pub HaveEdited : ℕ → ℕ → List EditorContent → List EditorContent → Type 0
HaveEdited editors files [] [] = Unit {0}
HaveEdited editors files [] (y ∷ ys) = ⊥
HaveEdited editors files (x ∷ xs) [] = ⊥
HaveEdited editors files (x ∷ xs) (y ∷ ys) = HasEdited editors files x y × HaveEdited editors files xs ys

-- The numbers of all editors together: each file was added or refused once, and one deletion was called for each three of an editor's
-- accepted adds
pub record AreSums (files editors added gone refused : ℕ) : Type 0 where
  pub dels : ℕ
  pub answers : added + gone + refused ≡ files + dels
  pub within : added ≤ files
  pub gone_most : gone ≤ dels
  pub least : 3 * dels ≤ added
  pub most : added ≤ 3 * dels + 2 * editors
