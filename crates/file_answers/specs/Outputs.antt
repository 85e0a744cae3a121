-- What is written for a file, for each way of writing.
use Rattle.std.specs.Prelude.{ℕ, List, [], ◌∷◌, length}
use Rattle.gcl_model.specs.Extents.{Extent}
use Rattle.passages.specs.Texts.{answers_text, count_text, lines_text, name_text}
use Rattle.passages.specs.declared.shown.Shown.{Shown}
use Rattle.file_answers.specs.Searched.{passages_of}
use Rattle.file_answers.specs.declared.mode.Mode.{Mode}
use Rattle.file_answers.specs.declared.mode.Mode.TheVariants.{Lines, Answers, Count, Names, Quiet}

-- a text, if the list has a member
abbrev pub where_some : List Extent → List ℕ → List ℕ
where_some [] text = []
where_some (e ∷ list) text = text

-- the text of a list of answers: the lines that they meet, each answer by itself, their number, the file's name, or nothing
abbrev pub output_of : Mode → Shown → List ℕ → List ℕ → List Extent → List ℕ
output_of Lines shown name bytes list = lines_text shown bytes (passages_of bytes list)
output_of Answers shown name bytes list = answers_text shown bytes (passages_of bytes list)
output_of Count shown name bytes list = count_text shown (length list)
output_of Names shown name bytes list = where_some list (name_text name)
output_of Quiet shown name bytes list = []
