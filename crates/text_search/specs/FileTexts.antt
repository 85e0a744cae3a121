-- A file that is searched by itself.
use Rattle.std.specs.Prelude.{ℕ, List, codes}
use Rattle.gcl_model.specs.Texts.{Text}
use Rattle.gcl_model.specs.Tokens.{tokens_of}
use Rattle.gcl_model.specs.Collections.{Collection, empty_from, with_file, text_of}

-- the collection that holds only one file, with these tokens, starting at address 0; no word of it depends on the name
abbrev pub one_file : List (List ℕ) → Collection
one_file tokens = with_file (empty_from 0) (codes "file") tokens

-- the text of a file: for `to be` the word `<file!>` at 0, `to` at 1, `be` at 2 and `</file!>` at 3
abbrev pub file_text : List ℕ → Text
file_text bytes = text_of (one_file (tokens_of bytes))
