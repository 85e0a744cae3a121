-- For proofs only: what is kept of a file.
use Rattle.std.specs.Prelude.{◌≡◌, ℕ, ◌≤◌, List, length}
use Rattle.gcl_model.specs.Collections.{width_of}
use Rattle.gcl_model.specs.Limits.{most_file}
use Rattle.gcl_model.specs.Tokens.{tokens_of}
use Rattle.text_search.specs.FileTexts.{file_text}
use Rattle.text_search.specs.Tables.{Entry, filled, tokens_in}

-- the table has the places of its tokens in the file, whose addresses are those below next
pub record IsKept (bytes : List ℕ) (next : ℕ) (table : List Entry) : Type 0 where
  pub fits : length bytes ≤ most_file
  pub width : next ≡ width_of (tokens_of bytes)
  pub places : table ≡ filled (file_text bytes).words (tokens_in table)
