-- How an answer is put page by page: what is held back, and what the sink got.
use Rattle.std.specs.Prelude.{◌≡◌, ℕ, List, ◌++◌, map, length, flat_map, Option}
use Rattle.std.specs.Io.KnownBytes.{Appends}
use Rattle.gcl_model.specs.Extents.{Extent}
use Rattle.script_lang.specs.Answers.{interval_line}
use Rattle.script_lang.specs.Lines.{text_of_lines}
use Rattle.query_lanes.specs.declared.asks.Found.{Found}
use Rattle.answer_text.specs.Texts.{found_lines}

-- the sink got the beginning of a text, or all of it
pub record GetsPart (old new : Option (List ℕ)) (text : List ℕ) : Type 0 where
  pub part : List ℕ
  pub rest : List ℕ
  pub whole : text ≡ part ++ rest
  pub written : Appends old new part

-- a text was put after what was held back: the sink got the beginning of both, and the rest is held back
pub record Puts (old new : Option (List ℕ)) (held held' text : List ℕ) : Type 0 where
  pub part : List ℕ
  pub whole : held ++ text ≡ part ++ held'
  pub written : Appends old new part

-- the text of the lines of some members
abbrev pub members_text : List Extent → List ℕ
members_text list = text_of_lines (map interval_line list)

-- the text of what was found of some queries
abbrev pub founds_text : List Found → List ℕ
founds_text founds = text_of_lines (flat_map found_lines founds)

-- the first `count` parts of a list with a text were put, and the others are left
pub record PutsFirst {A : Type 0} (text : List A → List ℕ) (old new : Option (List ℕ)) (held held' : List ℕ) (list left : List A) (count : ℕ) : Type 0 where
  pub so_far : List A
  pub whole : list ≡ so_far ++ left
  pub count_is : count ≡ length so_far
  pub puts : Puts old new held held' (text so_far)
