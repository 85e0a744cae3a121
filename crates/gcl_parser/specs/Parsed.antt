-- For proofs alone: what the program has read of a text.
use Rattle.std.specs.Prelude.{◌≡◌, ℕ, ◌<◌, ◌≤◌, List, ◌∷◌, length}
use Rattle.gcl_model.specs.FormOf.{form_of}
use Rattle.gcl_parser.specs.declared.parsed.Parsed.{Parsed}
use Rattle.gcl_parser.specs.Scanned.{bare_from}
use Rattle.gcl_parser.specs.QueryTokens.{close_bracket}
use Rattle.gcl_parser.specs.Grammar.{Level, Query, query_spelling, form_of_query}
use Rattle.gcl_parser.specs.Reading.{IsRead, IsQueryRead}

-- starting at a place, a part of the level was read, up to the end that `parsed` gives
pub record IsParsed (level : Level) (text : List ℕ) (at : ℕ) (parsed : Parsed) : Type 0 where
  pub read : IsRead level (bare_from text at) (bare_from text parsed.end) (form_of parsed.expr)
  pub later : at < parsed.end
  pub within : parsed.end ≤ length text

-- the same of a query
pub record IsQueryParsed (text : List ℕ) (at : ℕ) (parsed : Parsed) : Type 0 where
  pub read : IsQueryRead (bare_from text at) (bare_from text parsed.end) (form_of parsed.expr)
  pub later : at < parsed.end
  pub within : parsed.end ≤ length text

-- the same of a query with the bracket that closes it
pub record IsBracketParsed (text : List ℕ) (at : ℕ) (parsed : Parsed) : Type 0 where
  pub tree : Query
  pub spelled : bare_from text at ≡ query_spelling tree (close_bracket ∷ bare_from text parsed.end)
  pub stands_for : form_of parsed.expr ≡ form_of_query tree
  pub later : at < parsed.end
  pub within : parsed.end ≤ length text
