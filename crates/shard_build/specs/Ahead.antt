-- The index of a text before it has a place.
use Rattle.std.specs.Prelude.{◌≡◌, ℕ, ◌-◌, ◌≤◌, List, length, map, take, drop}
use Rattle.std.specs.List.{AllByRecursion}
use Rattle.gcl_model.specs.Collections.{IsToken, width_of, with_boundaries, words_from}
use Rattle.gcl_model.specs.Limits.{address_end}
use Rattle.gcl_model.specs.Slots.{slot_range}
use Rattle.gcl_model.specs.Texts.{Word}
use Rattle.index_shard.specs.Tables.{ShardContent, words_of}

-- the tokens between the first and the last of some words: of <file!>, to, be, </file!> they are to and be
abbrev pub tokens_between : List Word → List (List ℕ)
tokens_between words = take (length words - 2) (drop 1 (map (λ (w : Word). w.token) words))

-- the shard is that of a file with some tokens, whose first address is 0
pub record IsAhead (shard : ShardContent) : Type 0 where
  pub words : words_of shard ≡ words_from 0 (with_boundaries (tokens_between (words_of shard)))
  pub range : shard.range ≡ slot_range 0 (width_of (tokens_between (words_of shard)) - 1)
  pub small : width_of (tokens_between (words_of shard)) ≤ address_end
  pub tokens : AllByRecursion IsToken (tokens_between (words_of shard))
