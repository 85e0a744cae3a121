-- Words grouped by their tokens.
use Rattle.std.specs.Prelude.{ℕ, List, [], ◌∷◌, map, Option, None, Some}
use Rattle.gcl_model.specs.Texts.{Word, places}
use Rattle.index_shard.specs.Tables.{TermEntry}

-- a list that is not empty
abbrev pub unless_empty : List ℕ → Option (List ℕ)
unless_empty [] = None
unless_empty (p ∷ ps) = Some (p ∷ ps)

-- the places of a token among the words, if it has any
abbrev pub group_of : List Word → List ℕ → Option (List ℕ)
group_of words token = unless_empty (places words token)

-- an entry of a map from tokens to lists of addresses
abbrev pub table_entry : List ℕ × List ℕ → TermEntry
table_entry entry = record { term = entry.0; addresses = entry.1 }

-- the map as the table of a shard
abbrev pub table_of : List (List ℕ × List ℕ) → List TermEntry
table_of entries = map table_entry entries
