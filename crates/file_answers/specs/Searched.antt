-- The bytes that the answers of a file cover. The file is searched by itself.
use Rattle.std.specs.Prelude.{ℕ, List, map, length, slice_index_or}
use Rattle.gcl_model.specs.Extents.{Extent}
use Rattle.token_places.specs.Places.{Place, file_places, stretch}
use Rattle.passages.specs.declared.passage.Passage.{Passage}

-- the place of an address
abbrev pub place_of : List ℕ → ℕ → Place
place_of bytes address = slice_index_or (file_places bytes) address (stretch (length bytes) (length bytes))

-- from the first byte of the first token's place to the last byte of the last token's
abbrev pub passage_of : List ℕ → Extent → Passage
passage_of bytes e = record { from = (place_of bytes e.start).from; to = (place_of bytes e.end).to }

-- the passage of each member of a list
abbrev pub passages_of : List ℕ → List Extent → List Passage
passages_of bytes list = map (passage_of bytes) list
