-- What a look-up in a shard finds.
use Rattle.std.specs.Prelude.{ℕ, List, Option}
use Rattle.posting_access.specs.Search.{least_from, greatest_to}
use Rattle.gcl_model.specs.declared.direction.Direction.{Direction}
use Rattle.gcl_model.specs.declared.direction.Direction.TheVariants.{Forward, Backward}
use Rattle.index_shard.specs.Tables.{TermEntry, postings_of}

-- forward the least posting of the term at or after k, backward the greatest at or before k
abbrev pub nearest : Direction → List ℕ → ℕ → Option ℕ
nearest Forward postings k = least_from postings k
nearest Backward postings k = greatest_to postings k

-- the nearest address of a term at or after k, or up to k: of "to" at 1 and 5, at or after 2 it is 5
abbrev pub look_up : List TermEntry → List ℕ → ℕ → Direction → Option ℕ
look_up table term k direction = nearest direction (postings_of table term) k
