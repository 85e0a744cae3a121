-- A query with the text of each name put in.
use Rattle.std.specs.Prelude.{ℕ, zero, suc, ◌+◌, ◌-◌, ◌==◌, ◌&&◌, Bool, false, not, nat_le, List, [], ◌∷◌, ◌++◌, length, Option, None, Some, Result, Ok, Err, if◌then◌else◌}
use Rattle.std.specs.Option.{option_map}
use Rattle.query_names.specs.Names.{Defined, name_len, name_of, text_under}
use Rattle.query_names.specs.declared.fault.NameFault.{NameFault}
use Rattle.query_names.specs.declared.fault.NameFault.TheVariants.{Unknown, TooLong}

-- the most bytes that a query may have once all names are put in
abbrev pub most_query : ℕ
most_query = 65536

-- a text in brackets
abbrev pub bracketed : List ℕ → List ℕ
bracketed text = 40 ∷ text ++ 41 ∷ []

-- What becomes of a byte: the text in its place, None for a name that is not defined; how many bytes after it belong to the name; and
-- whether what follows is quoted
pub record Piece : Type 0 where
  pub text : Option (List ℕ)
  pub skip : ℕ
  pub quoted : Bool

-- outside quotes `$` and the name after it become the name's text in brackets; each other byte stays, and a quote mark begins or ends quotes
abbrev pub piece : Defined → Bool → ℕ → List ℕ → Piece
piece defined quoted b rest = if (b == 36) && not quoted
    then record { text = option_map bracketed (text_under defined (name_of rest)); skip = name_len rest; quoted = false }
    else record { text = Some (b ∷ []); skip = 0; quoted = if b == 34 then not quoted else quoted }

-- a text in front of others
abbrev pub prefixed : List ℕ → Result (List ℕ) NameFault → Result (List ℕ) NameFault
prefixed text (Ok more) = Ok (text ++ more)
prefixed text (Err fault) = Err fault

-- a piece in front of others: a fault if it is None, or there is no room for it
abbrev pub joined : ℕ → ℕ → Option (List ℕ) → Result (List ℕ) NameFault → Result (List ℕ) NameFault
joined at room None more = Err (Unknown at)
joined at room (Some text) more = if nat_le (length text) room then prefixed text more else Err (TooLong at)

-- how many bytes a piece takes
abbrev pub taken : Option (List ℕ) → ℕ
taken None = 0
taken (Some text) = length text

-- the rest of a query, starting at place `at`, with `room` bytes left, where the first `skip` bytes belong to a name that was put in
abbrev pub put_from : Defined → Bool → ℕ → ℕ → ℕ → List ℕ → Result (List ℕ) NameFault
put_from defined quoted skip at room [] = Ok []
put_from defined quoted (suc k) at room (b ∷ rest) = put_from defined quoted k (at + 1) room rest
put_from defined quoted zero at room (b ∷ rest) =
    let p = piece defined quoted b rest in
    joined at room p.text (put_from defined p.quoted p.skip (at + 1) (room - taken p.text) rest)

-- the query with all names put in, or the first place where a name is not defined or the query becomes too long
abbrev pub put_in : Defined → List ℕ → Result (List ℕ) NameFault
put_in defined query = put_from defined false 0 0 most_query query
