-- The query tokens of a text, with their places.
use Rattle.std.specs.Prelude.{ℕ, zero, suc, ◌+◌, Bool, false, not, ◌&&◌, ◌==◌, nat_le, List, [], ◌∷◌, ◌++◌, map, length, drop, codes, if◌then◌else◌, take_while, slice_index_or}
use Rattle.std.specs.Char.{is_ascii_digit}
use Rattle.std.specs.List.{list_all}
use Rattle.std.specs.Str.Parse.{digits_value}
use Rattle.gcl_model.specs.Limits.{address_end}
use Rattle.gcl_model.specs.Forms.{Form, term, phrase, width}
use Rattle.gcl_model.specs.Tokens.{is_blank, is_word_byte, starts_with_byte, tokens_of}
use Rattle.gcl_model.specs.Collections.{is_boundary}
use Rattle.gcl_parser.specs.declared.fault.QueryKind.{QueryKind}
use Rattle.gcl_parser.specs.declared.fault.QueryKind.TheVariants.{EmptyTerm, BadPrefix, BadWidth, OpenQuote, Character}
use Rattle.gcl_parser.specs.declared.token.Joint.{Joint}
use Rattle.gcl_parser.specs.declared.token.Joint.TheVariants.{FollowedBy, BothOf, OneOf}
use Rattle.gcl_model.specs.declared.containment.Containment.{Containment}
use Rattle.gcl_model.specs.declared.containment.Containment.TheVariants.{Containing, ContainedIn, NotContaining, NotContainedIn}

-- a quoted text or a width, with what it means; `..`, `^` or `+`; `>`, `<`, `/>` or `/<`; a bracket; or what is
-- wrong at a place where no query token begins
pub data QueryToken : Type 0 where
  operand : Form → QueryToken
  joint : Joint → QueryToken
  containment : Containment → QueryToken
  open_bracket : QueryToken
  close_bracket : QueryToken
  broken : QueryKind → QueryToken

-- a beginning of the text: how many bytes it has, and its query token, none if it is a blank
pub record Piece : Type 0 where
  pub size : ℕ
  pub tokens : List QueryToken

-- a piece that is one query token
abbrev pub one_token : QueryToken → ℕ → Piece
one_token token size = record { size = size; tokens = token ∷ [] }

-- no query token begins here; the first fault of a text ends its reading, so what comes next does not matter
abbrev pub broken_piece : QueryKind → Piece
broken_piece kind = one_token (broken kind) 1

-- the terms of the text between two quotes: the boundary token that it spells out, or else its tokens
abbrev pub terms_of : List ℕ → List (List ℕ)
terms_of content = if is_boundary content then content ∷ [] else tokens_of content

-- one term stands for itself, several are a phrase
abbrev pub quoted_form : List (List ℕ) → Form
quoted_form (token ∷ []) = term token
quoted_form tokens = phrase tokens

-- a quoted text without a term is broken
abbrev pub quoted_token : List (List ℕ) → QueryToken
quoted_token [] = broken EmptyTerm
quoted_token (token ∷ more) = operand (quoted_form (token ∷ more))

-- letters, digits and bytes past ASCII, one or more: `to` is a word, and `<a>` is not
abbrev pub is_word : List ℕ → Bool
is_word token = nat_le 1 (length token) && list_all is_word_byte token

-- these tokens are one, and that is a word
abbrev pub is_one_word : List (List ℕ) → Bool
is_one_word [] = false
is_one_word (token ∷ []) = is_word token
is_one_word (token ∷ next ∷ more) = false

-- the prefix term of the first of these tokens: of `to` it is the term `to*`
abbrev pub prefix_form : List (List ℕ) → Form
prefix_form tokens = term (slice_index_or tokens 0 [] ++ codes "*")

-- a quoted text with a `*` right after it: one word, and neither several nor a tag
abbrev pub prefix_token : List (List ℕ) → QueryToken
prefix_token tokens =
    if length tokens == 0 then broken EmptyTerm
    else if is_one_word tokens then operand (prefix_form tokens)
    else broken BadPrefix

-- any byte except `"`
abbrev pub is_no_quote : ℕ → Bool
is_no_quote b = not (b == 34)

-- the piece of a quoted text that has its second quote, with the `*` right after that if there is one
abbrev pub closed_piece : List ℕ → Bool → Piece
closed_piece content starred =
    if starred then one_token (prefix_token (tokens_of content)) (length content + 3) else one_token (quoted_token (terms_of content)) (length content + 2)

-- the quoted text whose first quote comes before these bytes: up to the next quote, and a `*` that follows immediately
abbrev pub quoted_piece : List ℕ → Piece
quoted_piece bytes =
    let content = take_while is_no_quote bytes in
    let behind = drop (length content) bytes in
    if starts_with_byte 34 behind then closed_piece content (starts_with_byte 42 (drop 1 behind)) else broken_piece OpenQuote

-- a width is 1 to the limit of addresses: 0 is none
abbrev pub width_token : ℕ → QueryToken
width_token n = if nat_le 1 n && nat_le n address_end then operand (width n) else broken BadWidth

-- the width whose `[` comes before these bytes: digits, and `]`
abbrev pub width_piece : List ℕ → Piece
width_piece bytes =
    let digits = take_while is_ascii_digit bytes in
    if starts_with_byte 93 (drop (length digits) bytes) then one_token (width_token (digits_value 10 digits)) (length digits + 2) else broken_piece BadWidth

-- an operator or a bracket, by its first byte and the rest
abbrev pub sign_piece : ℕ → List ℕ → Piece
sign_piece b bytes =
    if b == 94 then one_token (joint BothOf) 1
    else if b == 43 then one_token (joint OneOf) 1
    else if b == 62 then one_token (containment Containing) 1
    else if b == 60 then one_token (containment ContainedIn) 1
    else if b == 40 then one_token open_bracket 1
    else if b == 41 then one_token close_bracket 1
    else if (b == 46) && starts_with_byte 46 bytes then one_token (joint FollowedBy) 2
    else if (b == 47) && starts_with_byte 62 bytes then one_token (containment NotContaining) 2
    else if (b == 47) && starts_with_byte 60 bytes then one_token (containment NotContainedIn) 2
    else broken_piece Character

-- what the text begins with, by its first byte and the rest
abbrev pub first_piece : ℕ → List ℕ → Piece
first_piece b bytes =
    if is_blank b then record { size = 1; tokens = [] }
    else if b == 34 then quoted_piece bytes
    else if b == 91 then width_piece bytes
    else sign_piece b bytes

-- a query token and the place where it begins
pub record Placed : Type 0 where
  pub at : ℕ
  pub token : QueryToken

-- the query tokens of a piece, at its place
abbrev pub placed : ℕ → List QueryToken → List Placed
placed at tokens = map (λ token. record { at = at; token = token }) tokens

-- the query tokens of at most the first n pieces of bytes that begin at a place
abbrev pub tokens_of_pieces : ℕ → ℕ → List ℕ → List Placed
tokens_of_pieces zero at bytes = []
tokens_of_pieces (suc n) at [] = []
tokens_of_pieces (suc n) at (b ∷ bytes) =
    let piece = first_piece b bytes in
    placed at piece.tokens ++ tokens_of_pieces n (at + piece.size) (drop piece.size (b ∷ bytes))

-- the query tokens of bytes that begin at a place; they have no more pieces than bytes
abbrev pub tokens_behind : ℕ → List ℕ → List Placed
tokens_behind at bytes = tokens_of_pieces (length bytes) at bytes

-- the query tokens of a text: of `"to".."be"` they are a term at 0, `..` at 4 and a term at 6
abbrev pub query_tokens : List ℕ → List Placed
query_tokens text = tokens_behind 0 text

-- a query token without its place
abbrev pub token_of : Placed → QueryToken
token_of p = p.token
