-- For proofs alone: what a scanned token of the program stands for.
use Rattle.std.specs.Prelude.{◌≡◌, ℕ, ◌+◌, ◌<◌, ◌≤◌, List, [], ◌∷◌, length, drop, slice_range, map}
use Rattle.gcl_model.specs.Forms.{width}
use Rattle.gcl_model.specs.Tokens.{tokens_of}
use Rattle.gcl_parser.specs.declared.token.Token.{Token}
use Rattle.gcl_parser.specs.declared.token.Token.TheVariants as T
use Rattle.gcl_parser.specs.declared.token.PlacedToken.{PlacedToken}
use Rattle.gcl_parser.specs.QueryTokens.{QueryToken, operand, joint, containment, open_bracket, close_bracket, broken, Piece, Placed, quoted_form, prefix_form, terms_of, tokens_behind, token_of}

-- the query token that a token of the program stands for in a text
abbrev pub shown : List ℕ → Token → QueryToken
shown text (T.Quoted from to) = operand (quoted_form (terms_of (slice_range text from to)))
shown text (T.Prefix from to) = operand (prefix_form (tokens_of (slice_range text from to)))
shown text (T.Width n) = operand (width n)
shown text (T.Joint j) = joint j
shown text (T.Containment operator) = containment operator
shown text T.Open = open_bracket
shown text T.Close = close_bracket
shown text (T.Broken kind) = broken kind

-- the places of a quoted text are in the text, and a prefix has a word
abbrev pub HasRange : List ℕ → Token → Type 0
HasRange text (T.Quoted from to) = (from ≤ to) × (to ≤ length text)
HasRange text (T.Prefix from to) = (from ≤ to) × (to ≤ length text) × (1 ≤ length (tokens_of (slice_range text from to)))
HasRange text token = Unit {0}

-- the placed is the piece of the text that begins at its place
pub record IsPiece (text : List ℕ) (at : ℕ) (piece : Piece) (l : PlacedToken) : Type 0 where
  pub begins : l.at ≡ at
  pub size : at + piece.size ≡ l.end
  pub tokens : piece.tokens ≡ shown text l.token ∷ []
  pub within : l.end ≤ length text
  pub range : HasRange text l.token

-- the query tokens of a text at or after a place
abbrev pub tokens_from : List ℕ → ℕ → List Placed
tokens_from text at = tokens_behind at (drop at text)

-- the placed is the first query token at or after a place
pub record IsNext (text : List ℕ) (from : ℕ) (l : PlacedToken) : Type 0 where
  pub tokens : tokens_from text from ≡ record { at = l.at; token = shown text l.token } ∷ tokens_from text l.end
  pub later : from < l.end
  pub within : l.end ≤ length text
  pub range : HasRange text l.token

-- the query tokens at or after a place, without their places
abbrev pub bare_from : List ℕ → ℕ → List QueryToken
bare_from text at = map token_of (tokens_from text at)
