-- The tokens that an expression names, and what a text has of them.
use Rattle.std.specs.Prelude.{ℕ, Bool, bytes_eq, List, [], ◌∷◌, ◌++◌, filter}
use Rattle.std.specs.List.{list_any}
use Rattle.gcl_model.specs.Texts.{Text}
use Rattle.gcl_model.specs.Forms.{Form, Forms, term, phrase, width, both, one, seq, containing, contained_in, not_containing, not_contained_in, no_forms, more_forms}
use Rattle.text_search.specs.FileTexts.{file_text}

abbrev mutual
  -- the tokens that an expression names, in the order in which they occur: for "to".."be" they are `to` and `be`
  pub names_of : Form → List (List ℕ)
  names_of (term token) = token ∷ []
  names_of (phrase tokens) = tokens
  names_of (width n) = []
  names_of (both forms) = names_in forms
  names_of (one forms) = names_in forms
  names_of (seq forms) = names_in forms
  names_of (containing a b) = names_of a ++ names_of b
  names_of (contained_in a b) = names_of a ++ names_of b
  names_of (not_containing a b) = names_of a ++ names_of b
  names_of (not_contained_in a b) = names_of a ++ names_of b

  -- the tokens that all operands name
  pub names_in : Forms → List (List ℕ)
  names_in no_forms = []
  names_in (more_forms form forms) = names_of form ++ names_in forms

-- the token is one of the names
abbrev pub is_named : List (List ℕ) → List ℕ → Bool
is_named names token = list_any (λ name. bytes_eq token name) names

-- the text with the words that are named, and no others
abbrev pub named_text : List (List ℕ) → Text → Text
named_text names text = record { first = text.first; next = text.next; words = filter (λ w. is_named names w.token) text.words }

-- what a file has of the tokens that an expression names
abbrev pub query_text : List ℕ → Form → Text
query_text bytes form = named_text (names_of form) (file_text bytes)
