-- A text in which a prefix term is the token of each word that it stands for, so that it is looked up like a single word.
use Rattle.std.specs.Prelude.{ℕ, Bool, true, not, ◌&&◌, ◌||◌, List, [], ◌∷◌, map, bytes_eq, if◌then◌else◌}
use Rattle.std.specs.List.{list_any, list_all}
use Rattle.gcl_model.specs.Texts.{Text, Word}
use Rattle.gcl_model.specs.Forms.{Form, Forms, term, phrase, width, both, one, seq, containing, contained_in, not_containing, not_contained_in, no_forms, more_forms}
use Rattle.gcl_model.specs.Wide.{is_prefix_term, prefix_of, begins_with}

-- the token begins with what is in front of the `*`: `tea` is meant by `t*`
abbrev pub is_meant_by : List ℕ → List ℕ → Bool
is_meant_by token prefix = begins_with (prefix_of prefix) token

-- the first of the prefix terms that means the token, or the token itself: among `t*` and `b*`, of `tea` it is `t*`, and of `or` it is `or`
abbrev pub name_among : List (List ℕ) → List ℕ → List ℕ
name_among [] token = token
name_among (prefix ∷ prefixes) token = if is_meant_by token prefix then prefix else name_among prefixes token

abbrev pub renamed_word : List (List ℕ) → Word → Word
renamed_word prefixes w = record { address = w.address; token = name_among prefixes w.token }

-- the text with these names: among `t*`, of `to be` it is `t* be`
abbrev pub renamed : List (List ℕ) → Text → Text
renamed prefixes text = record { first = text.first; next = text.next; words = map (renamed_word prefixes) text.words }

-- some prefix term means the token
abbrev pub is_meant_among : List (List ℕ) → List ℕ → Bool
is_meant_among prefixes token = list_any (is_meant_by token) prefixes

-- two prefix terms of which one means words of the other, as `t*` and `to*`
abbrev pub do_overlap : List ℕ → List ℕ → Bool
do_overlap a b = begins_with (prefix_of a) (prefix_of b) || begins_with (prefix_of b) (prefix_of a)

-- the token is one of these
abbrev pub is_among : List (List ℕ) → List ℕ → Bool
is_among prefixes token = list_any (λ prefix. bytes_eq prefix token) prefixes

-- no other prefix term overlaps with this one
abbrev pub is_alone : List (List ℕ) → List ℕ → Bool
is_alone prefixes token = list_all (λ prefix. bytes_eq prefix token || not (do_overlap prefix token)) prefixes

-- a prefix term has to be one of these; no other token may be meant by one
abbrev pub is_apart_token : List (List ℕ) → List ℕ → Bool
is_apart_token prefixes token = if is_prefix_term token then is_among prefixes token && is_alone prefixes token else not (is_meant_among prefixes token)

abbrev mutual
  -- no word is meant by two names of the expression: over `t*`, `t* ^ be` is apart, and neither `t* ^ tea` nor `t* ^ to*` is
  pub is_apart : List (List ℕ) → Form → Bool
  is_apart prefixes (term token) = is_apart_token prefixes token
  is_apart prefixes (phrase tokens) = list_all (λ token. not (is_meant_among prefixes token)) tokens
  is_apart prefixes (width n) = true
  is_apart prefixes (both forms) = are_apart prefixes forms
  is_apart prefixes (one forms) = are_apart prefixes forms
  is_apart prefixes (seq forms) = are_apart prefixes forms
  is_apart prefixes (containing a b) = is_apart prefixes a && is_apart prefixes b
  is_apart prefixes (contained_in a b) = is_apart prefixes a && is_apart prefixes b
  is_apart prefixes (not_containing a b) = is_apart prefixes a && is_apart prefixes b
  is_apart prefixes (not_contained_in a b) = is_apart prefixes a && is_apart prefixes b

  pub are_apart : List (List ℕ) → Forms → Bool
  are_apart prefixes no_forms = true
  are_apart prefixes (more_forms form forms) = is_apart prefixes form && are_apart prefixes forms

-- no two of them overlap
abbrev pub are_alone : List (List ℕ) → Bool
are_alone prefixes = list_all (is_alone prefixes) prefixes
