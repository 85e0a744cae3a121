-- What an expression denotes if a term may stand for all words with one prefix: the meaning of `Meaning`, with one more case.
use Rattle.std.specs.Prelude.{ℕ, ◌-◌, Bool, ◌&&◌, ◌==◌, List, [], ◌∷◌, length, take, bytes_eq, if◌then◌else◌}
use Rattle.std.specs.Io.BufRead.{ends_with_byte}
use Rattle.std.specs.List.{list_any}
use Rattle.gcl_model.specs.Extents.{Extent}
use Rattle.gcl_model.specs.Texts.{Text, Word}
use Rattle.gcl_model.specs.Forms.{Form, Forms, term, phrase, width, both, one, seq, containing, contained_in, not_containing, not_contained_in, no_forms, more_forms}
use Rattle.gcl_model.specs.Meaning.{extents_where, is_minimal, all_cover, any_contains, runs_in_order, is_phrase, is_width, is_containing, is_contained_in, is_not_containing, is_not_contained_in}

-- a term that ends with `*` is a prefix term, as `to*`; no token of a text holds that byte
abbrev pub is_prefix_term : List ℕ → Bool
is_prefix_term token = ends_with_byte 42 token

-- what is in front of its `*`: of `to*` it is `to`
abbrev pub prefix_of : List ℕ → List ℕ
prefix_of token = take (length token - 1) token

-- the word begins with these bytes: `together` begins with `to`, and so does `to`
abbrev pub begins_with : List ℕ → List ℕ → Bool
begins_with prefix word = bytes_eq (take (length prefix) word) prefix

-- the term stands for the word: a prefix term for each that begins with its prefix, any other term for itself
abbrev pub stands_for_word : List ℕ → List ℕ → Bool
stands_for_word token word = if is_prefix_term token then begins_with (prefix_of token) word else bytes_eq word token

-- whether address p holds a word for which the term stands
abbrev pub holds_wide : List Word → List ℕ → ℕ → Bool
holds_wide words token p = list_any (λ w. (w.address == p) && stands_for_word token w.token) words

-- c is one address, which holds such a word
abbrev pub is_wide_term : Text → List ℕ → Extent → Bool
is_wide_term text token c = (c.start == c.end) && holds_wide text.words token c.start

abbrev mutual
  -- whether the pair belongs to what the expression denotes
  pub denotes_wide : Text → Form → Extent → Bool
  denotes_wide text (term token) = is_wide_term text token
  denotes_wide text (phrase tokens) = is_phrase text tokens
  denotes_wide text (width n) = is_width n
  denotes_wide text (both forms) = is_minimal text (all_cover (wide_operands text forms))
  denotes_wide text (one forms) = is_minimal text (any_contains (wide_operands text forms))
  denotes_wide text (seq forms) = is_minimal text (runs_in_order (wide_operands text forms))
  denotes_wide text (containing a b) = is_containing (denotes_wide text a) (extents_where text (denotes_wide text b))
  denotes_wide text (contained_in a b) = is_contained_in (denotes_wide text a) (extents_where text (denotes_wide text b))
  denotes_wide text (not_containing a b) = is_not_containing (denotes_wide text a) (extents_where text (denotes_wide text b))
  denotes_wide text (not_contained_in a b) = is_not_contained_in (denotes_wide text a) (extents_where text (denotes_wide text b))

  -- the lists of the operands
  pub wide_operands : Text → Forms → List (List Extent)
  wide_operands text no_forms = []
  wide_operands text (more_forms form forms) = extents_where text (denotes_wide text form) ∷ wide_operands text forms

-- the wide list of the expression: all pairs that it denotes, in rising start
abbrev pub wide : Text → Form → List Extent
wide text form = extents_where text (denotes_wide text form)
