-- Worked examples of places, computed.
use Rattle.std.specs.Prelude.{◌≡◌, refl, [], ◌∷◌, codes}
use Rattle.token_places.specs.Places.{stretch, placed_tokens, places_of, file_places}
use Rattle.token_places.specs.Laws.{bytes_at, tokens_at}

pub a_word_and_a_self_closing_tag : places_of (codes "To <B/>") ≡ stretch 0 2 ∷ stretch 3 7 ∷ stretch 3 7 ∷ []
a_word_and_a_self_closing_tag = refl

pub a_tag_reaches_to_its_bracket : places_of (codes "<p x=1>a</p >") ≡ stretch 0 7 ∷ stretch 7 8 ∷ stretch 8 13 ∷ []
a_tag_reaches_to_its_bracket = refl

pub a_tag_that_does_not_end_is_its_words : places_of (codes "<p x<b>") ≡ stretch 1 2 ∷ stretch 3 4 ∷ stretch 4 7 ∷ []
a_tag_that_does_not_end_is_its_words = refl

pub boundary_tokens_are_empty : file_places (codes " a ") ≡ stretch 0 0 ∷ stretch 1 2 ∷ stretch 3 3 ∷ []
boundary_tokens_are_empty = refl

pub an_empty_file_has_its_boundary_tokens : file_places [] ≡ stretch 0 0 ∷ stretch 0 0 ∷ []
an_empty_file_has_its_boundary_tokens = refl

pub bytes_of_a_tag : bytes_at (codes "To <B/>") (stretch 3 7) ≡ codes "<B/>"
bytes_of_a_tag = refl

pub tokens_from_a_self_closing_tag : tokens_at (stretch 3 7) (placed_tokens (codes "To <B/>")) ≡ codes "<b>" ∷ codes "</b>" ∷ []
tokens_from_a_self_closing_tag = refl
