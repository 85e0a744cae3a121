-- Worked examples of joined tokens and of the end of a tag, computed.
use Rattle.std.specs.Prelude.{◌≡◌, refl, [], ◌∷◌, codes, Some, None}
use Rattle.word_tokens.specs.Joined.{ends_from, cut_from}
use Rattle.word_tokens.specs.Lexemes.{tag_end}

pub ends_of_two_words : ends_from 0 (codes "to" ∷ codes "be" ∷ []) ≡ 2 ∷ 4 ∷ []
ends_of_two_words = refl

pub cut_at_the_ends : cut_from 0 (2 ∷ 4 ∷ []) (codes "tobe") ≡ codes "to" ∷ codes "be" ∷ []
cut_at_the_ends = refl

pub a_tag_ends_at_the_bracket : tag_end (codes " x=1>") ≡ Some 4
a_tag_ends_at_the_bracket = refl

pub a_tag_does_not_end_behind_another : tag_end (codes " x<b>") ≡ None
a_tag_does_not_end_behind_another = refl

pub a_tag_does_not_end_with_the_text : tag_end (codes " x") ≡ None
a_tag_does_not_end_with_the_text = refl
