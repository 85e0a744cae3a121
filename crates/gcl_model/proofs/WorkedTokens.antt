-- Worked examples of the tokens of a text and of names, computed.
use Rattle.std.specs.Prelude.{◌≡◌, refl, true, false, [], ◌∷◌, codes}
use Rattle.std.specs.List.{list_all}
use Rattle.gcl_model.specs.Tokens.{tokens_of, is_blank, starts_with_byte, ends_with_byte}
use Rattle.gcl_model.specs.Names.{is_plain_byte}

pub two_words_and_a_tag : tokens_of (codes "a<b>c") ≡ codes "a" ∷ codes "<b>" ∷ codes "c" ∷ []
two_words_and_a_tag = refl

pub a_tag_has_no_bracket_inside : tokens_of (codes "<a<b>") ≡ codes "a" ∷ codes "<b>" ∷ []
a_tag_has_no_bracket_inside = refl

pub closed_at_once : tokens_of (codes "<x1/>") ≡ codes "<x1>" ∷ codes "</x1>" ∷ []
closed_at_once = refl

pub closing_wins : tokens_of (codes "</x/>") ≡ codes "</x>" ∷ []
closing_wins = refl

pub a_name_begins_with_a_letter : tokens_of (codes "<1>") ≡ codes "1" ∷ []
a_name_begins_with_a_letter = refl

pub a_name_stands_at_once : tokens_of (codes "</ a>") ≡ codes "a" ∷ []
a_name_stands_at_once = refl

pub a_comment_is_words : tokens_of (codes "<!-- no -->") ≡ codes "no" ∷ []
a_comment_is_words = refl

pub a_declaration_is_words : tokens_of (codes "<?xml version=\"1\"?>") ≡ codes "xml" ∷ codes "version" ∷ codes "1" ∷ []
a_declaration_is_words = refl

-- no file can spell a boundary token
pub no_boundary : tokens_of (codes "<file!>") ≡ codes "<file>" ∷ []
no_boundary = refl

pub nothing : tokens_of [] ≡ []
nothing = refl

pub lower_case_without_attributes : tokens_of (codes "To Be <B x=\"1\">OR</B >") ≡ codes "to" ∷ codes "be" ∷ codes "<b>" ∷ codes "or" ∷ codes "</b>" ∷ []
lower_case_without_attributes = refl

-- bytes past ASCII belong to words as they are, and a `<` that begins no tag separates
pub bytes_past_ascii : tokens_of (codes "<A HREF=\"x\">B</a><br/>café <3 <b")
    ≡ codes "<a>" ∷ codes "b" ∷ codes "</a>" ∷ codes "<br>" ∷ codes "</br>" ∷ codes "café" ∷ codes "3" ∷ codes "b" ∷ []
bytes_past_ascii = refl

pub a_name_may_hold_spaces : list_all is_plain_byte (codes "a b") ≡ true
a_name_may_hold_spaces = refl

pub a_name_has_no_control_byte : list_all is_plain_byte (97 ∷ 9 ∷ []) ≡ false
a_name_has_no_control_byte = refl

pub a_space_in_front : starts_with_byte 32 (codes " a") ≡ true
a_space_in_front = refl

pub a_space_behind : ends_with_byte 32 (codes "a ") ≡ true
a_space_behind = refl

pub a_tab_is_a_blank : is_blank 9 ≡ true
a_tab_is_a_blank = refl

pub a_newline_is_none : is_blank 10 ≡ false
a_newline_is_none = refl
