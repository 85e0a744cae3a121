-- The part at the front of a text, as the code sees it.
use Rattle.std.specs.Prelude.{ℕ, List, [], ◌∷◌, map, drop, length, take_while, Option, Some, None, if◌then◌else◌}
use Rattle.std.specs.Char.{to_ascii_lowercase}
use Rattle.gcl_model.specs.Tokens.{Part, first_part, open_token, close_token, is_tag_byte, starts_with_byte}
use Rattle.word_tokens.specs.declared.lexeme.Lexeme.{Lexeme}
use Rattle.word_tokens.specs.declared.lexeme.Lexeme.TheVariants.{Word, OpenTag, CloseTag, EmptyTag, Separator}

-- the tokens that a lexeme gives: of the tag `<A/>` they are `<a>` and `</a>`
abbrev pub lexeme_tokens : Lexeme → List (List ℕ)
lexeme_tokens (Word word) = map to_ascii_lowercase word.now ∷ []
lexeme_tokens (OpenTag name) = open_token (map to_ascii_lowercase name.now) ∷ []
lexeme_tokens (CloseTag name) = close_token (map to_ascii_lowercase name.now) ∷ []
lexeme_tokens (EmptyTag name) = open_token (map to_ascii_lowercase name.now) ∷ close_token (map to_ascii_lowercase name.now) ∷ []
lexeme_tokens Separator = []

-- a lexeme and its size as a part of a text
abbrev pub as_part : Lexeme × ℕ → Part
as_part found = record { size = found.1; tokens = lexeme_tokens found.0 }

-- what a text begins with: of no bytes it is nothing
abbrev pub part_of : List ℕ → Part
part_of [] = record { size = 0; tokens = [] }
part_of (b ∷ bytes) = first_part b bytes

-- how many bytes are before the `>` of a tag, starting after its name, and None if a `<` or the end comes first
abbrev pub tag_end : List ℕ → Option ℕ
tag_end after =
    let between = take_while is_tag_byte after in
    if starts_with_byte 62 (drop (length between) after) then Some (length between) else None
