-- Names of parts of queries.
use Rattle.std.specs.Prelude.{ℕ, ◌+◌, ◌==◌, ◌||◌, ◌&&◌, Bool, nat_lt, List, [], ◌∷◌, length, take, find, bytes_eq, Option, if◌then◌else◌}
use Rattle.std.specs.List.{prefix_len}
use Rattle.std.specs.Option.{option_map}
use Rattle.std.specs.Char.{is_ascii_alphabetic, is_ascii_alphanumeric}

-- a letter, a digit or `_`
abbrev pub is_name_byte : ℕ → Bool
is_name_byte b = is_ascii_alphanumeric b || (b == 95)

-- the length of the name at the front, 0 if there is none: a name begins with a letter
abbrev pub name_len : List ℕ → ℕ
name_len [] = 0
name_len (b ∷ rest) = if is_ascii_alphabetic b then 1 + prefix_len is_name_byte rest else 0

-- the name at the front: for `line > "king"` it is `line`
abbrev pub name_of : List ℕ → List ℕ
name_of bytes = take (name_len bytes) bytes

-- the bytes are a name and nothing else
abbrev pub is_name : List ℕ → Bool
is_name bytes = nat_lt 0 (length bytes) && (name_len bytes == length bytes)

-- names and the texts that they stand for, the latest first
abbrev pub Defined : Type 0
Defined = List (List ℕ × List ℕ)

-- the text of a name: if it is defined twice, the later definition counts
abbrev pub text_under : Defined → List ℕ → Option (List ℕ)
text_under defined name = option_map (λ entry. entry.1) (find (λ entry. bytes_eq entry.0 name) defined)
