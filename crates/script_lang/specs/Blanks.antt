-- Blanks, and what is between them.
use Rattle.std.specs.Prelude.{ℕ, ◌-◌, List, length, take, drop}
use Rattle.std.specs.List.{prefix_len, suffix_len, position_or_len}
use Rattle.gcl_model.specs.Tokens.{is_blank}

-- the bytes without the blanks at their front
abbrev pub without_front : List ℕ → List ℕ
without_front bytes = drop (prefix_len is_blank bytes) bytes

-- the bytes without the blanks at their end
abbrev pub without_back : List ℕ → List ℕ
without_back bytes = take (length bytes - suffix_len is_blank bytes) bytes

-- what follows the first word and the blanks after it: of "top 2 a" it is "2 a"
abbrev pub behind_word : List ℕ → List ℕ
behind_word bytes = without_front (drop (position_or_len is_blank bytes) bytes)
