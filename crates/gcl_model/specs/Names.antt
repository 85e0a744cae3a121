-- What the name of a file is.
use Rattle.std.specs.Prelude.{ℕ, Bool, not, ◌&&◌, ◌==◌, nat_le, List, length}
use Rattle.std.specs.List.{list_all}
use Rattle.std.specs.Str.{is_utf8}
use Rattle.gcl_model.specs.Limits.{most_name}
use Rattle.gcl_model.specs.Tokens.{starts_with_byte, ends_with_byte}

-- no control byte of ASCII
abbrev pub is_plain_byte : ℕ → Bool
is_plain_byte b = nat_le 32 b && not (b == 127)

-- 1 to 65,536 bytes of UTF-8 without control bytes, which neither begin nor end with a space
abbrev pub is_name : List ℕ → Bool
is_name bytes = nat_le 1 (length bytes) && nat_le (length bytes) most_name && is_utf8 bytes && list_all is_plain_byte bytes
    && not (starts_with_byte 32 bytes) && not (ends_with_byte 32 bytes)
