-- Packed numbers, computed.
use Rattle.std.proofs.Common.{◌≡◌, ◌<◌, [], ◌∷◌, refl}
use Rattle.posting_code.specs.Numbers.{spelling, value_of, EndsAtLast, IsUnpadded}

spelling-none : spelling 0 ≡ 0 ∷ []
spelling-none = refl

spelling-seven : spelling 7 ≡ 7 ∷ []
spelling-seven = refl

spelling-two_bytes : spelling 128 ≡ 128 ∷ 1 ∷ []
spelling-two_bytes = refl

spelling-300 : spelling 300 ≡ 172 ∷ 2 ∷ []
spelling-300 = refl

spelling-seven_bytes : spelling 281474976710655 ≡ 255 ∷ 255 ∷ 255 ∷ 255 ∷ 255 ∷ 255 ∷ 63 ∷ []
spelling-seven_bytes = refl

-- the greatest number has eight bytes
spelling-greatest : spelling 72057594037927935 ≡ 255 ∷ 255 ∷ 255 ∷ 255 ∷ 255 ∷ 255 ∷ 255 ∷ 127 ∷ []
spelling-greatest = refl

value_of-300 : value_of (172 ∷ 2 ∷ []) ≡ 300
value_of-300 = refl

-- 7 with a byte after it that says nothing would be 7 again
value_of-padded : value_of (135 ∷ 0 ∷ []) ≡ 7
value_of-padded = refl

padded_is_refused : IsUnpadded (135 ∷ 0 ∷ []) ≡ (0 < 0)
padded_is_refused = refl

unended_is_refused : EndsAtLast (172 ∷ []) ≡ (172 < 128)
unended_is_refused = refl
