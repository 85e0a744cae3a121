-- The last byte of a name.
use Rattle.std.proofs.Common.{◌≡◌, ℕ, suc, List, [], ◌∷◌, length, refl, get_or, arith, ◌-◌, ◌<◌}
use Rattle.std.specs.Prelude.{◌==◌}
use Rattle.gcl_model.specs.Tokens.{ends_with_byte}

-- whether a list ends with a space is known from its last byte
pub ends_with_space-last : (bytes : List ℕ) → 0 < length bytes → (get_or bytes (length bytes - 1) 0 == 32) ≡ ends_with_byte 32 bytes
ends_with_space-last [] some = absurd (omega arith)
ends_with_space-last (b ∷ []) some = refl
ends_with_space-last (b ∷ next ∷ bytes) some =
    let here : suc (suc (length bytes)) - 1 ≡ suc (length bytes) = omega arith in
    let there : suc (length bytes) - 1 ≡ length bytes = omega arith in
    let rest : (get_or (next ∷ bytes) (suc (length bytes) - 1) 0 == 32) ≡ ends_with_byte 32 (next ∷ bytes) = ends_with_space-last (next ∷ bytes) (omega arith) in
    rw here (rw there at rest)
