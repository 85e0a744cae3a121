-- A block that is unpacked, member by member.
use Rattle.std.proofs.Common.{◌≡◌, ℕ, zero, suc, ◌+◌, ◌<◌, List, [], ◌∷◌, ◌++◌, length, take, drop, slice_set, refl, ap, ◌∙◌, arith}
use Rattle.posting_code.specs.Packed.{members_behind, CanUnpack}

-- the first i members are there, and the rest comes after the last of them
pub record IsUnpacking (packed : List ℕ) (first at : ℕ) (into : List ℕ) (i value after : ℕ) : Type 0 where
  pub can : CanUnpack packed value after
  pub taken : take i into ≡ take i (first ∷ members_behind packed first at)
  pub rest : drop i (first ∷ members_behind packed first at) ≡ members_behind packed value after

pub take_next : {X : Type 0} (i : ℕ) (xs : List X) (v : X) (t : List X) → drop i xs ≡ v ∷ t → (take (i + 1) xs ≡ take i xs ++ v ∷ []) × (drop (i + 1) xs ≡ t)
take_next zero [] v t e = absurd cc
take_next zero (x ∷ xs) v t e = let a : x ≡ v = cc in let b : xs ≡ t = cc in (ap (λ y. y ∷ []) a, b)
take_next (suc i) [] v t e = absurd cc
take_next (suc i) (x ∷ xs) v t e =
    let next : suc i + 1 ≡ suc (i + 1) = omega arith in
    let inner = take_next i xs v t e in
    (ap (λ n. take n (x ∷ xs)) next ∙ ap (λ ys. x ∷ ys) inner.0, ap (λ n. drop n (x ∷ xs)) next ∙ inner.1)

pub unpacking_starts : (packed : List ℕ) (first at : ℕ) (into : List ℕ) → CanUnpack packed first at → 0 < length into → IsUnpacking packed first at (slice_set into 0 first) 1 first at
unpacking_starts packed first at [] can some = absurd (omega (arith, some))
unpacking_starts packed first at (x ∷ into) can some = record { can = can; taken = refl; rest = refl }
