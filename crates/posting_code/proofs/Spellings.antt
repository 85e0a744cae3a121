-- The spelling of a number is the one that the format names.
use Rattle.std.proofs.Common.{◌≡◌, ℕ, zero, suc, ◌+◌, ◌*◌, ◌/◌, ◌%◌, ◌^◌, ◌<◌, ◌≤◌, List, [], ◌∷◌, ◌↔◌, inl, inr, sym, ap, ◌∙◌, subst, arith}
use Rattle.std.proofs.lemmas.Bool.{cases_lt}
use Rattle.std.proofs.Math.Nat.{pow-suc}
use Rattle.posting_code.specs.Numbers.{value_of, EndsAtLast, IsUnpadded, IsSpelling, spelling_within, spelling}
use Rattle.posting_code.proofs.Numbers.{within-small, within-more}

-- what is unpadded has a value above 0 after its first byte
positive : (b c : ℕ) (cs : List ℕ) → EndsAtLast (b ∷ c ∷ cs) → IsUnpadded (b ∷ c ∷ cs) → 0 < value_of (c ∷ cs)
positive b c [] ends some = let e = ends.2 in omega (arith, some, ends)
positive b c (d ∷ ds) ends some = let inner = positive c d ds ends.2 some in omega (arith, inner)

spelled : (k : ℕ) (bytes : List ℕ) → EndsAtLast bytes → IsUnpadded bytes → value_of bytes < 128 ^ suc k → bytes ≡ spelling_within (suc k) (value_of bytes)
spelled k [] ends some lt = absurd ends
spelled k (b ∷ []) ends some lt =
    let same : b % 128 + 128 * 0 ≡ b = omega (arith, ends) in
    sym (ap (spelling_within (suc k)) same ∙ within-small k b ends)
spelled zero (b ∷ c ∷ cs) ends some lt =
    let more = positive b c cs ends some in
    absurd (omega (arith, lt, more))
spelled (suc k) (b ∷ c ∷ cs) ends some lt =
    let more = positive b c cs ends some in
    let v = value_of (c ∷ cs) in
    let n = b % 128 + 128 * v in
    let whole : 128 ^ suc (suc k) ≡ 128 ^ suc k * 128 = pow-suc 128 (suc k) in
    let small : v < 128 ^ suc k = omega (arith, lt, whole) in
    let large : 128 ≤ n = omega (arith, more) in
    let top : 128 ≤ b = ends.0 in
    let fits : b < 256 = ends.1 in
    let low : 128 + n % 128 ≡ b = omega (arith, top, fits) in
    let high : n / 128 ≡ v = omega (arith, top, fits) in
    sym (within-more (suc k) n large ∙ ap (λ d. d ∷ spelling_within (suc k) (n / 128)) low
    ∙ ap (λ m. b ∷ spelling_within (suc k) m) high ∙ ap (λ ds. b ∷ ds) (sym (spelled k (c ∷ cs) ends.2 (unpadded_behind b c cs some) small)))
  where
    unpadded_behind : (b c : ℕ) (cs : List ℕ) → IsUnpadded (b ∷ c ∷ cs) → IsUnpadded (c ∷ cs)
    unpadded_behind b c [] some = tt
    unpadded_behind b c (d ∷ ds) some = some

-- the bytes of a number's spelling are as the format says
record IsWellSpelled (bytes : List ℕ) (n : ℕ) : Type 0 where
  ends : EndsAtLast bytes
  unpadded : IsUnpadded bytes
  value : value_of bytes ≡ n

longer : (b n : ℕ) (bytes : List ℕ) → 128 ≤ b → b < 256 → 0 < n → IsWellSpelled bytes n → IsWellSpelled (b ∷ bytes) (b % 128 + 128 * n)
longer b n [] top fits some w = absurd w.ends
longer b n (c ∷ []) top fits some w =
    let v = w.value in
    record { ends = (top, fits, w.ends); unpadded = omega (arith, v, some); value = ap (λ m. b % 128 + 128 * m) w.value }
longer b n (c ∷ d ∷ ds) top fits some w = record { ends = (top, fits, w.ends); unpadded = w.unpadded; value = ap (λ m. b % 128 + 128 * m) w.value }

alone : (n : ℕ) → n < 128 → IsWellSpelled (n ∷ []) n
alone n lt = record { ends = lt; unpadded = tt; value = omega (arith, lt) }

well_spelled : (k n : ℕ) → n < 128 ^ suc k → IsWellSpelled (spelling_within (suc k) n) n
well_spelled zero n lt =
    let small : n < 128 = omega (arith, lt) in
    subst (λ bs. IsWellSpelled bs n) (sym (within-small 0 n small)) (alone n small)
well_spelled (suc k) n lt =
    let whole : 128 ^ suc (suc k) ≡ 128 ^ suc k * 128 = pow-suc 128 (suc k) in
    let part : n / 128 < 128 ^ suc k = omega (arith, lt, whole) in
    elim (cases_lt n 128) [
      | inl small ↦ subst (λ bs. IsWellSpelled bs n) (sym (within-small (suc k) n small)) (alone n small)
      | inr large ↦
          let b = 128 + n % 128 in
          let same : b % 128 + 128 * (n / 128) ≡ n = omega arith in
          subst (λ bs. IsWellSpelled bs n) (sym (within-more (suc k) n large))
          (subst (IsWellSpelled (b ∷ spelling_within (suc k) (n / 128))) same
          (longer b (n / 128) (spelling_within (suc k) (n / 128)) (omega arith) (omega arith) (omega (arith, large)) (well_spelled k (n / 128) part)))
    ]

pub only_spelling : (bytes : List ℕ) (n : ℕ) → IsSpelling bytes n ↔ ((n < 2 ^ 56) × (bytes ≡ spelling n))
only_spelling bytes n = (
  (λ s. (s.small, spelled 7 bytes s.ends s.unpadded (let v = s.value in let l = s.small in omega (arith, v, l)) ∙ ap spelling s.value)),
  (λ p. let w = well_spelled 7 n p.0 in
      let is = p.1 in
      record { ends = subst EndsAtLast (sym is) w.ends; unpadded = subst IsUnpadded (sym is) w.unpadded; value = ap value_of is ∙ w.value; small = p.0 }),
)
