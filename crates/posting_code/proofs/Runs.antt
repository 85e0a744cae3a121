-- Members whose differences have one byte each, several in one go.
use Rattle.std.proofs.Common.{◌≡◌, ℕ, zero, suc, ◌+◌, ◌-◌, ◌*◌, ◌/◌, ◌%◌, ◌<◌, ◌≤◌, ◌^◌, List, [], ◌∷◌, ◌++◌, length, length-append, length-drop, take, drop, drop-cons, get_or, get_or-drop, slice_set, length-set, append_assoc, inl, inr, refl, sym, ap, ◌∙◌, subst, arith}
use Rattle.std.proofs.Math.Seq.{take-add}
use Rattle.std.proofs.lemmas.Bool.{cases_lt}
use Rattle.std.proofs.lemmas.List.{take_more_set, append-nil, drop-drop}
use Rattle.posting_code.specs.Numbers.{spelling, IsNumberAt}
use Rattle.posting_code.specs.Postings.{RiseWithin}
use Rattle.posting_code.specs.Packed.{members_behind, packed_from, CanUnpack}
use Rattle.posting_code.proofs.Numbers.{spelling-small, spelling-more}
use Rattle.posting_code.proofs.Packed.{IsNext, next_is}
use Rattle.posting_code.proofs.Unpacking.{IsUnpacking, take_next}

-- each difference has a byte at least
spelling-some : (n : ℕ) → n < 2 ^ 56 → 0 < length (spelling n)
spelling-some n lt = elim (cases_lt n 128) [
  | inl small ↦ let long = ap length (spelling-small n small) in omega (arith, long)
  | inr large ↦ let long = ap length (spelling-more n large lt) in omega (arith, long)
]

bytes_enough_in : (before : ℕ) (ps : List ℕ) → RiseWithin (before + 1) (2 ^ 56) ps → length ps ≤ length (packed_from before ps)
bytes_enough_in before [] r = omega arith
bytes_enough_in before (p ∷ ps) r =
    let high = r.1 in
    let rest = bytes_enough_in p ps r.2 in
    let long = length-append (spelling (p - before)) (packed_from p ps) in
    let some = spelling-some (p - before) (omega (arith, high)) in
    omega (arith, rest, long, some)

pub bytes_enough : (packed : List ℕ) (before at : ℕ) → CanUnpack packed before at → length (members_behind packed before at) ≤ length packed - at
bytes_enough packed before at can =
    let least = bytes_enough_in before (members_behind packed before at) can.rising in
    let same = ap length can.spelled in
    let long = length-drop at packed in
    omega (arith, least, same, long)

-- a byte without its top bit is a number by itself
short_number : (bytes : List ℕ) (at : ℕ) → at < length bytes → get_or bytes at 0 < 128 → IsNumberAt bytes at (get_or bytes at 0) (at + 1)
short_number bytes at lt small =
    let b = get_or bytes at 0 in
    let alone : spelling b ≡ b ∷ [] = spelling-small b small in
    let next : suc at ≡ at + 1 = omega arith in
    record {
      small = omega (arith, small);
      spelled = drop-cons bytes at 0 lt ∙ ap (λ n. b ∷ drop n bytes) next ∙ sym (ap (λ bs. bs ++ drop (at + 1) bytes) alone);
      behind = sym (ap (λ bs. at + length bs) alone);
    }

short_next : (packed : List ℕ) (before at : ℕ) → CanUnpack packed before at → 0 < length (members_behind packed before at) → get_or packed at 0 < 128 → IsNext packed before at (get_or packed at 0) (at + 1)
short_next packed before at can some small =
    let enough = bytes_enough packed before at can in
    next_is packed before at (get_or packed at 0) (at + 1) can some (short_number packed at (omega (arith, some, enough)) small)

-- a byte with its top bit and one without are a number by themselves
two_number_in : (packed ps : List ℕ) (before at : ℕ) → RiseWithin (before + 1) (2 ^ 56) ps → drop at packed ≡ packed_from before ps → 0 < length ps → 128 ≤ get_or packed at 0 → get_or packed (at + 1) 0 < 128 →
    IsNumberAt packed at (get_or packed at 0 - 128 + 128 * get_or packed (at + 1) 0) (at + 2)
two_number_in packed [] before at r spelled some top small = absurd (omega (arith, some))
two_number_in packed (p ∷ ps) before at r spelled some top small =
    let high = r.1 in
    let n = p - before in
    let lt : n < 2 ^ 56 = omega (arith, high) in
    let rest = packed_from p ps in
    let here : at + 0 ≡ at = omega arith in
    let first : get_or (drop at packed) 0 0 ≡ get_or packed at 0 = get_or-drop at packed 0 0 ∙ ap (λ i. get_or packed i 0) here in
    let second : get_or (drop at packed) 1 0 ≡ get_or packed (at + 1) 0 = get_or-drop at packed 1 0 in
    elim (cases_lt n 128) [
      | inl alone ↦
          let is : get_or (drop at packed) 0 0 ≡ n = ap (λ bs. get_or bs 0 0) (spelled ∙ ap (λ bs. bs ++ rest) (spelling-small n alone)) in
          absurd (omega (arith, is, first, alone, top))
      | inr large ↦
          let more = spelling-more n large lt in
          elim (cases_lt (n / 128) 128) [
            | inl two ↦
                let both : spelling n ≡ (128 + n % 128) ∷ n / 128 ∷ [] = more ∙ ap (λ bs. (128 + n % 128) ∷ bs) (spelling-small (n / 128) two) in
                let bytes : drop at packed ≡ (128 + n % 128) ∷ n / 128 ∷ rest = spelled ∙ ap (λ bs. bs ++ rest) both in
                let is : get_or (drop at packed) 0 0 ≡ 128 + n % 128 = ap (λ bs. get_or bs 0 0) bytes in
                let next : get_or (drop at packed) 1 0 ≡ n / 128 = ap (λ bs. get_or bs 1 0) bytes in
                let value : n ≡ get_or packed at 0 - 128 + 128 * get_or packed (at + 1) 0 = omega (arith, is, next, first, second) in
                let behind : drop (at + 2) packed ≡ rest = sym (drop-drop 2 at packed) ∙ ap (drop 2) bytes in
                subst (λ v. IsNumberAt packed at v (at + 2)) value
                record {
                  small = lt;
                  spelled = spelled ∙ ap (λ bs. spelling n ++ bs) (sym behind);
                  behind = sym (ap (λ bs. at + length bs) both);
                }
            | inr longer ↦
                let part : n / 128 < 2 ^ 56 = omega (arith, lt) in
                let bytes : drop at packed ≡ (128 + n % 128) ∷ (128 + n / 128 % 128) ∷ (spelling (n / 128 / 128) ++ rest) =
                spelled ∙ ap (λ bs. bs ++ rest) (more ∙ ap (λ bs. (128 + n % 128) ∷ bs) (spelling-more (n / 128) longer part)) in
                let next : get_or (drop at packed) 1 0 ≡ 128 + n / 128 % 128 = ap (λ bs. get_or bs 1 0) bytes in
                absurd (omega (arith, next, second, small))
          ]
    ]

-- a difference of one byte or two, whichever
pub mixed_number : (packed : List ℕ) (before at first second : ℕ) → CanUnpack packed before at → 0 < length (members_behind packed before at) → first ≡ get_or packed at 0 → second ≡ get_or packed (at + 1) 0 → first < 256 →
    first / 128 + second / 128 < 2 → IsNumberAt packed at (first % 128 + first / 128 * (128 * second)) (at + 1 + first / 128)
mixed_number packed before at first second can some first_is second_is fits few = elim (cases_lt first 128) [
  | inl small ↦
      let enough = bytes_enough packed before at can in
      let n = short_number packed at (omega (arith, some, enough)) (omega (arith, first_is, small)) in
      let none : first / 128 ≡ 0 = omega (arith, small) in
      let value : get_or packed at 0 ≡ first % 128 + first / 128 * (128 * second) = sym first_is ∙ (let low : first ≡ first % 128 + 0 * (128 * second) = omega (arith, small) in low ∙ ap (λ m. first % 128 + m * (128 * second)) (sym none)) in
      let after : at + 1 ≡ at + 1 + first / 128 = omega (arith, small) in
      subst (λ a. IsNumberAt packed at (first % 128 + first / 128 * (128 * second)) a) after (subst (λ v. IsNumberAt packed at v (at + 1)) value n)
  | inr top ↦
      let low : second < 128 = omega (arith, top, few) in
      let n = two_number_in packed (members_behind packed before at) before at can.rising can.spelled some (omega (arith, first_is, top)) (omega (arith, second_is, low)) in
      let one : first / 128 ≡ 1 = omega (arith, top, fits) in
      let value : get_or packed at 0 - 128 + 128 * get_or packed (at + 1) 0 ≡ first % 128 + first / 128 * (128 * second) =
      (let sum : get_or packed at 0 - 128 + 128 * get_or packed (at + 1) 0 ≡ first % 128 + 1 * (128 * second) = omega (arith, first_is, second_is, top, fits) in sum ∙ ap (λ m. first % 128 + m * (128 * second)) (sym one)) in
      let after : at + 2 ≡ at + 1 + first / 128 = omega (arith, one) in
      subst (λ a. IsNumberAt packed at (first % 128 + first / 128 * (128 * second)) a) after (subst (λ v. IsNumberAt packed at v (at + 2)) value n)
]

-- some members are there, after those before their place
pub record IsRun (packed : List ℕ) (before at : ℕ) (old into : List ℕ) (place i member after : ℕ) : Type 0 where
  pub long : length into ≡ length old
  pub taken : take (place + i) into ≡ take place old ++ take i (members_behind packed before at)
  pub rest : drop i (members_behind packed before at) ≡ members_behind packed member after
  pub can : CanUnpack packed member after

pub run_starts : (packed : List ℕ) (before at : ℕ) (old : List ℕ) (place after : ℕ) → CanUnpack packed before at → after ≡ at → IsRun packed before at old old place 0 before after
run_starts packed before at old place after can there =
    let here : place + 0 ≡ place = omega arith in
    record {
      long = refl;
      taken = ap (λ n. take n old) here ∙ sym (append-nil (take place old));
      rest = ap (members_behind packed before) (sym there);
      can = subst (CanUnpack packed before) (sym there) can;
    }

-- there is one more
pub run_some : (packed : List ℕ) (before at : ℕ) (old into : List ℕ) (place i member after : ℕ) → IsRun packed before at old into place i member after → i < length (members_behind packed before at) →
    0 < length (members_behind packed member after)
run_some packed before at old into place i member after r lt =
    let left = length-drop i (members_behind packed before at) in
    let same = ap length r.rest in
    omega (arith, lt, left, same)

-- the next one, by a difference of one byte
pub run_next : (packed : List ℕ) (before at : ℕ) (old into : List ℕ) (place i member after byte : ℕ) → IsRun packed before at old into place i member after → i < length (members_behind packed before at) → byte ≡ get_or packed after 0 →
    byte < 128 → IsNext packed member after byte (after + 1)
run_next packed before at old into place i member after byte r lt is small =
    subst (λ b. IsNext packed member after b (after + 1)) (sym is) (short_next packed member after r.can (run_some packed before at old into place i member after r lt) (omega (arith, is, small)))

pub run_goes : (packed : List ℕ) (before at : ℕ) (old into : List ℕ) (place i member after next next_after : ℕ) → IsRun packed before at old into place i member after →
    members_behind packed member after ≡ next ∷ members_behind packed next next_after → CanUnpack packed next next_after → place + i < length into →
    IsRun packed before at old (slice_set into (place + i) next) place (i + 1) next next_after
run_goes packed before at old into place i member after next next_after r is can lt =
    let ms = members_behind packed before at in
    let here : place + (i + 1) ≡ place + i + 1 = omega arith in
    let step = take_next i ms next (members_behind packed next next_after) (r.rest ∙ is) in
    record {
      long = length-set into (place + i) next ∙ r.long;
      taken = ap (λ n. take n (slice_set into (place + i) next)) here ∙ take_more_set into (place + i) next lt ∙ ap (λ xs. xs ++ next ∷ []) r.taken ∙ append_assoc (take place old) (take i ms) (next ∷ [])
          ∙ ap (λ xs. take place old ++ xs) (sym step.0);
      rest = step.1;
      can = can;
    }

pub run_byte : (packed : List ℕ) (before at : ℕ) (old into : List ℕ) (place i member byte : ℕ) → IsRun packed before at old into place i member (at + i) → i < length (members_behind packed before at) → byte ≡ get_or packed (at + i) 0 →
    byte < 128 → place + i < length into → IsRun packed before at old (slice_set into (place + i) (member + byte)) place (i + 1) (member + byte) (at + (i + 1))
run_byte packed before at old into place i member byte r lt is small room =
    let next = run_next packed before at old into place i member (at + i) byte r lt is small in
    let behind : at + i + 1 ≡ at + (i + 1) = omega arith in
    subst (λ n. IsRun packed before at old (slice_set into (place + i) (member + byte)) place (i + 1) (member + byte) n) behind (run_goes packed before at old into place i member (at + i) (member + byte) (at + i + 1) r next.next next.can room)

-- a block that is unpacked, some members more
pub unpacking_runs : (packed : List ℕ) (first at : ℕ) (into new : List ℕ) (i value after count last last_after : ℕ) → IsUnpacking packed first at into i value after →
    take (i + count) new ≡ take i into ++ take count (members_behind packed value after) → drop count (members_behind packed value after) ≡ members_behind packed last last_after → CanUnpack packed last last_after →
    IsUnpacking packed first at new (i + count) last last_after
unpacking_runs packed first at into new i value after count last last_after u taken rest can =
    let all = first ∷ members_behind packed first at in
    record {
      can = can;
      taken = taken ∙ ap (λ xs. xs ++ take count (members_behind packed value after)) u.taken ∙ ap (λ xs. take i all ++ take count xs) (sym u.rest) ∙ sym (take-add i count all);
      rest = sym (drop-drop count i all) ∙ ap (drop count) u.rest ∙ rest;
    }

-- how many members are left
pub unpacking_left : (packed : List ℕ) (first at : ℕ) (into : List ℕ) (i value after : ℕ) → IsUnpacking packed first at into i value after → length (members_behind packed value after) ≡ length (members_behind packed first at) + 1 - i
unpacking_left packed first at into i value after u =
    let left = length-drop i (first ∷ members_behind packed first at) in
    let same = ap length u.rest in
    omega (arith, left, same)

-- a member some steps after another one
pub record IsPassed (packed : List ℕ) (before at i member after : ℕ) : Type 0 where
  pub rest : drop i (before ∷ members_behind packed before at) ≡ member ∷ members_behind packed member after
  pub can : CanUnpack packed member after

pub pass_starts : (packed : List ℕ) (before at i after : ℕ) → CanUnpack packed before at → i ≡ 0 → after ≡ at → IsPassed packed before at i before after
pass_starts packed before at i after can none there = record {
  rest = ap (λ n. drop n (before ∷ members_behind packed before at)) none ∙ ap (λ n. before ∷ members_behind packed before n) (sym there);
  can = subst (CanUnpack packed before) (sym there) can;
}

-- how many are left behind it
pub pass_left : (packed : List ℕ) (before at i member after : ℕ) → IsPassed packed before at i member after → length (members_behind packed member after) ≡ length (members_behind packed before at) - i
pass_left packed before at i member after r =
    let left = length-drop i (before ∷ members_behind packed before at) in
    let same = ap length r.rest in
    omega (arith, left, same)

pub pass_goes : (packed : List ℕ) (before at i member after next next_after : ℕ) → IsPassed packed before at i member after → members_behind packed member after ≡ next ∷ members_behind packed next next_after → CanUnpack packed next next_after →
    IsPassed packed before at (i + 1) next next_after
pass_goes packed before at i member after next next_after r is can =
    record { rest = (take_next i (before ∷ members_behind packed before at) member (members_behind packed member after) r.rest).1 ∙ is; can = can }

-- some steps more
pub pass_more : (packed : List ℕ) (before at i member after n m last last_after : ℕ) → IsPassed packed before at i member after → drop n (member ∷ members_behind packed member after) ≡ last ∷ members_behind packed last last_after →
    CanUnpack packed last last_after → m ≡ i + n → IsPassed packed before at m last last_after
pass_more packed before at i member after n m last last_after r rest can is =
    record { rest = ap (λ k. drop k (before ∷ members_behind packed before at)) is ∙ sym (drop-drop n i (before ∷ members_behind packed before at)) ∙ ap (drop n) r.rest ∙ rest; can = can }

-- the next one, by a difference of one byte
pub pass_next : (packed : List ℕ) (before at i member after byte : ℕ) → IsPassed packed before at i member after → i < length (members_behind packed before at) → byte ≡ get_or packed after 0 → byte < 128 →
    IsNext packed member after byte (after + 1)
pass_next packed before at i member after byte r lt is small =
    let left = pass_left packed before at i member after r in
    subst (λ b. IsNext packed member after b (after + 1)) (sym is) (short_next packed member after r.can (omega (arith, lt, left)) (omega (arith, is, small)))

pub pass_byte : (packed : List ℕ) (before at i member byte : ℕ) → IsPassed packed before at i member (at + i) → i < length (members_behind packed before at) → byte ≡ get_or packed (at + i) 0 → byte < 128 →
    IsPassed packed before at (i + 1) (member + byte) (at + (i + 1))
pass_byte packed before at i member byte r lt is small =
    let next = pass_next packed before at i member (at + i) byte r lt is small in
    let behind : at + i + 1 ≡ at + (i + 1) = omega arith in
    subst (λ n. IsPassed packed before at (i + 1) (member + byte) n) behind (pass_goes packed before at i member (at + i) (member + byte) (at + i + 1) r next.next next.can)

-- a member that is the first or below a number is below it if the first is
pub first_or_below : (packed : List ℕ) (before at k i member after : ℕ) → drop i (before ∷ members_behind packed before at) ≡ member ∷ members_behind packed member after → (0 < i → member < k) → before < k → member < k
first_or_below packed before at k zero member after rest below first = let same : before ≡ member = ap (λ xs. get_or xs 0 0) rest in omega (arith, same, first)
first_or_below packed before at k (suc i) member after rest below first = below (omega arith)

-- a difference of at most two bytes is small
mixed_part : (more second : ℕ) → more ≤ 1 → second < 256 → more * (128 * second) < 32768
mixed_part zero second le lt = omega arith
mixed_part (suc zero) second le lt = omega arith
mixed_part (suc (suc more)) second le lt = absurd (omega (arith, le))

pub mixed_small : (first second : ℕ) → first < 256 → second < 256 → (first / 128) * (128 * second) < 32768
mixed_small first second small lt = mixed_part (first / 128) second (omega (arith, small)) lt
