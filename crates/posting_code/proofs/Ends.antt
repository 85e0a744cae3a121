-- The member before another one: the difference between them is the last spelling before its place.
use Rattle.std.proofs.Common.{◌≡◌, ℕ, zero, suc, ◌+◌, ◌-◌, ◌<◌, ◌≤◌, ◌^◌, List, [], ◌∷◌, ◌++◌, length, length-append, length-drop, take, drop, get_or, get_or-drop, append_assoc, refl, sym, ap, ◌∙◌, subst, arith}
use Rattle.std.proofs.lemmas.List.{drop-drop, drop_at, drop_more, get_or-append_right}
use Rattle.posting_code.specs.Ends.{IsStep}
use Rattle.posting_code.specs.Numbers.{spelling, EndsAtLast, IsNumberAt}
use Rattle.posting_code.specs.Postings.{RiseWithin}
use Rattle.posting_code.specs.Packed.{members_behind, packed_from, CanUnpack, StandsAt}
use Rattle.posting_code.specs.declared.head.Head.{Head}
use Rattle.posting_code.proofs.Around.{take_rises}
use Rattle.posting_code.proofs.Cuts.{packed_from-part}
use Rattle.posting_code.proofs.Numbers.{prefix_free}
use Rattle.posting_code.proofs.Packed.{can_unpack}
use Rattle.posting_code.proofs.Spellings.{only_spelling}

-- a spelling ends with the first byte without the top bit
ends : (n : ℕ) → n < 2 ^ 56 → EndsAtLast (spelling n)
ends n small = ((only_spelling (spelling n) n).1 (small, refl)).ends

tops_of : (bytes rest : List ℕ) (j : ℕ) → EndsAtLast bytes → j + 1 < length bytes → 128 ≤ get_or (bytes ++ rest) j 0
tops_of [] rest j e lt = absurd e
tops_of (b ∷ []) rest j e lt = absurd (omega (arith, lt))
tops_of (b ∷ c ∷ cs) rest zero e lt = e.0
tops_of (b ∷ c ∷ cs) rest (suc j) e lt = tops_of (c ∷ cs) rest j e.2 (omega (arith, lt))

end_of : (bytes rest : List ℕ) (j : ℕ) → EndsAtLast bytes → j + 1 ≡ length bytes → get_or (bytes ++ rest) j 0 < 128
end_of [] rest j e is = absurd e
end_of (b ∷ []) rest zero e is = e
end_of (b ∷ []) rest (suc j) e is = absurd (omega (arith, is))
end_of (b ∷ c ∷ cs) rest zero e is = absurd (omega (arith, is))
end_of (b ∷ c ∷ cs) rest (suc j) e is = end_of (c ∷ cs) rest j e.2 (omega (arith, is))

some_of : (bytes : List ℕ) → EndsAtLast bytes → 0 < length bytes
some_of [] e = absurd e
some_of (b ∷ bs) e = omega arith

-- the last of some differences ends so, too
last_byte : (before : ℕ) (ps rest : List ℕ) (j : ℕ) → RiseWithin (before + 1) (2 ^ 56) ps → j + 1 ≡ length (packed_from before ps) → get_or (packed_from before ps ++ rest) j 0 < 128
last_byte before [] rest j r is = absurd (omega (arith, is))
last_byte before (p ∷ []) rest j r is =
    let below = r.1 in
    let long = length-append (spelling (p - before)) [] in
    subst (λ bs. get_or bs j 0 < 128) (sym (append_assoc (spelling (p - before)) [] rest)) (end_of (spelling (p - before)) rest j (ends (p - before) (omega (arith, below))) (omega (arith, is, long)))
last_byte before (p ∷ q ∷ ps) rest j r is =
    let below = r.1 in
    let s = spelling (p - before) in
    let more = packed_from p (q ∷ ps) in
    let long = length-append s more in
    let next = length-append (spelling (q - p)) (packed_from q ps) in
    let small = r.2.1 in
    let some = some_of (spelling (q - p)) (ends (q - p) (omega (arith, small))) in
    let le : length s ≤ j = omega (arith, is, long, next, some) in
    let rec = last_byte p (q ∷ ps) rest (j - length s) r.2 (omega (arith, is, long, le)) in
    let at : get_or ((s ++ more) ++ rest) j 0 ≡ get_or (more ++ rest) (j - length s) 0 = ap (λ bs. get_or bs j 0) (append_assoc s more rest) ∙ get_or-append_right s (more ++ rest) (length s) j 0 refl le in
    omega (arith, rec, at)

-- what comes after a member rises
rises_from : (end before : ℕ) (ms : List ℕ) (steps l : ℕ) (rs : List ℕ) → RiseWithin (before + 1) end ms → drop steps (before ∷ ms) ≡ l ∷ rs → RiseWithin (l + 1) end rs
rises_from end before ms zero l rs r is =
    let same : before ≡ l = ap (λ xs. get_or xs 0 0) is in
    let rest : ms ≡ rs = ap (drop 1) is in
    subst (λ xs. RiseWithin (l + 1) end xs) rest (subst (λ b. RiseWithin (b + 1) end ms) same r)
rises_from end before [] (suc steps) l rs r is = let none = length-drop steps (drop 1 (before ∷ [])) in let long : length (drop steps (drop 1 (before ∷ []))) ≡ suc (length rs) = ap length is in absurd (omega (arith, none, long))
rises_from end before (m ∷ ms) (suc steps) l rs r is = rises_from end m ms steps l rs r.2 is

-- the member before the one that is `steps` and one after the first
pub record IsBefore (packed : List ℕ) (steps : ℕ) (first next : Head) (member at : ℕ) : Type 0 where
  pub below : member < next.first
  pub step : IsStep packed first.at at next.at
  pub small : next.first - member < 2 ^ 56
  pub spelled : drop at packed ≡ spelling (next.first - member) ++ drop next.at packed
  pub stands : StandsAt (first.first ∷ members_behind packed first.first first.at) packed steps record { first = member; at = at }

pub before_stands : (packed : List ℕ) (steps : ℕ) (first next : Head) → CanUnpack packed first.first first.at → first.at ≤ length packed → StandsAt (first.first ∷ members_behind packed first.first first.at) packed (steps + 1) next →
    (member : ℕ) × (at : ℕ) × IsBefore packed steps first next member at
before_stands packed steps first next can within stands =
    let ms = members_behind packed first.first first.at in
    let all = first.first ∷ ms in
    let rs = members_behind packed next.first next.at in
    let l = get_or all steps 0 in
    let left = length-drop (steps + 1) all in
    let held = ap length stands.is in
    let here : drop steps all ≡ l ∷ next.first ∷ rs = drop_more all steps 0 (omega (arith, left, held)) ∙ ap (λ xs. l ∷ xs) stands.is in
    let own = packed_from first.first (take steps ms) in
    let part = (packed_from-part first.first ms steps l (next.first ∷ rs) here).0 in
    let rising = rises_from (2 ^ 56) first.first ms steps l (next.first ∷ rs) can.rising here in
    let above = rising.0 in
    let low = rising.1 in
    let s = spelling (next.first - l) in
    let at = first.at + length own in
    let ending = ends (next.first - l) (omega (arith, low)) in
    let whole : drop first.at packed ≡ own ++ packed_from l (next.first ∷ rs) = can.spelled ∙ part in
    let cut : drop at packed ≡ packed_from l (next.first ∷ rs) = sym (drop-drop (length own) first.at packed) ∙ ap (drop (length own)) whole ∙ drop_at own (packed_from l (next.first ∷ rs)) (length own) refl in
    let spelled : drop at packed ≡ s ++ drop next.at packed = cut ∙ ap (λ bs. s ++ bs) (sym stands.can.spelled) in
    let long_first = length-drop first.at packed in
    let long_whole = ap length whole ∙ length-append own (packed_from l (next.first ∷ rs)) in
    let long_at = length-drop at packed in
    let long_spelled = ap length spelled ∙ length-append s (drop next.at packed) in
    let long_cut = ap length cut in
    let long_next = length-drop next.at packed in
    let end_within = stands.within in
    let some = some_of s ending in
    let fits : at ≤ length packed = omega (arith, long_first, long_whole, within) in
    let end : next.at ≡ at + length s = omega (arith, long_at, long_spelled, long_next, end_within, fits, some) in
    let unpacked = can_unpack packed (next.first ∷ rs) l at rising cut in (
      l,
      at,
      record {
        below = omega (arith, above);
        step = record {
          begins = omega arith;
          some = omega (arith, end, some);
          tops = λ i le lt.
              let byte = get_or-drop at packed (i - at) 0 in
              let place : at + (i - at) ≡ i = omega (arith, le) in
              let top = tops_of s (drop next.at packed) (i - at) ending (omega (arith, lt, end, le)) in
              let same = ap (λ bs. get_or bs (i - at) 0) spelled in
              let there = ap (λ n. get_or packed n 0) place in
              omega (arith, byte, top, same, there);
          border = λ lt.
              let j = length own - 1 in
              let byte = get_or-drop first.at packed j 0 in
              let place : first.at + j ≡ at - 1 = omega (arith, lt) in
              let last = last_byte first.first (take steps ms) (packed_from l (next.first ∷ rs)) j (take_rises (first.first + 1) (2 ^ 56) ms steps can.rising) (omega (arith, lt)) in
              let same = ap (λ bs. get_or bs j 0) whole in
              let there = ap (λ n. get_or packed n 0) place in
              omega (arith, byte, last, same, there);
        };
        small = omega (arith, low);
        spelled = spelled;
        stands = record { can = unpacked.1; within = fits; is = here ∙ ap (λ xs. l ∷ xs) (sym unpacked.0) };
      },
    )

-- the number that is read there is the difference
pub read_before : (packed : List ℕ) (steps : ℕ) (first next : Head) (member at value after : ℕ) → IsBefore packed steps first next member at → IsNumberAt packed at value after → value ≡ next.first - member
read_before packed steps first next member at value after before number =
    (prefix_free value (next.first - member) (drop after packed) (drop next.at packed) number.small before.small (sym number.spelled ∙ before.spelled)).0
