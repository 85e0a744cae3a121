-- How many members of a rising list are below a number, by the block that decides.
use Rattle.std.proofs.Common.{◌≡◌, ℕ, zero, suc, ◌+◌, ◌-◌, ◌*◌, ◌^◌, ◌<◌, ◌≤◌, true, false, ltb, List, [], ◌∷◌, ◌++◌, length, filter, length-append, take, drop, get_or, refl, sym, ap, ◌∙◌, arith, inl, inr}
use Rattle.std.specs.List.{prefix_len}
use Rattle.std.proofs.lemmas.Bool.{lt-ltb, le-ltb, cases_Bool, ltb-false}
use Rattle.std.proofs.lemmas.List.{take-append-drop, drop-drop}
use Rattle.std.proofs.lemmas.List.Elements.{filter-append}
use Rattle.std.proofs.lemmas.List.Sums.{length-filter, count_by-le-length}
use Rattle.posting_code.specs.Postings.{RiseWithin, block_of}
use Rattle.posting_code.proofs.Rising.{rise_index}
use Rattle.posting_access.specs.Search.{count_below}
use Rattle.posting_access.proofs.Searches.{IsNear}

pub few_below : (xs : List ℕ) (k : ℕ) → count_below xs k ≤ length xs
few_below xs k = let counted = length-filter (λ p. ltb p k) xs in let most = count_by-le-length (λ p. ltb p k) xs in omega (arith, counted, most)

-- none of what rises starting at k is below it
none_below : (low end : ℕ) (xs : List ℕ) (k : ℕ) → RiseWithin low end xs → k ≤ low → count_below xs k ≡ 0
none_below low end [] k r le = refl
none_below low end (x ∷ xs) k r le =
    let a = r.0 in
    let e : ltb x k ≡ false = le-ltb x k (omega (arith, a, le)) in
    rw e (none_below (x + 1) end xs k r.2 (omega (arith, a, le)))

-- the members before one that is at most k are all below it
all_before : (low end : ℕ) (xs : List ℕ) (n k : ℕ) → RiseWithin low end xs → n < length xs → get_or xs n 0 ≤ k → count_below xs k ≡ n + count_below (drop n xs) k
all_before low end [] n k r lt le = absurd (omega (arith, lt))
all_before low end (x ∷ xs) zero k r lt le = omega arith
all_before low end (x ∷ xs) (suc n) k r lt le =
    let h = rise_index (x + 1) end xs n r.2 (omega (arith, lt)) in
    let a = h.0 in
    let e : ltb x k ≡ true = lt-ltb x k (omega (arith, a, le)) in
    let rest = all_before (x + 1) end xs n k r.2 (omega (arith, lt)) le in
    rw e (omega (arith, rest))

-- no member is below k starting at one that is past it
none_behind : (low end : ℕ) (xs : List ℕ) (n k : ℕ) → RiseWithin low end xs → (n < length xs → k < get_or xs n 0) → count_below (drop n xs) k ≡ 0
none_behind low end [] zero k r after = refl
none_behind low end [] (suc n) k r after = refl
none_behind low end (x ∷ xs) zero k r after =
    let lt = after (omega arith) in
    none_below x end (x ∷ xs) k (omega arith, r.1, r.2) (omega (arith, lt))
none_behind low end (x ∷ xs) (suc n) k r after = none_behind (x + 1) end xs n k r.2 (λ lt. after (omega (arith, lt)))

-- if no block begins at or before k, no member is below it
pub rank_first : (xs : List ℕ) (k : ℕ) → IsNear xs k 0 → count_below xs k ≡ 0
rank_first xs k i = none_behind 0 (2 ^ 56) xs 0 k i.rising (λ lt. i.after (omega (arith, lt)))

-- else the blocks before the last of those are below k, and this many of that one
pub rank_near : (xs : List ℕ) (k last near : ℕ) → IsNear xs k near → near ≡ last + 1 → count_below xs k ≡ 64 * last + count_below (block_of xs last) k
rank_near xs k last near i is =
    let within = i.within in
    let back : near - 1 ≡ last = omega (arith, is) in
    let begins : 64 * last < length xs = omega (arith, within, is) in
    let before : get_or xs (64 * last) 0 ≤ k = let b = i.before (omega (arith, is)) in rw back at b in
    let next : 64 * last + 64 ≡ 64 * near = omega (arith, is) in
    let behind = drop (64 * last) xs in
    let parts : take 64 behind ++ drop 64 behind ≡ behind = take-append-drop 64 behind in
    let rest : drop 64 behind ≡ drop (64 * near) xs = drop-drop 64 (64 * last) xs ∙ ap (λ n. drop n xs) next in
    let none : count_below (drop 64 behind) k ≡ 0 = ap (λ ys. count_below ys k) rest ∙ none_behind 0 (2 ^ 56) xs (64 * near) k i.rising (λ lt. i.after (omega (arith, lt))) in
    let split : count_below behind k ≡ count_below (take 64 behind) k + count_below (drop 64 behind) k =
    ap (λ ys. count_below ys k) (sym parts) ∙ ap length (filter-append (λ p. ltb p k) (take 64 behind) (drop 64 behind))
    ∙ length-append (filter (λ p. ltb p k) (take 64 behind)) (filter (λ p. ltb p k) (drop 64 behind)) in
    let front : count_below xs k ≡ 64 * last + count_below behind k = all_before 0 (2 ^ 56) xs (64 * last) k i.rising begins before in
    omega (arith, front, split, none)

-- the members of a rising list that are below k come first
pub first_are_below : (low end : ℕ) (xs : List ℕ) (k : ℕ) → RiseWithin low end xs → prefix_len (λ p. ltb p k) xs ≡ count_below xs k
first_are_below low end [] k r = refl
first_are_below low end (x ∷ xs) k r =
    elim (cases_Bool (ltb x k)) [
      | inl e ↦ let rest = first_are_below (x + 1) end xs k r.2 in rw e (omega (arith, rest))
      | inr e ↦ let ge = ltb-false x k e in let none = none_below (x + 1) end xs k r.2 (omega (arith, ge)) in rw e (omega (arith, none))
    ]
