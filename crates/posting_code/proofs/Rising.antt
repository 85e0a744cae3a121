-- Laws of strictly rising lists.
use Rattle.std.proofs.Common.{ℕ, zero, suc, ◌+◌, ◌^◌, ◌<◌, ◌≤◌, List, [], ◌∷◌, ◌++◌, length, take, drop, get_or, ◌-◌, ◌≡◌, refl, sym, subst, arith}
use Rattle.std.proofs.lemmas.List.{take-append-drop}
use Rattle.posting_code.specs.Postings.{RiseWithin, ArePostings}
use Rattle.posting_code.specs.Packed.{last_of}

-- wider bounds hold too
pub rise_wider : (low low' end end' : ℕ) (xs : List ℕ) → RiseWithin low end xs → low' ≤ low → end ≤ end' → RiseWithin low' end' xs
rise_wider low low' end end' [] r a b = tt
rise_wider low low' end end' (x ∷ xs) r a b =
    let p = r.0 in let q = r.1 in (omega arith, omega arith, rise_wider (x + 1) (x + 1) end end' xs r.2 (omega arith) b)

-- a number past the end goes at the end
pub rise_push : (low mid end : ℕ) (xs : List ℕ) (y : ℕ) → RiseWithin low mid xs → low ≤ mid → mid ≤ y → y < end → RiseWithin low end (xs ++ y ∷ [])
rise_push low mid end [] y r a b c = (omega arith, c, tt)
rise_push low mid end (x ∷ xs) y r a b c =
    let p = r.0 in let q = r.1 in (p, omega arith, rise_push (x + 1) mid end xs y r.2 (omega arith) b c)

-- what is left behind a front rises
pub rise_drop : (low end : ℕ) (xs : List ℕ) (n : ℕ) → RiseWithin low end xs → RiseWithin low end (drop n xs)
rise_drop low end [] zero r = tt
rise_drop low end [] (suc n) r = tt
rise_drop low end (x ∷ xs) zero r = r
rise_drop low end (x ∷ xs) (suc n) r =
    let p = r.0 in rise_wider (x + 1) low end end (drop n xs) (rise_drop (x + 1) end xs n r.2) (omega arith) (omega arith)

-- so does a front
pub rise_front : (low end : ℕ) (xs ys : List ℕ) → RiseWithin low end (xs ++ ys) → RiseWithin low end xs
rise_front low end [] ys r = tt
rise_front low end (x ∷ xs) ys r = (r.0, r.1, rise_front (x + 1) end xs ys r.2)

-- each member lies within the bounds
pub rise_index : (low end : ℕ) (xs : List ℕ) (i : ℕ) → RiseWithin low end xs → i < length xs → (low ≤ get_or xs i 0) × (get_or xs i 0 < end)
rise_index low end [] i r lt = absurd (omega arith)
rise_index low end (x ∷ xs) zero r lt = (r.0, r.1)
rise_index low end (x ∷ xs) (suc i) r lt =
    let h = rise_index (x + 1) end xs i r.2 (omega arith) in
    let p = r.0 in let a = h.0 in (omega arith, h.1)

-- a rising list is no longer than its bounds are apart
pub rise_length : (low end : ℕ) (xs : List ℕ) → RiseWithin low end xs → length xs ≤ end - low
rise_length low end [] r = omega arith
rise_length low end (x ∷ xs) r = let p = r.0 in let q = r.1 in let inner = rise_length (x + 1) end xs r.2 in omega (arith, p, q, inner)

-- what rises after a list is above its last member
pub rise_last : (low end : ℕ) (xs : List ℕ) (y : ℕ) → RiseWithin low end (xs ++ y ∷ []) → 0 < length xs → (last_of xs < y) × (y < end)
rise_last low end [] y r some = absurd (omega (arith, some))
rise_last low end (x ∷ []) y r some = let p = r.2 in let low = p.0 in (omega (arith, low), p.1)
rise_last low end (x ∷ z ∷ xs) y r some = rise_last (x + 1) end (z ∷ xs) y r.2 (omega arith)

pub rise_take_next : (low end : ℕ) (xs : List ℕ) (i : ℕ) → RiseWithin low end xs → i < length xs → RiseWithin low end (take i xs ++ get_or xs i 0 ∷ [])
rise_take_next low end [] i r lt = absurd (omega (arith, lt))
rise_take_next low end (x ∷ xs) zero r lt = (r.0, r.1, tt)
rise_take_next low end (x ∷ xs) (suc i) r lt = (r.0, r.1, rise_take_next (x + 1) end xs i r.2 (omega (arith, lt)))

pub last_of-push : (xs : List ℕ) (y : ℕ) → last_of (xs ++ y ∷ []) ≡ y
last_of-push [] y = refl
last_of-push (x ∷ []) y = refl
last_of-push (x ∷ z ∷ xs) y = last_of-push (z ∷ xs) y

-- the first members of a list of addresses are one too
pub front_of : (list part : List ℕ) (n : ℕ) → part ≡ take n list → ArePostings list → ArePostings part
front_of list part n is rising = subst ArePostings (sym is) (rise_front 0 (2 ^ 56) (take n list) (drop n list) (subst ArePostings (sym (take-append-drop n list)) rising))

-- and so are the others
pub rest_of : (list part : List ℕ) (n : ℕ) → part ≡ drop n list → ArePostings list → ArePostings part
rest_of list part n is rising = subst ArePostings (sym is) (rise_drop 0 (2 ^ 56) list n rising)
