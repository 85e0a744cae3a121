-- The members of lists that are put together.
use Rattle.std.proofs.Common.{◌≡◌, ℕ, zero, suc, ◌+◌, ◌-◌, ◌≤◌, ◌<◌, ◌⊎◌, inl, inr, List, [], ◌∷◌, ◌++◌, length, map, take, set, slice_get, get_or, Option, None, Some, IfSome, refl, sym, ap, ◌∙◌, subst, arith}
use Rattle.std.proofs.lemmas.Option.{slice_get_read}

-- the member after some others
pub get_behind : {A : Type 0} (xs : List A) (y : A) → slice_get (xs ++ y ∷ []) (length xs) ≡ Some y
get_behind [] y = refl
get_behind (x ∷ xs) y = get_behind xs y

-- what is in a list with one more member was there before, or is that member
pub get_more : {A : Type 0} (xs : List A) (y : A) (k : ℕ) (x : A) → slice_get (xs ++ y ∷ []) k ≡ Some x → (slice_get xs k ≡ Some x) ⊎ ((k ≡ length xs) × (y ≡ x))
get_more [] y zero x h = inr (refl, cc h)
get_more [] y (suc k) x h = absurd (cc h)
get_more (z ∷ xs) y zero x h = inl h
get_more (z ∷ xs) y (suc k) x h = further (get_more xs y k x h)
  where
    further : (slice_get xs k ≡ Some x) ⊎ ((k ≡ length xs) × (y ≡ x)) → (slice_get xs k ≡ Some x) ⊎ ((suc k ≡ suc (length xs)) × (y ≡ x))
    further (inl a) = inl a
    further (inr b) = inr (ap suc b.0, b.1)

-- a place of two lists that are put together is one of the first, or of the second
pub place_in : {A : Type 0} (xs ys : List A) (i : ℕ) → i < length (xs ++ ys) → (i < length xs) ⊎ ((length xs ≤ i) × (i - length xs < length ys))
place_in [] ys i lt = inr (omega arith, omega arith)
place_in (x ∷ xs) ys zero lt = inl (omega arith)
place_in (x ∷ xs) ys (suc i) lt = further (place_in xs ys i (omega arith))
  where
    further : (i < length xs) ⊎ ((length xs ≤ i) × (i - length xs < length ys)) → (suc i < length (x ∷ xs)) ⊎ ((length (x ∷ xs) ≤ suc i) × (suc i - length (x ∷ xs) < length ys))
    further (inl a) = inl (let b : i < length xs = a in omega arith)
    further (inr a) = inr (let b : length xs ≤ i = a.0 in omega arith, let b : i - length xs < length ys = a.1 in omega arith)

map-take_one : {A B : Type 0} (f : A → B) (xs : List A) (k : ℕ) (y : B) → k < length xs → ((x : A) → slice_get xs k ≡ Some x → y ≡ f x)
    → map f (take k xs) ++ y ∷ [] ≡ map f (take (suc k) xs)
map-take_one f [] k y lt is = absurd (omega arith)
map-take_one f (x ∷ xs) zero y lt is = ap (λ z. z ∷ []) (is x refl)
map-take_one f (x ∷ xs) (suc k) y lt is = ap (λ l. f x ∷ l) (map-take_one f xs k y (omega arith) is)

-- the images of the first members of a list, and the image of the one after them
pub map-take_more : {A B : Type 0} (f : A → B) (xs : List A) (k : ℕ) (y : B) → k < length xs → ((x : A) → slice_get xs k ≡ Some x → y ≡ f x)
    → map f (take k xs) ++ y ∷ [] ≡ map f (take (k + 1) xs)
map-take_more f xs k y lt is =
    let next : suc k ≡ k + 1 = omega arith in
    subst (λ (n : ℕ). map f (take k xs) ++ y ∷ [] ≡ map f (take n xs)) next (map-take_one f xs k y lt is)

-- what is still there once one was taken was there before
none_some : {A : Type 0} (v : Option A) (x : A) → v ≡ None → v ≡ Some x → ⊥
none_some v x none some = cc

pub get_untaken : {A : Type 0} (xs : List (Option A)) (k i : ℕ) (v : Option A) (x : A) → v ≡ None → slice_get (set xs k v) i ≡ Some (Some x) → slice_get xs i ≡ Some (Some x)
get_untaken [] k i v x none got = got
get_untaken (y ∷ xs) zero zero v x none got = let taken : v ≡ Some x = cc got in absurd (none_some v x none taken)
get_untaken (y ∷ xs) zero (suc i) v x none got = got
get_untaken (y ∷ xs) (suc k) zero v x none got = got
get_untaken (y ∷ xs) (suc k) (suc i) v x none got = get_untaken xs k i v x none got

-- what is taken stood there
pub get_taken : {A : Type 0} (xs : List (Option A)) (k : ℕ) (v taken : Option A) → k < length xs → v ≡ get_or xs k v → taken ≡ v
    → IfSome taken (λ one. slice_get xs k ≡ Some (Some one))
get_taken xs k v None lt is same = tt
get_taken xs k v (Some one) lt is same = slice_get_read xs (length xs) k v refl lt is ∙ ap Some (sym same)
