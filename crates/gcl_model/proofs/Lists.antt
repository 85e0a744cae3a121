-- What lists keep when they are joined, cut, filtered and searched.
use Rattle.std.proofs.Common.{◌≡◌, ℕ, zero, suc, ◌+◌, ◌≤◌, ◌<◌, Bool, true, false, not, ◌&&◌, cond, List, [], ◌∷◌, ◌++◌, map, filter, find, length, take, drop, get_or, reverse, Option, Some, None, refl, sym, ap, ◌∙◌, arith, zero-add, le_refl}
use Rattle.std.specs.List.{AllByRecursion, prefix_len}
use Rattle.std.specs.List.Sorted.{IsPartitionPoint}
use Rattle.std.specs.Option.{option_or}
use Rattle.std.proofs.lemmas.List.{take-append-drop, reverse-append, drop_more}
use Rattle.std.proofs.lemmas.List.Folds.{find-append}
use Rattle.std.proofs.Math.Bool.{and-false, and-true}
use Rattle.std.proofs.Math.Seq.{take-nil, drop-nil}
use Rattle.gcl_model.specs.Access.{later_or, find_last}

-- what holds of all members
pub all_weaker : {X : Type 0} (P Q : X → Type 0) → ((x : X) → P x → Q x) → (xs : List X) → AllByRecursion P xs → AllByRecursion Q xs
all_weaker P Q each [] h = tt
all_weaker P Q each (x ∷ xs) h = (each x h.0, all_weaker P Q each xs h.1)

pub all_both : {X : Type 0} (P Q R : X → Type 0) → ((x : X) → P x → Q x → R x) → (xs : List X) → AllByRecursion P xs → AllByRecursion Q xs → AllByRecursion R xs
all_both P Q R each [] h k = tt
all_both P Q R each (x ∷ xs) h k = (each x h.0 k.0, all_both P Q R each xs h.1 k.1)

pub all_append : {X : Type 0} (P : X → Type 0) (xs ys : List X) → AllByRecursion P xs → AllByRecursion P ys → AllByRecursion P (xs ++ ys)
all_append P [] ys h k = k
all_append P (x ∷ xs) ys h k = (h.0, all_append P xs ys h.1 k)

pub all_left : {X : Type 0} (P : X → Type 0) (xs ys : List X) → AllByRecursion P (xs ++ ys) → AllByRecursion P xs
all_left P [] ys h = tt
all_left P (x ∷ xs) ys h = (h.0, all_left P xs ys h.1)

pub all_right : {X : Type 0} (P : X → Type 0) (xs ys : List X) → AllByRecursion P (xs ++ ys) → AllByRecursion P ys
all_right P [] ys h = h
all_right P (x ∷ xs) ys h = all_right P xs ys h.1

pub all_take : {X : Type 0} (P : X → Type 0) (n : ℕ) (xs : List X) → AllByRecursion P xs → AllByRecursion P (take n xs)
all_take P zero xs h = tt
all_take P (suc n) [] h = tt
all_take P (suc n) (x ∷ xs) h = (h.0, all_take P n xs h.1)

pub all_drop : {X : Type 0} (P : X → Type 0) (n : ℕ) (xs : List X) → AllByRecursion P xs → AllByRecursion P (drop n xs)
all_drop P zero xs h = h
all_drop P (suc n) [] h = tt
all_drop P (suc n) (x ∷ xs) h = all_drop P n xs h.1

pub all_map : {X Y : Type 0} (P : Y → Type 0) (f : X → Y) (xs : List X) → AllByRecursion (λ x. P (f x)) xs → AllByRecursion P (map f xs)
all_map P f [] h = tt
all_map P f (x ∷ xs) h = (h.0, all_map P f xs h.1)

-- what passes a filter passes the test, and what else held of it holds
pub all_filter : {X : Type 0} (P Q : X → Type 0) (t : X → Bool) (xs : List X) → ((x : X) → P x → t x ≡ true → Q x) → AllByRecursion P xs → AllByRecursion Q (filter t xs)
all_filter P Q t [] each h = tt
all_filter P Q t (x ∷ xs) each h = here (t x) refl (all_filter P Q t xs each h.1)
  where
    here : (b : Bool) → t x ≡ b → AllByRecursion Q (filter t xs) → AllByRecursion Q (cond b (x ∷ filter t xs) (filter t xs))
    here true e rest = (each x h.0 e, rest)
    here false e rest = rest

-- what holds of all members holds of those that pass
pub all_kept : {X : Type 0} (P : X → Type 0) (t : X → Bool) (xs : List X) → AllByRecursion P xs → AllByRecursion P (filter t xs)
all_kept P t xs h = all_filter P P t xs (λ x p passes. p) h

-- filters
pub filter_kept : {X : Type 0} (t : X → Bool) (xs : List X) → AllByRecursion (λ x. t x ≡ true) xs → filter t xs ≡ xs
filter_kept t [] h = refl
filter_kept t (x ∷ xs) h = ap (λ b. cond b (x ∷ filter t xs) (filter t xs)) h.0 ∙ ap (λ l. x ∷ l) (filter_kept t xs h.1)

pub filter_all : {X : Type 0} (xs : List X) → filter (λ x. true) xs ≡ xs
filter_all [] = refl
filter_all (x ∷ xs) = ap (λ l. x ∷ l) (filter_all xs)

pub filter_gone : {X : Type 0} (t : X → Bool) (xs : List X) → AllByRecursion (λ x. t x ≡ false) xs → filter t xs ≡ []
filter_gone t [] h = refl
filter_gone t (x ∷ xs) h = ap (λ b. cond b (x ∷ filter t xs) (filter t xs)) h.0 ∙ filter_gone t xs h.1

-- two tests one after the other are both of them at once
pub filter_twice : {X : Type 0} (p q both : X → Bool) (xs : List X) → ((x : X) → both x ≡ (p x && q x)) → filter both xs ≡ filter p (filter q xs)
filter_twice p q both [] h = refl
filter_twice p q both (x ∷ xs) h = here (p x) (q x) (both x) refl (h x) (filter_twice p q both xs h)
  where
    here : (a b c : Bool) → p x ≡ a → c ≡ (a && b) → filter both xs ≡ filter p (filter q xs) → cond c (x ∷ filter both xs) (filter both xs) ≡ filter p (cond b (x ∷ filter q xs) (filter q xs))
    here a true c is e rest = ap (λ t. cond t (x ∷ filter both xs) (filter both xs)) (e ∙ and-true a) ∙ ap (λ l. cond a (x ∷ l) l) rest ∙ sym (ap (λ t. cond t (x ∷ filter p (filter q xs)) (filter p (filter q xs))) is)
    here a false c is e rest = ap (λ t. cond t (x ∷ filter both xs) (filter both xs)) (e ∙ and-false a) ∙ rest

pub filter-map : {X Y : Type 0} (t : Y → Bool) (f : X → Y) (xs : List X) → filter t (map f xs) ≡ map f (filter (λ x. t (f x)) xs)
filter-map t f [] = refl
filter-map t f (x ∷ xs) = here (t (f x)) (filter-map t f xs)
  where
    here : (b : Bool) → filter t (map f xs) ≡ map f (filter (λ y. t (f y)) xs)
        → cond b (f x ∷ filter t (map f xs)) (filter t (map f xs)) ≡ map f (cond b (x ∷ filter (λ y. t (f y)) xs) (filter (λ y. t (f y)) xs))
    here true rest = ap (λ l. f x ∷ l) rest
    here false rest = rest

length-filter_le : {X : Type 0} (t : X → Bool) (xs : List X) → length (filter t xs) ≤ length xs
length-filter_le t [] = omega arith
length-filter_le t (x ∷ xs) = here (t x) (length-filter_le t xs)
  where
    here : (b : Bool) → length (filter t xs) ≤ length xs → length (cond b (x ∷ filter t xs) (filter t xs)) ≤ length (x ∷ xs)
    here true le = omega arith
    here false le = omega arith

-- if a test finds a member, at least one member does not pass its opposite
pub length-filter_found : {X : Type 0} (t : X → Bool) (x : X) (xs : List X) → find t xs ≡ Some x → length (filter (λ y. not (t y)) xs) + 1 ≤ length xs
length-filter_found t x [] e = absurd cc
length-filter_found t x (y ∷ ys) e = here (t y) e (length-filter_found t x ys) (length-filter_le (λ z. not (t z)) ys)
  where
    here : (b : Bool) → cond b (Some y) (find t ys) ≡ Some x → (find t ys ≡ Some x → length (filter (λ z. not (t z)) ys) + 1 ≤ length ys) → length (filter (λ z. not (t z)) ys) ≤ length ys
        → length (cond (not b) (y ∷ filter (λ z. not (t z)) ys) (filter (λ z. not (t z)) ys)) + 1 ≤ length (y ∷ ys)
    here true found rest le = omega arith
    here false found rest le = let less : length (filter (λ z. not (t z)) ys) + 1 ≤ length ys = rest found in omega arith

-- cuts
pub take_past : {X : Type 0} (x : X) (xs : List X) (n : ℕ) → take (1 + n) (x ∷ xs) ≡ x ∷ take n xs
take_past x xs n = let e : 1 + n ≡ suc n = omega arith in ap (λ m. take m (x ∷ xs)) e

pub drop_past : {X : Type 0} (x : X) (xs : List X) (n : ℕ) → drop (1 + n) (x ∷ xs) ≡ drop n xs
drop_past x xs n = let e : 1 + n ≡ suc n = omega arith in ap (λ m. drop m (x ∷ xs)) e

-- the member at a place, and those after it
pub drop_here : {X : Type 0} (xs : List X) (i : ℕ) (x : X) → i < length xs → x ≡ get_or xs i x → drop i xs ≡ x ∷ drop (i + 1) xs
drop_here xs i x lt is = drop_more xs i x lt ∙ ap (λ y. y ∷ drop (i + 1) xs) (sym is)

-- a list is what comes before a place, `count` members starting there, and the rest
pub cut_twice : {X : Type 0} (at count : ℕ) (xs : List X) → take at xs ++ (take count (drop at xs) ++ drop (at + count) xs) ≡ xs
cut_twice zero count xs = ap (λ n. take count xs ++ drop n xs) (zero-add count) ∙ take-append-drop count xs
cut_twice (suc at) count [] = ap (λ l. l ++ drop (suc at + count) []) (take-nil count) ∙ drop-nil (suc at + count)
cut_twice (suc at) count (x ∷ xs) =
    let more : suc at + count ≡ suc (at + count) = omega arith in
    ap (λ n. x ∷ (take at xs ++ (take count (drop at xs) ++ drop n (x ∷ xs)))) more ∙ ap (λ l. x ∷ l) (cut_twice at count xs)

-- a partition point is the length of the front that passes
pub prefix_len_at_point : {X : Type 0} (p : X → Bool) (xs : List X) (n : ℕ) → n ≤ length xs → IsPartitionPoint (λ x. p x ≡ true) (λ x. p x ≡ false) xs n → n ≡ prefix_len p xs
prefix_len_at_point p [] n le point = omega arith
prefix_len_at_point p (x ∷ xs) zero le point = let fails : p x ≡ false = point.1 0 x (le_refl 0) (omega arith) in rw fails refl
prefix_len_at_point p (x ∷ xs) (suc n) le point =
    let passes : p x ≡ true = point.0 0 x (le_refl 0) (omega arith) in
    let rest : n ≡ prefix_len p xs = prefix_len_at_point p xs n (omega arith) (λ k d ge lt. point.0 (suc k) d (omega arith) (omega arith), λ k d ge lt. point.1 (suc k) d (omega arith) (omega arith)) in
    rw passes (omega arith)

-- searches: what is found passes
pub found_passes : {X : Type 0} (t : X → Bool) (x : X) (xs : List X) → find t xs ≡ Some x → t x ≡ true
found_passes t x [] e = absurd cc
found_passes t x (y ∷ ys) e = here (t y) refl e (found_passes t x ys)
  where
    here : (b : Bool) → t y ≡ b → cond b (Some y) (find t ys) ≡ Some x → (find t ys ≡ Some x → t x ≡ true) → t x ≡ true
    here true is found rest = let same : y ≡ x = cc in sym (ap t same) ∙ is
    here false is found rest = rest found

-- two tests that agree on all members find the same one
pub find_agree : {X : Type 0} (p q : X → Bool) (xs : List X) → AllByRecursion (λ x. p x ≡ q x) xs → find p xs ≡ find q xs
find_agree p q [] h = refl
find_agree p q (x ∷ xs) h = ap (λ b. cond b (Some x) (find p xs)) h.0 ∙ ap (λ o. cond (q x) (Some x) o) (find_agree p q xs h.1)

pub find_last_agree : {X : Type 0} (p q : X → Bool) (xs : List X) → AllByRecursion (λ x. p x ≡ q x) xs → find_last p xs ≡ find_last q xs
find_last_agree p q [] h = refl
find_last_agree p q (x ∷ xs) h = ap (λ b. later_or (find_last p xs) (cond b (Some x) None)) h.0 ∙ ap (λ o. later_or o (cond (q x) (Some x) None)) (find_last_agree p q xs h.1)

pub later_or-none : {X : Type 0} (o : Option X) → later_or o None ≡ o
later_or-none None = refl
later_or-none (Some x) = refl

pub later_or-assoc : {X : Type 0} (o p q : Option X) → later_or (later_or o p) q ≡ later_or o (later_or p q)
later_or-assoc None p q = refl
later_or-assoc (Some x) p q = refl

later_or-option_or : {X : Type 0} (a : Option X) (b : Bool) (x : X) → option_or a (cond b (Some x) None) ≡ later_or a (cond b (Some x) None)
later_or-option_or None b x = refl
later_or-option_or (Some y) b x = refl

pub find_last-append : {X : Type 0} (p : X → Bool) (xs ys : List X) → find_last p (xs ++ ys) ≡ later_or (find_last p ys) (find_last p xs)
find_last-append p [] ys = sym (later_or-none (find_last p ys))
find_last-append p (x ∷ xs) ys =
    ap (λ o. later_or o (cond (p x) (Some x) None)) (find_last-append p xs ys) ∙ later_or-assoc (find_last p ys) (find_last p xs) (cond (p x) (Some x) None)

-- the first from the back is the last
pub find-reverse : {X : Type 0} (p : X → Bool) (xs : List X) → find p (reverse xs) ≡ find_last p xs
find-reverse p [] = refl
find-reverse p (x ∷ xs) =
    ap (find p) (reverse-append (x ∷ []) xs)
    ∙ find-append p (reverse xs) (x ∷ [])
    ∙ ap (λ o. option_or o (cond (p x) (Some x) None)) (find-reverse p xs)
    ∙ later_or-option_or (find_last p xs) (p x) x

pub one_at_most : (b : Bool) → cond b 1 0 ≤ 1
one_at_most true = omega arith
one_at_most false = omega arith
