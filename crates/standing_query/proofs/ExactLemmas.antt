-- The changes of two lists are exactly what went and what came, in order.
use Rattle.std.proofs.Common.{◌≡◌, Bool, true, false, not, List, [], ◌∷◌, ◌++◌, map, filter, ◌⊎◌, inl, inr, refl, sym, ap, ◌∙◌, subst}
use Rattle.std.specs.List.{AllByRecursion}
use Rattle.std.proofs.lemmas.Bool.{true≢false, cases_Bool, and_parts, and_from, or_cases, not_from_false}
use Rattle.gcl_locality.specs.Changed.{is_lost}
use Rattle.gcl_model.specs.Extents.{Extent, same_extent, contains_extent, IsAhead, IsRising}
use Rattle.gcl_model.proofs.Covers.{Has, of_each}
use Rattle.gcl_model.proofs.Minimal.{has_filter, filter_has}
use Rattle.standing_query.specs.declared.change.Change.{Change}
use Rattle.standing_query.specs.declared.change.Change.TheVariants.{Went, Came}
use Rattle.standing_query.specs.Changes.{interval_of, comes_before, lost, in_order, changes}
use Rattle.standing_query.specs.Laws.{Includes, RiseInOrder, AreChanges}
use Rattle.standing_query.proofs.ChangeLemmas.{ahead_comes, comes_after, comes_through, same_is}
use Rattle.standing_query.proofs.LocalLemmas.{kept_rises, has_contains}

-- ---- what a list of changes has

includes_each : (P : Change → Type 0) (list : List Change) (x : Change) → AllByRecursion P list → Includes list x → P x
includes_each P [] x all m = absurd m
includes_each P (y ∷ list) x all (inl e) = subst P e all.0
includes_each P (y ∷ list) x all (inr m) = includes_each P list x all.1 m

all_from_includes : (P : Change → Type 0) (list : List Change) → ((x : Change) → Includes list x → P x) → AllByRecursion P list
all_from_includes P [] each = tt
all_from_includes P (y ∷ list) each = (each y (inl refl), all_from_includes P list (λ x m. each x (inr m)))

kept_includes : (test : Change → Bool) (list : List Change) (x : Change) → Includes list x → test x ≡ true → Includes (filter test list) x
kept_includes test [] x m t = m
kept_includes test (y ∷ list) x (inl e) t = rw (subst (λ z. test z ≡ true) (sym e) t) (inl e)
kept_includes test (y ∷ list) x (inr m) t = elim (cases_Bool (test y)) [ inl h ↦ rw h (inr (kept_includes test list x m t)) | inr h ↦ rw h (kept_includes test list x m t) ]

includes_kept : (test : Change → Bool) (list : List Change) (x : Change) → Includes (filter test list) x → Includes list x × (test x ≡ true)
includes_kept test [] x m = absurd m
includes_kept test (y ∷ list) x m = elim (cases_Bool (test y)) [
  | inl h ↦ elim (rw h at m) [ inl e ↦ (inl e, subst (λ z. test z ≡ true) e h) | inr n ↦ let r = includes_kept test list x n in (inr r.0, r.1) ]
  | inr h ↦ let r = includes_kept test list x (rw h at m) in (inr r.0, r.1)
]

includes_left : (xs ys : List Change) (x : Change) → Includes xs x → Includes (xs ++ ys) x
includes_left [] ys x m = absurd m
includes_left (y ∷ xs) ys x (inl e) = inl e
includes_left (y ∷ xs) ys x (inr m) = inr (includes_left xs ys x m)

includes_right : (xs ys : List Change) (x : Change) → Includes ys x → Includes (xs ++ ys) x
includes_right [] ys x m = m
includes_right (y ∷ xs) ys x m = inr (includes_right xs ys x m)

includes_parts : (xs ys : List Change) (x : Change) → Includes (xs ++ ys) x → Includes xs x ⊎ Includes ys x
includes_parts [] ys x m = inr m
includes_parts (y ∷ xs) ys x (inl e) = inl (inl e)
includes_parts (y ∷ xs) ys x (inr m) = elim (includes_parts xs ys x m) [ inl l ↦ inl (inr l) | inr r ↦ inr r ]

-- c comes after d
abbrev after : Change → Change → Bool
after c d = comes_before (interval_of d) (interval_of c)

-- ---- two lists in order have what either has

order_from : (cs ds : List Change) (x : Change) → Includes (in_order cs ds) x → Includes cs x ⊎ Includes ds x
order_from [] ds x m = inr m
order_from (c ∷ cs) ds x m = elim (includes_parts (filter (after c) ds) _ x m) [
  | inl l ↦ inr (includes_kept (after c) ds x l).0
  | inr r ↦ elim r [
    | inl e ↦ inl (inl e)
    | inr n ↦ elim (order_from cs (filter (λ d. not (after c d)) ds) x n) [ inl l ↦ inl (inr l) | inr k ↦ inr (includes_kept (λ d. not (after c d)) ds x k).0 ]
  ]
]

order_left : (cs ds : List Change) (x : Change) → Includes cs x → Includes (in_order cs ds) x
order_left [] ds x m = absurd m
order_left (c ∷ cs) ds x (inl e) = includes_right (filter (after c) ds) _ x (inl e)
order_left (c ∷ cs) ds x (inr m) = includes_right (filter (after c) ds) _ x (inr (order_left cs (filter (λ d. not (after c d)) ds) x m))

order_right : (cs ds : List Change) (x : Change) → Includes ds x → Includes (in_order cs ds) x
order_right [] ds x m = m
order_right (c ∷ cs) ds x m = elim (cases_Bool (after c x)) [
  | inl t ↦ includes_left (filter (after c) ds) _ x (kept_includes (after c) ds x m t)
  | inr f ↦ includes_right (filter (after c) ds) _ x (inr (order_right cs (filter (λ d. not (after c d)) ds) x (kept_includes (λ d. not (after c d)) ds x m (not_from_false (after c x) f))))
]

-- ---- and rise if both rise, and no interval is in both

abbrev Before : Change → Change → Type 0
Before c d = comes_before (interval_of c) (interval_of d) ≡ true

rise_kept : (test : Change → Bool) (list : List Change) → RiseInOrder list → RiseInOrder (filter test list)
rise_kept test [] r = tt
rise_kept test (c ∷ list) r = elim (cases_Bool (test c)) [
  | inl t ↦ rw t (all_from_includes (Before c) (filter test list) (λ x m. includes_each (Before c) list x r.0 (includes_kept test list x m).0), rise_kept test list r.1)
  | inr f ↦ rw f (rise_kept test list r.1)
]

rise_append : (xs ys : List Change) → RiseInOrder xs → RiseInOrder ys → ((x y : Change) → Includes xs x → Includes ys y → Before x y) → RiseInOrder (xs ++ ys)
rise_append [] ys r s each = s
rise_append (x ∷ xs) ys r s each = (
  all_from_includes (Before x) (xs ++ ys) (λ y m. elim (includes_parts xs ys y m) [ inl l ↦ includes_each (Before x) xs y r.0 l | inr k ↦ each x y (inl refl) k ]),
  rise_append xs ys r.1 s (λ a b m n. each a b (inr m) n),
)

-- no interval is of a change of each
abbrev Apart : List Change → List Change → Type 0
Apart cs ds = (c d : Change) → Includes cs c → Includes ds d → same_extent (interval_of d) (interval_of c) ≡ false

rise_in_order : (cs ds : List Change) → RiseInOrder cs → RiseInOrder ds → Apart cs ds → RiseInOrder (in_order cs ds)
rise_in_order [] ds r s apart = s
rise_in_order (c ∷ cs) ds r s apart =
    let later : List Change = filter (λ d. not (after c d)) ds in
    let behind : (x : Change) → Includes (in_order cs later) x → Before c x = λ x m. elim (order_from cs later x m) [
      | inl l ↦ includes_each (Before c) cs x r.0 l
      | inr k ↦
          let of = includes_kept (λ d. not (after c d)) ds x k in
          comes_after (interval_of x) (interval_of c) (not_true (after c x) of.1) (apart c x (inl refl) of.0)
    ] in
    let rest = rise_in_order cs later r.1 (rise_kept (λ d. not (after c d)) ds s) (λ a b m n. apart a b (inr m) (includes_kept (λ d. not (after c d)) ds b n).0) in
    rise_append (filter (after c) ds) (c ∷ in_order cs later) (rise_kept (after c) ds s) (all_from_includes (Before c) (in_order cs later) behind, rest)
    (λ a b m n.
    let first = (includes_kept (after c) ds a m).1 in
    elim n [
      | inl e ↦ subst (λ d. Before a d) e first
      | inr k ↦ comes_through (interval_of a) (interval_of c) (interval_of b) first (behind b k)
    ])
  where
    not_true : (b : Bool) → not b ≡ true → b ≡ false
    not_true true e = sym e
    not_true false e = refl

-- ---- the changes

went_has : (list : List Extent) (a : Extent) → Has list a → Includes (map Went list) (Went a)
went_has [] a m = absurd m
went_has (x ∷ list) a (inl e) = inl (ap Went e)
went_has (x ∷ list) a (inr m) = inr (went_has list a m)

came_has : (list : List Extent) (a : Extent) → Has list a → Includes (map Came list) (Came a)
came_has [] a m = absurd m
came_has (x ∷ list) a (inl e) = inl (ap Came e)
came_has (x ∷ list) a (inr m) = inr (came_has list a m)

has_went : (list : List Extent) (c : Change) → Includes (map Went list) c → (a : Extent) × Has list a × (Went a ≡ c)
has_went [] c m = absurd m
has_went (x ∷ list) c (inl e) = (x, inl refl, e)
has_went (x ∷ list) c (inr m) = let r = has_went list c m in (r.0, inr r.1, r.2)

has_came : (list : List Extent) (c : Change) → Includes (map Came list) c → (a : Extent) × Has list a × (Came a ≡ c)
has_came [] c m = absurd m
has_came (x ∷ list) c (inl e) = (x, inl refl, e)
has_came (x ∷ list) c (inr m) = let r = has_came list c m in (r.0, inr r.1, r.2)

contains_has : (list : List Extent) (a : Extent) → contains_extent list a ≡ true → Has list a
contains_has [] a t = absurd (true≢false (sym t))
contains_has (x ∷ list) a t = elim (or_cases (same_extent x a) (contains_extent list a) t) [ inl h ↦ inl (same_is x a h) | inr h ↦ inr (contains_has list a h) ]

-- the members that are lost are those that are lost
lost_tells : (old new : List Extent) (a : Extent) → Has (lost old new) a → is_lost old new a ≡ true
lost_tells old new a m = let of = has_filter (λ c. not (contains_extent new c)) old a m in and_from (contains_extent old a) (not (contains_extent new a)) (has_contains old a of.0) of.1

lost_from : (old new : List Extent) (a : Extent) → is_lost old new a ≡ true → Has (lost old new) a
lost_from old new a t = let parts = and_parts (contains_extent old a) (not (contains_extent new a)) t in filter_has (λ c. not (contains_extent new c)) old a (contains_has old a parts.0) parts.1

rise_went : (list : List Extent) → IsRising list → RiseInOrder (map Went list)
rise_went [] r = tt
rise_went (x ∷ list) r =
    (all_from_includes (Before (Went x)) (map Went list) (λ c m. let of = has_went list c m in subst (Before (Went x)) of.2 (ahead_comes x of.0 (of_each (IsAhead x) list of.0 r.0 of.1))), rise_went list r.1)

rise_came : (list : List Extent) → IsRising list → RiseInOrder (map Came list)
rise_came [] r = tt
rise_came (x ∷ list) r =
    (all_from_includes (Before (Came x)) (map Came list) (λ c m. let of = has_came list c m in subst (Before (Came x)) of.2 (ahead_comes x of.0 (of_each (IsAhead x) list of.0 r.0 of.1))), rise_came list r.1)

lost_apart : (old new : List Extent) (a b : Extent) → Has (lost old new) a → Has (lost new old) b → same_extent b a ≡ false
lost_apart old new a b m n = elim (cases_Bool (same_extent b a)) [
  | inl t ↦
      let gone = (has_filter (λ c. not (contains_extent new c)) old a m).1 in
      let here = has_contains new a (subst (Has new) (same_is b a t) (has_filter (λ c. not (contains_extent old c)) new b n).0) in
      absurd (true≢false (sym gone ∙ ap not here))
  | inr f ↦ f
]

pub changes_exact : (old new : List Extent) → IsRising old → IsRising new → AreChanges old new (changes old new)
changes_exact old new r s =
    let gone : List Change = map Went (lost old new) in
    let come : List Change = map Came (lost new old) in
    record {
      rising = rise_in_order gone come (rise_went (lost old new) (kept_rises (λ c. not (contains_extent new c)) old r)) (rise_came (lost new old) (kept_rises (λ c. not (contains_extent old c)) new s))
          (λ c d m n.
          let a = has_went (lost old new) c m in
          let b = has_came (lost new old) d n in
          subst (λ x. same_extent (interval_of d) (interval_of x) ≡ false) a.2 (subst (λ y. same_extent (interval_of y) a.0 ≡ false) b.2 (lost_apart old new a.0 b.0 a.1 b.1)));
      went = λ a. (
        λ m. elim (order_from gone come (Went a) m) [
          | inl l ↦ let of = has_went (lost old new) (Went a) l in lost_tells old new a (subst (Has (lost old new)) (ap interval_of of.2) of.1)
          | inr k ↦ let of = has_came (lost new old) (Went a) k in absurd cc
        ],
        λ t. order_left gone come (Went a) (went_has (lost old new) a (lost_from old new a t)),
      );
      came = λ a. (
        λ m. elim (order_from gone come (Came a) m) [
          | inl l ↦ let of = has_went (lost old new) (Came a) l in absurd cc
          | inr k ↦ let of = has_came (lost new old) (Came a) k in lost_tells new old a (subst (Has (lost new old)) (ap interval_of of.2) of.1)
        ],
        λ t. order_right gone come (Came a) (came_has (lost new old) a (lost_from new old a t)),
      );
    }
