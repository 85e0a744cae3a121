-- The rows of the names that were seen: they are in order, and have the addresses of each token.
use Rattle.std.proofs.Common.{◌≡◌, ℕ, zero, suc, ◌+◌, ◌-◌, ◌<◌, ◌≤◌, Bool, true, false, List, [], ◌∷◌, ◌++◌, length, map, reverse, get_or, bytes_eq, nat_eq, nat_cmp, Option, Some, None, inl, inr, refl, sym, ap, ◌∙◌, subst, arith}
use Rattle.std.specs.declared.cmp.Ordering.{Ordering}
use Rattle.std.specs.List.{AllByRecursion, IsDistinct}
use Rattle.std.specs.List.Sorted.{IsSorted, IsStrictlySortedBy}
use Rattle.std.specs.Option.{unwrap_or}
use Rattle.std.specs.Ordering.{is_lt, ordering_then, then_cmp, on}
use Rattle.std.specs.Map.{keys_of}
use Rattle.std.specs.Cmp.Lexicographic.{slice_cmp}
use Rattle.std.proofs.lemmas.Bool.{cases_Bool}
use Rattle.std.proofs.lemmas.Bool.Decides.{Decides-eqb}
use Rattle.std.proofs.lemmas.Cmp.{nat_list_eq_equiv, nat_list_cmp_total, nat_cmp_total, on_total, then_total}
use Rattle.std.specs.Cmp.{IsStrictWeakOrder, IsTotalOrder}
use Rattle.std.proofs.lemmas.List.{length-map, length-reverse, get_or-map, get_or-reverse, reverse-append}
use Rattle.std.proofs.lemmas.List.Elements.{All-from_recursion, recursion_from_All}
use Rattle.std.proofs.lemmas.List.Sorted.{All-permutation, IsPermutation-reverse, IsStrictWeakOrder-flip, ranks_by, sum_by-IsPermutation}
use Rattle.std.proofs.lemmas.Slice.Eq.{bytes_eq-Decides}
use Rattle.index_shard.specs.Kept.{leading}
use Rattle.index_shard.proofs.Heads.{heads_first}
use Rattle.index_shard.proofs.TableLaws.{all_at}
use Rattle.shard_build.specs.Groups.{unless_empty}
use Rattle.shard_build.specs.Met.{AreNames, IsNoted, falling, filled, list_at, name_at, names_of, row_at, rows_of, times, with_list}
use Rattle.shard_build.specs.declared.seen.Seen.{Seen}
use Rattle.shard_build.proofs.NameLists.{Entries, found, found_at, filled_le, keys_set, list_set_other}
use Rattle.shard_build.proofs.NameOrder.{strictly_sorted}
use Rattle.shard_build.proofs.SeenNames.{one, one_same, one_other, times_cons, times_push}

-- ---- no name is seen twice

-- two numbers of distinct names
names_differ : (names : List (List ℕ)) (i j : ℕ) → IsDistinct bytes_eq names → i < length names → j < length names → nat_eq i j ≡ false → bytes_eq (get_or names i []) (get_or names j []) ≡ false
unfolding IsDistinct
names_differ [] i j distinct first second other = absurd (omega (arith, first))
names_differ (n ∷ ns) zero zero distinct first second other = let yes = sym ((Decides-eqb 0 0).1 refl) ∙ other in absurd cc
names_differ (n ∷ ns) zero (suc j) distinct first second other = all_at (λ y. bytes_eq n y ≡ false) ns j [] distinct.0 (omega (arith, second))
names_differ (n ∷ ns) (suc i) zero distinct first second other = nat_list_eq_equiv.symm (get_or ns i []) n ∙ all_at (λ y. bytes_eq n y ≡ false) ns i [] distinct.0 (omega (arith, first))
names_differ (n ∷ ns) (suc i) (suc j) distinct first second other = names_differ ns i j distinct.1 (omega (arith, first)) (omega (arith, second)) (lower i j (nat_eq i j) refl other)
  where
    lower : (a b : ℕ) (t : Bool) → nat_eq a b ≡ t → nat_eq (suc a) (suc b) ≡ false → t ≡ false
    lower a b true is other = let yes = sym ((Decides-eqb (suc a) (suc b)).1 (ap suc ((Decides-eqb a b).0 is))) ∙ other in absurd cc
    lower a b false is other = refl

all_differ : (names : List (List ℕ)) (s : Seen) (seen : List Seen) → IsDistinct bytes_eq names → IsNoted names s → AllByRecursion (IsNoted names) seen → times s.number seen ≡ 0 →
    AllByRecursion (λ y. bytes_eq (get_or names s.number []) y ≡ false) (map (λ t. get_or names t.number []) seen)
all_differ names s [] distinct noted all none = tt
all_differ names s (t ∷ seen) distinct noted all none =
    let more = times_cons s.number t seen in
    elim (cases_Bool (nat_eq t.number s.number)) [
      | inl h ↦ let here = one_same s.number t ((Decides-eqb t.number s.number).0 h) in absurd (omega (arith, more, none, here))
      | inr h ↦
          let here = one_other s.number t h in (
            nat_list_eq_equiv.symm (get_or names s.number []) (get_or names t.number []) ∙ names_differ names t.number s.number distinct all.0.within noted.within h,
            all_differ names s seen distinct noted all.1 (omega (arith, more, none, here)),
          )
    ]

seen_distinct : (names : List (List ℕ)) (seen : List Seen) → IsDistinct bytes_eq names → AllByRecursion (IsNoted names) seen → ((number : ℕ) → times number seen ≤ 1) → IsDistinct bytes_eq (map (λ t. get_or names t.number []) seen)
unfolding IsDistinct
seen_distinct names [] distinct all few = tt
seen_distinct names (s ∷ seen) distinct all few =
    let more = times_cons s.number s seen in
    let here = one_same s.number s refl in
    let most = few s.number in (
      all_differ names s seen distinct all.0 all.1 (omega (arith, more, here, most)),
      seen_distinct names seen distinct all.1 (λ number. let m = times_cons number s seen in let f = few number in omega (arith, m, f)),
    )

-- ---- in order

-- two heads show nothing that the names do not
falling_names : (names : List (List ℕ)) (x y : Seen) → IsNoted names x → IsNoted names y → falling names x y ≡ slice_cmp nat_cmp (get_or names y.number []) (get_or names x.number [])
falling_names names x y first second =
    let a = get_or names y.number [] in
    let b = get_or names x.number [] in
    ap (λ h. ordering_then (nat_cmp h x.head) (slice_cmp nat_cmp a b)) second.head
    ∙ ap (λ h. ordering_then (nat_cmp (leading 8 0 a) h) (slice_cmp nat_cmp a b)) first.head
    ∙ heads_first 8 a b second.bytes first.bytes

no_seen : Seen
no_seen = record { head = 0; number = 0 }

rows_sorted : (names : List (List ℕ)) (seen : List Seen) → AllByRecursion (IsNoted names) seen → IsSorted (falling names) seen → IsSorted (slice_cmp nat_cmp) (map (λ t. get_or names t.number []) (reverse seen))
rows_sorted names seen all sorted k d low lt =
    let name : Seen → List ℕ = λ t. get_or names t.number [] in
    let n = length seen in
    let turned = length-reverse seen in
    let long = length-map (reverse seen) name in
    let before : k < length (reverse seen) = omega (arith, lt, long) in
    let behind : k + 1 < length (reverse seen) = omega (arith, lt, long) in
    let i = n - 1 - (k + 1) in
    let j = n - 1 - k in
    let next : i + 1 ≡ j = omega (arith, behind, turned) in
    let x = get_or seen i no_seen in
    let y = get_or seen j no_seen in
    let here : get_or (map name (reverse seen)) k d ≡ name y = get_or-map name (reverse seen) k no_seen d before ∙ ap name (get_or-reverse seen k no_seen (omega (arith, before, turned))) in
    let there : get_or (map name (reverse seen)) (k + 1) d ≡ name x = get_or-map name (reverse seen) (k + 1) no_seen d behind ∙ ap name (get_or-reverse seen (k + 1) no_seen (omega (arith, behind, turned))) in
    let noted_x = all_at (IsNoted names) seen i no_seen all (omega (arith, behind, turned)) in
    let noted_y = all_at (IsNoted names) seen j no_seen all (omega (arith, before, turned)) in
    let falls : is_lt (falling names y x) ≡ false = ap (λ m. is_lt (falling names (get_or seen m no_seen) x)) (sym next) ∙ sorted i no_seen (omega arith) (omega (arith, behind, turned)) in
    ap (λ a. is_lt (slice_cmp nat_cmp a (get_or (map name (reverse seen)) k d))) there
    ∙ ap (λ b. is_lt (slice_cmp nat_cmp (name x) b)) here
    ∙ ap is_lt (sym (falling_names names y x noted_y noted_x))
    ∙ falls

keys_rows : (es : Entries) (seen : List Seen) → keys_of (map (row_at es) seen) ≡ map (λ t. get_or (keys_of es) t.number []) seen
keys_rows es [] = refl
keys_rows es (s ∷ seen) = ap (λ ks. get_or (keys_of es) s.number [] ∷ ks) (keys_rows es seen)

times_reverse : (number : ℕ) (seen : List Seen) → times number (reverse seen) ≡ times number seen
times_reverse number seen = sum_by-IsPermutation (one number) seen (reverse seen) (IsPermutation-reverse seen)

noted_reverse : (names : List (List ℕ)) (seen : List Seen) → AllByRecursion (IsNoted names) seen → AllByRecursion (IsNoted names) (reverse seen)
noted_reverse names seen all = recursion_from_All (IsNoted names) (reverse seen) (All-permutation (IsNoted names) seen (reverse seen) (IsPermutation-reverse seen) (All-from_recursion (IsNoted names) seen all))

times_few : (es : Entries) (seen : List Seen) → AreNames (names_of es seen) → (number : ℕ) → times number (reverse seen) ≤ 1
times_few es seen names number =
    let turned = times_reverse number seen in
    let once = names.once number in
    let most = filled_le (list_at es number) in
    omega (arith, turned, once, most)

pub rows_rise : (es : Entries) (seen : List Seen) → AreNames (names_of es seen) → IsSorted (falling (keys_of es)) seen → IsStrictlySortedBy (slice_cmp nat_cmp) (keys_of (rows_of (names_of es seen)))
rows_rise es seen names sorted =
    let ks = map (λ t. get_or (keys_of es) t.number []) (reverse seen) in
    subst (IsStrictlySortedBy (slice_cmp nat_cmp)) (sym (keys_rows es (reverse seen)))
    (strictly_sorted ks (rows_sorted (keys_of es) seen names.noted sorted) (seen_distinct (keys_of es) (reverse seen) names.distinct (noted_reverse (keys_of es) seen names.noted) (times_few es seen names)))

-- ---- what the rows have

-- the row of a token has its addresses
rows_have : (es : Entries) (seen : List Seen) (token ps : List ℕ) → IsDistinct bytes_eq (keys_of es) → AllByRecursion (IsNoted (keys_of es)) seen → ((number : ℕ) → 1 ≤ times number seen → filled (list_at es number) ≡ 1) →
    found (map (row_at es) seen) token ≡ Some ps → unless_empty (unwrap_or (found es token) []) ≡ Some ps
rows_have es [] token ps distinct all full is = absurd cc
rows_have es (s ∷ seen) token ps distinct all full is =
    let more = times_cons s.number s seen in
    let here = one_same s.number s refl in
    let long = length-map es (λ e. e.0) in
    let within = all.0.within in
    elim (cases_Bool (bytes_eq token (name_at es s.number))) [
      | inl h ↦
          let same : token ≡ name_at es s.number = (bytes_eq-Decides token (name_at es s.number)).0 h in
          let mine : found es token ≡ Some (list_at es s.number) = found_at es s.number token distinct (omega (arith, within, long)) (sym same) in
          let it : Some (list_at es s.number) ≡ Some ps = let i = rw h at is in i in
          ap (λ o. unless_empty (unwrap_or o [])) (mine ∙ it) ∙ some_filled ps (subst (λ l. filled l ≡ 1) (some_same (list_at es s.number) ps it) (full s.number (omega (arith, more, here))))
      | inr h ↦
          rows_have es seen token ps distinct all.1 (λ number some. full number (let m = times_cons number s seen in omega (arith, m, some))) (let i = rw h at is in i)
    ]
  where
    some_same : (a b : List ℕ) → Some a ≡ Some b → a ≡ b
    some_same a b is = ap (λ o. unwrap_or o a) is

    some_filled : (l : List ℕ) → filled l ≡ 1 → unless_empty l ≡ Some l
    some_filled [] full = absurd (omega (arith, full))
    some_filled (q ∷ qs) full = refl

-- and a name with addresses has a row
rows_meet : (es : Entries) (seen : List Seen) (i : ℕ) (token : List ℕ) → 1 ≤ times i seen → name_at es i ≡ token → found (map (row_at es) seen) token ≡ None → ⊥
rows_meet es [] i token some is none = absurd (omega (arith, some))
rows_meet es (s ∷ seen) i token some is none =
    let more = times_cons i s seen in
    elim (cases_Bool (bytes_eq token (name_at es s.number))) [
      | inl h ↦ let never : Some (list_at es s.number) ≡ None = let n = rw h at none in n in absurd cc
      | inr h ↦ elim (cases_Bool (nat_eq s.number i)) [
        | inl same ↦
            let it : token ≡ name_at es s.number = sym is ∙ ap (name_at es) (sym ((Decides-eqb s.number i).0 same)) in
            let never = sym h ∙ (bytes_eq-Decides token (name_at es s.number)).1 it in absurd cc
        | inr other ↦
            let here = one_other i s other in
            rows_meet es seen i token (omega (arith, more, here, some)) is (let n = rw h at none in n)
      ]
    ]

-- if a token is found, it is the name with some number
found_place : (es : Entries) (token ps : List ℕ) → found es token ≡ Some ps → (i : ℕ) × (name_at es i ≡ token) × (list_at es i ≡ ps)
found_place [] token ps is = absurd cc
found_place (e ∷ es) token ps is =
    elim (cases_Bool (bytes_eq token e.0)) [
      | inl h ↦ let it : Some e.1 ≡ Some ps = let i = rw h at is in i in (zero, sym ((bytes_eq-Decides token e.0).0 h), ap (λ o. unwrap_or o ps) it)
      | inr h ↦ let rest = found_place es token ps (let i = rw h at is in i) in (suc rest.0, rest.1, rest.2)
    ]

pub rows_found : (es : Entries) (seen : List Seen) → AreNames (names_of es seen) → (token : List ℕ) → found (rows_of (names_of es seen)) token ≡ unless_empty (unwrap_or (found es token) [])
rows_found es seen names token = by (found (map (row_at es) (reverse seen)) token) refl
  where
    full : (number : ℕ) → 1 ≤ times number (reverse seen) → filled (list_at es number) ≡ 1
    full number some =
        let turned = times_reverse number seen in
        let once = names.once number in
        let most = filled_le (list_at es number) in
        omega (arith, turned, once, most, some)

    lack : (o : Option (List ℕ)) → found es token ≡ o → found (map (row_at es) (reverse seen)) token ≡ None → None ≡ unless_empty (unwrap_or o [])
    lack None is none = refl
    lack (Some []) is none = refl
    lack (Some (p ∷ ps)) is none =
        let place = found_place es token (p ∷ ps) is in
        let once = names.once place.0 in
        let turned = times_reverse place.0 seen in
        let some : filled (list_at es place.0) ≡ 1 = ap filled place.2 in
        absurd (rows_meet es (reverse seen) place.0 token (omega (arith, once, turned, some)) place.1 none)

    by : (o : Option (List ℕ)) → found (map (row_at es) (reverse seen)) token ≡ o → found (map (row_at es) (reverse seen)) token ≡ unless_empty (unwrap_or (found es token) [])
    by None is = is ∙ lack (found es token) refl is
    by (Some ps) is = is ∙ sym (rows_have es (reverse seen) token ps names.distinct (noted_reverse (keys_of es) seen names.noted) full is)

-- ---- one row after the other

-- to empty a list that no other of those seen has changes no other row
rows_kept : (es : Entries) (i : ℕ) (seen : List Seen) → times i seen ≡ 0 → map (row_at (with_list es i [])) seen ≡ map (row_at es) seen
rows_kept es i [] none = refl
rows_kept es i (s ∷ seen) none =
    let more = times_cons i s seen in
    elim (cases_Bool (nat_eq s.number i)) [
      | inl h ↦ let here = one_same i s ((Decides-eqb s.number i).0 h) in absurd (omega (arith, more, none, here))
      | inr h ↦
          let here = one_other i s h in
          let name : name_at (with_list es i []) s.number ≡ name_at es s.number = ap (λ ks. get_or ks s.number []) (keys_set es i []) in
          let list : list_at (with_list es i []) s.number ≡ list_at es s.number = list_set_other es i s.number [] (λ same. let yes = sym ((Decides-eqb s.number i).1 (sym same)) ∙ h in absurd cc) in
          ap (λ n. (n, list_at (with_list es i []) s.number) ∷ map (row_at (with_list es i [])) seen) name
          ∙ ap (λ l. (name_at es s.number, l) ∷ map (row_at (with_list es i [])) seen) list
          ∙ ap (λ rest. row_at es s ∷ rest) (rows_kept es i seen (omega (arith, more, here, none)))
    ]

reverse_push : (seen : List Seen) (s : Seen) → reverse (seen ++ s ∷ []) ≡ s ∷ reverse seen
reverse_push seen s = reverse-append seen (s ∷ [])

-- the first row is that of the last that was seen, and the others are those of the rest, once its list was taken
pub rows_next : (es fs : Entries) (seen all : List Seen) (s : Seen) → all ≡ seen ++ s ∷ [] → fs ≡ with_list es s.number [] → AreNames (names_of es all) →
    rows_of (names_of es all) ≡ row_at es s ∷ rows_of (names_of fs seen)
rows_next es fs seen all s is set names =
    let was : times s.number all ≡ filled (list_at es s.number) = names.once s.number in
    let more : times s.number all ≡ times s.number seen + one s.number s = ap (times s.number) is ∙ times_push s.number seen s in
    let here = one_same s.number s refl in
    let most = filled_le (list_at es s.number) in
    let turned = times_reverse s.number seen in
    let none : times s.number (reverse seen) ≡ 0 = omega (arith, was, more, here, most, turned) in
    ap (λ l. map (row_at es) (reverse l)) is ∙ ap (map (row_at es)) (reverse_push seen s)
    ∙ ap (λ rest. row_at es s ∷ rest) (sym (rows_kept es s.number (reverse seen) none) ∙ ap (λ l. map (row_at l) (reverse seen)) (sym set))

-- ---- the order that is sorted by is one

abbrev head_and_name : List (List ℕ) → Seen → ℕ × List ℕ
head_and_name names s = (s.head, get_or names s.number [])

abbrev by_head : ℕ × List ℕ → ℕ × List ℕ → Ordering
by_head = then_cmp (on (λ (p : ℕ × List ℕ). p.0) nat_cmp) (on (λ (p : ℕ × List ℕ). p.1) (slice_cmp nat_cmp))

by_head_total : IsTotalOrder by_head
by_head_total = then_total (on_total (λ (p : ℕ × List ℕ). p.0) nat_cmp_total) (on_total (λ (p : ℕ × List ℕ). p.1) nat_list_cmp_total)

pub falling_order : (names : List (List ℕ)) → IsStrictWeakOrder (λ x y. is_lt (falling names x y))
falling_order names = IsStrictWeakOrder-flip (λ x y. is_lt (by_head (head_and_name names x) (head_and_name names y))) (ranks_by by_head_total (head_and_name names))

-- ---- none seen

pub none_found : (es : Entries) (seen : List Seen) → seen ≡ [] → AreNames (names_of es seen) → (token : List ℕ) → unless_empty (unwrap_or (found es token) []) ≡ None
none_found es seen none names token = by (found es token) refl
  where
    by : (o : Option (List ℕ)) → found es token ≡ o → unless_empty (unwrap_or (found es token) []) ≡ None
    by None is = ap (λ o. unless_empty (unwrap_or o [])) is
    by (Some []) is = ap (λ o. unless_empty (unwrap_or o [])) is
    by (Some (p ∷ ps)) is =
        let place = found_place es token (p ∷ ps) is in
        let once = names.once place.0 in
        let no : times place.0 seen ≡ 0 = ap (times place.0) none in
        let some : filled (list_at es place.0) ≡ 1 = ap filled place.2 in
        absurd (omega (arith, once, no, some))
