-- The accesses of the intervals of one width.
use Rattle.std.proofs.Common.{◌≡◌, ℕ, ◌+◌, ◌-◌, ◌<◌, ◌≤◌, cond, leb, List, [], ◌∷◌, length, Some, None, min, max, inl, inr, refl, sym, ap, ◌∙◌, arith}
use Rattle.std.proofs.lemmas.Bool.{leb-true, le-leb, lt-leb, eqb-true, eq-eqb, cases_lt}
use Rattle.gcl_model.specs.Extents.{Extent, extent, all_extents, IsAhead, IsRising}
use Rattle.gcl_model.specs.Access.{later_or, first_start, first_end, last_end, last_start}
use Rattle.gcl_model.specs.Texts.{Text}
use Rattle.gcl_model.specs.Forms.{width}
use Rattle.gcl_model.specs.Meaning.{denotes}
use Rattle.gcl_model.proofs.Covers.{Has, of_each, find_agree_on, find_last_agree_on}
use Rattle.gcl_model.proofs.Minimal.{filter_has, has_filter, has_extent, same_truth}
use Rattle.gcl_model.proofs.Meanings.{IsOf, each_of_text, concordance_rises}
use Rattle.fixed_width.specs.Widths.{width_list}

-- the first member at or after k, if none that lies at or after k starts before it
first_found : (list : List Extent) → IsRising list → (k : ℕ) (b : Extent) → Has list b → k ≤ b.start → ((d : Extent) → Has list d → k ≤ d.start → b.start ≤ d.start) → Some b ≡ first_start list k
first_found [] r k b m le least = absurd m
first_found (x ∷ xs) r k b (inl same) le least =
    let e : x.start ≡ b.start = ap (λ y. y.start) same in
    rw (le-leb k x.start (omega arith)) (ap Some (sym same))
first_found (x ∷ xs) r k b (inr m) le least =
    let ahead : x.start < b.start = (of_each (IsAhead x) xs b r.0 m).0 in
    let h : k ≤ x.start → b.start ≤ x.start = least x (inl refl) in
    let before : x.start < k = elim (cases_lt x.start k) [ inl lt ↦ lt | inr ge ↦ let le = h ge in absurd (omega arith) ] in
    rw (lt-leb k x.start before) (first_found xs r.1 k b m le (λ d n. least d (inr n)))

first_missing : (list : List Extent) (k : ℕ) → ((d : Extent) → Has list d → d.start < k) → None ≡ first_start list k
first_missing [] k before = refl
first_missing (x ∷ xs) k before = rw (lt-leb k x.start (before x (inl refl))) (first_missing xs k (λ d n. before d (inr n)))

last_missing : (list : List Extent) (k : ℕ) → ((d : Extent) → Has list d → k < d.end) → None ≡ last_end list k
last_missing [] k behind = refl
last_missing (x ∷ xs) k behind = rw (← last_missing xs k (λ d n. behind d (inr n)), lt-leb x.end k (behind x (inl refl))) refl

-- the last member up to k, if none that ends by k ends after it
last_found : (list : List Extent) → IsRising list → (k : ℕ) (b : Extent) → Has list b → b.end ≤ k → ((d : Extent) → Has list d → d.end ≤ k → d.end ≤ b.end) → Some b ≡ last_end list k
last_found [] r k b m le most = absurd m
last_found (x ∷ xs) r k b (inl same) le most =
    let e : x.end ≡ b.end = ap (λ y. y.end) same in
    let none = last_missing xs k (λ d n.
    let ahead : x.end < d.end = (of_each (IsAhead x) xs d r.0 n).1 in
    let h : d.end ≤ k → d.end ≤ b.end = most d (inr n) in elim (cases_lt k d.end) [ inl lt ↦ lt | inr ge ↦ let up = h ge in absurd (omega arith) ]) in
    rw (← none, le-leb x.end k (omega arith)) (ap Some (sym same))
last_found (x ∷ xs) r k b (inr m) le most = ap (λ o. later_or o (cond (leb x.end k) (Some x) None)) (last_found xs r.1 k b m le (λ d n. most d (inr n)))

-- a rising list whose members start at k, k + 1, up to k + m - 1 has m of them
starts_counted : (list : List Extent) → IsRising list → (k m : ℕ) → ((d : Extent) → Has list d → (k ≤ d.start) × (d.start < k + m)) →
    ((p : ℕ) → k ≤ p → p < k + m → (d : Extent) × (Has list d × (d.start ≡ p))) → length list ≡ m
starts_counted [] r k m within each =
    elim (cases_lt 0 m) [ inl some ↦ absurd (each k (omega arith) (omega arith)).1.0 | inr le ↦ let none : m ≤ 0 = le in omega arith ]
starts_counted (x ∷ xs) r k m within each =
    let above : k ≤ x.start = (within x (inl refl)).0 in
    let below : x.start < k + m = (within x (inl refl)).1 in
    let least = each k (omega arith) (omega arith) in
    let is : x.start ≡ k = elim least.1.0 [
      | inl same ↦ ap (λ y. y.start) same ∙ least.1.1
      | inr h ↦ let ahead : x.start < least.0.start = (of_each (IsAhead x) xs least.0 r.0 h).0 in let at : least.0.start ≡ k = least.1.1 in absurd (omega arith)
    ] in
    let rest : length xs ≡ m - 1 = starts_counted xs r.1 (k + 1) (m - 1)
    (λ d h.
    let ahead : x.start < d.start = (of_each (IsAhead x) xs d r.0 h).0 in
    let up : d.start < k + m = (within d (inr h)).1 in (omega arith, omega arith))
    (λ p lo hi.
    let found = each p (omega arith) (omega arith) in
    let at : found.0.start ≡ p = found.1.1 in
    elim found.1.0 [
      | inl same ↦ let e : x.start ≡ found.0.start = ap (λ y. y.start) same in absurd (omega arith)
      | inr h ↦ (found.0, (h, at))
    ]) in
    omega arith

module _ (text : Text) (n : ℕ) where
  -- a member lies in the text and has the width
  pub record IsWide (d : Extent) : Type 0 where
    pub above : text.first ≤ d.start
    pub below : d.end < text.next
    pub wide : d.end + 1 ≡ d.start + n

  pub is_wide : (d : Extent) → Has (width_list text n) d → IsWide d
  is_wide d m =
      let of = of_each (IsOf text) (width_list text n) d (each_of_text text (denotes text (width n))) m in
      record { above = of.above; below = of.below; wide = eqb-true (d.end + 1) (d.start + n) (has_filter (denotes text (width n)) (all_extents text.first text.next) d m).1 }

  pub has_wide : (p q : ℕ) → text.first ≤ p → p ≤ q → q < text.next → q + 1 ≡ p + n → Has (width_list text n) (extent p q)
  has_wide p q ge le lt wide = filter_has (denotes text (width n)) (all_extents text.first text.next) (extent p q) (has_extent text.first text.next p q ge le lt) (eq-eqb (q + 1) (p + n) wide)

  pub first_start_some : (k p : ℕ) → 1 ≤ n → p ≡ max text.first k → p + n ≤ text.next → Some (extent p (p + (n - 1))) ≡ first_start (width_list text n) k
  first_start_some k p some is fits =
      first_found (width_list text n) (concordance_rises text (width n)) k (extent p (p + (n - 1))) (has_wide p (p + (n - 1)) (omega arith) (omega arith) (omega arith) (omega arith)) (omega arith)
      (λ d m le. let above = (is_wide d m).above in omega arith)

  pub first_start_none : (k : ℕ) → text.next < max text.first k + n → None ≡ first_start (width_list text n) k
  first_start_none k past = first_missing (width_list text n) k (λ d m. let w = is_wide d m in let above = w.above in let below = w.below in let wide = w.wide in omega arith)

  pub last_end_some : (k p next : ℕ) → 1 ≤ n → next ≡ min text.next (k + 1) → p + n ≡ next → text.first ≤ p → Some (extent p (p + (n - 1))) ≡ last_end (width_list text n) k
  last_end_some k p next some is at ge =
      last_found (width_list text n) (concordance_rises text (width n)) k (extent p (p + (n - 1))) (has_wide p (p + (n - 1)) ge (omega arith) (omega arith) (omega arith)) (omega arith)
      (λ d m le. let below = (is_wide d m).below in omega arith)

  pub last_end_none : (k : ℕ) → min text.next (k + 1) < text.first + n → None ≡ last_end (width_list text n) k
  last_end_none k past = last_missing (width_list text n) k (λ d m. let w = is_wide d m in let above = w.above in let below = w.below in let wide = w.wide in omega arith)

  -- one starts at each address, starting at the first, while n addresses are left
  pub width_counted : (m : ℕ) → 1 ≤ n → m ≡ ((text.next - text.first) + 1) - n → text.first ≤ text.next → m ≡ length (width_list text n)
  width_counted m some is ordered =
      sym (starts_counted (width_list text n) (concordance_rises text (width n)) text.first m
      (λ d h. let w = is_wide d h in let above = w.above in let below = w.below in let wide = w.wide in (above, omega arith))
      (λ p lo hi. (extent p (p + (n - 1)), (has_wide p (p + (n - 1)) lo (omega arith) (omega arith) (omega arith), refl))))

  -- by the end is by the start, n - 1 addresses before
  pub first_end_is : (k : ℕ) → 1 ≤ n → first_start (width_list text n) (k - (n - 1)) ≡ first_end (width_list text n) k
  first_end_is k some =
      find_agree_on (λ c. leb (k - (n - 1)) c.start) (λ c. leb k c.end) (width_list text n) (λ d m.
      let wide = (is_wide d m).wide in
      same_truth (leb (k - (n - 1)) d.start) (leb k d.end)
      (λ e. let le : k - (n - 1) ≤ d.start = leb-true (k - (n - 1)) d.start e in le-leb k d.end (omega arith))
      (λ e. let le : k ≤ d.end = leb-true k d.end e in le-leb (k - (n - 1)) d.start (omega arith)))

  pub last_start_is : (k : ℕ) → 1 ≤ n → last_end (width_list text n) (min k text.next + (n - 1)) ≡ last_start (width_list text n) k
  last_start_is k some =
      find_last_agree_on (λ c. leb c.end (min k text.next + (n - 1))) (λ c. leb c.start k) (width_list text n) (λ d m.
      let w = is_wide d m in let wide = w.wide in let below = w.below in
      same_truth (leb d.end (min k text.next + (n - 1))) (leb d.start k)
      (λ e. let le : d.end ≤ min k text.next + (n - 1) = leb-true d.end (min k text.next + (n - 1)) e in le-leb d.start k (omega arith))
      (λ e. let le : d.start ≤ k = leb-true d.start k e in le-leb d.end (min k text.next + (n - 1)) (omega arith)))
