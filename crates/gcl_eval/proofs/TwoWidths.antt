-- How many intervals of one width a containment with those of another keeps.
use Rattle.std.proofs.Common.{◌≡◌, ℕ, suc, ◌+◌, ◌-◌, ◌<◌, ◌≤◌, Bool, true, false, cond, not, ◌&&◌, leb, min, List, [], ◌∷◌, length, filter, refl, sym, ap, ◌∙◌, inl, inr, arith}
use Rattle.std.proofs.lemmas.Bool.{and_parts, and_from, leb-true, le-leb}
use Rattle.gcl_model.specs.Extents.{Extent, extent, covers, is_inside}
use Rattle.gcl_model.specs.Texts.{Text}
use Rattle.gcl_model.specs.Forms.{width}
use Rattle.gcl_model.specs.FormOf.{containment_form}
use Rattle.gcl_model.specs.Meaning.{concordance}
use Rattle.gcl_model.specs.declared.containment.Containment.{Containment}
use Rattle.gcl_model.specs.declared.containment.Containment.TheVariants.{Containing, ContainedIn, NotContaining, NotContainedIn}
use Rattle.gcl_model.proofs.Covers.{Has, covered_tells, covered_from}
use Rattle.gcl_model.proofs.Minimal.{same_truth}
use Rattle.gcl_contain.proofs.Accesses.{inside_tells, inside_from}
use Rattle.gcl_contain.proofs.Nodes.{containing_list, contained_in_list, not_containing_list, not_contained_in_list}
use Rattle.gcl_model.specs.WellFormed.{IsWellFormed}
use Rattle.fixed_width.specs.Widths.{width_list, HasSpan}
use Rattle.fixed_width.proofs.Widths.{is_wide, has_wide}
use Rattle.gcl_eval.specs.TwoWidths.{keeps_all}

-- a test that gives the same answer for each member keeps all of them, or none
filter_alike : (test : Extent → Bool) (list : List Extent) (b : Bool) → ((a : Extent) → Has list a → test a ≡ b) → length (filter test list) ≡ cond b (length list) 0
filter_alike test [] true alike = refl
filter_alike test [] false alike = refl
filter_alike test (x ∷ xs) true alike = rw (alike x (inl refl)) (ap (λ n. suc n) (filter_alike test xs true (λ a m. alike a (inr m))))
filter_alike test (x ∷ xs) false alike = rw (alike x (inl refl)) (filter_alike test xs false (λ a m. alike a (inr m)))

module _ (text : Text) (n m : ℕ) (n_some : 1 ≤ n) (m_some : 1 ≤ m) where
  covers_is : (c : Extent) → Has (width_list text n) c → covers (width_list text m) c ≡ leb m n
  covers_is c h =
      let w = is_wide text n c h in
      let above : text.first ≤ c.start = w.above in
      let below : c.end < text.next = w.below in
      let wide : c.end + 1 ≡ c.start + n = w.wide in
      same_truth (covers (width_list text m) c) (leb m n)
      (λ e.
      let by = covered_tells (width_list text m) c e in
      let narrow : by.by.end + 1 ≡ by.by.start + m = (is_wide text m by.by by.member).wide in
      let from : c.start ≤ by.by.start = by.nested.0 in
      let upto : by.by.end ≤ c.end = by.nested.1 in le-leb m n (omega arith))
      (λ e.
      let le : m ≤ n = leb-true m n e in
      covered_from (width_list text m) (extent c.start (c.start + (m - 1))) c (has_wide text m c.start (c.start + (m - 1)) above (omega arith) (omega arith) (omega arith)) (omega arith, omega arith))

  inside_is : (c : Extent) → Has (width_list text n) c → is_inside (width_list text m) c ≡ (leb n m && leb m (text.next - text.first))
  inside_is c h =
      let w = is_wide text n c h in
      let above : text.first ≤ c.start = w.above in
      let below : c.end < text.next = w.below in
      let wide : c.end + 1 ≡ c.start + n = w.wide in
      same_truth (is_inside (width_list text m) c) (leb n m && leb m (text.next - text.first))
      (λ e.
      let around = inside_tells (width_list text m) c e in
      let v = is_wide text m around.outer around.member in
      let low : text.first ≤ around.outer.start = v.above in
      let high : around.outer.end < text.next = v.below in
      let broad : around.outer.end + 1 ≡ around.outer.start + m = v.wide in
      let from : around.outer.start ≤ c.start = around.nested.0 in
      let upto : c.end ≤ around.outer.end = around.nested.1 in
      and_from (leb n m) (leb m (text.next - text.first)) (le-leb n m (omega arith)) (le-leb m (text.next - text.first) (omega arith)))
      (λ e.
      let both = and_parts (leb n m) (leb m (text.next - text.first)) e in
      let up : n ≤ m = leb-true n m both.0 in
      let fits : m ≤ text.next - text.first = leb-true m (text.next - text.first) both.1 in
      around c (min c.start (text.next - m)) (omega arith) (omega arith) (omega arith) (omega arith))
    where
      around : (c : Extent) (s : ℕ) → text.first ≤ s → s + m ≤ text.next → s ≤ c.start → c.end + 1 ≤ s + m → is_inside (width_list text m) c ≡ true
      around c s low high from upto = inside_from (width_list text m) (extent s (s + (m - 1))) c (has_wide text m s (s + (m - 1)) low (omega arith) (omega arith) (omega arith)) (from, omega arith)

pub two_widths_counted : (containment : Containment) (text : Text) (n m : ℕ) → 1 ≤ n → 1 ≤ m →
    length (concordance text (containment_form containment (width n) (width m))) ≡ cond (keeps_all containment n m (text.next - text.first)) (length (width_list text n)) 0
two_widths_counted Containing text n m p q =
    ap (λ l. length l) (containing_list text (width n) (width m)) ∙ filter_alike (covers (width_list text m)) (width_list text n) (leb m n) (covers_is text n m p q)
two_widths_counted ContainedIn text n m p q =
    ap (λ l. length l) (contained_in_list text (width n) (width m)) ∙ filter_alike (is_inside (width_list text m)) (width_list text n) (leb n m && leb m (text.next - text.first)) (inside_is text n m p q)
two_widths_counted NotContaining text n m p q =
    ap (λ l. length l) (not_containing_list text (width n) (width m)) ∙
    filter_alike (λ c. not (covers (width_list text m) c)) (width_list text n) (not (leb m n)) (λ c h. ap not (covers_is text n m p q c h))
two_widths_counted NotContainedIn text n m p q =
    ap (λ l. length l) (not_contained_in_list text (width n) (width m)) ∙
    filter_alike (λ c. not (is_inside (width_list text m) c)) (width_list text n) (not (leb n m && leb m (text.next - text.first))) (λ c h. ap not (inside_is text n m p q c h))

-- the same by the span of the text
pub kept_widths : (containment : Containment) (text : Text) (n m first next : ℕ) (keeps : Bool) → 1 ≤ n → 1 ≤ m → HasSpan text first next →
    keeps ≡ keeps_all containment n m (next - first) → cond keeps (length (width_list text n)) 0 ≡ length (concordance text (containment_form containment (width n) (width m)))
kept_widths containment text n m first next keeps p q has is =
    let room : text.next - text.first ≡ next - first = ap (λ x. x - text.first) has.next_is ∙ ap (λ x. next - x) has.first_is in
    ap (λ k. cond k (length (width_list text n)) 0) (is ∙ ap (λ r. keeps_all containment n m r) (sym room)) ∙ sym (two_widths_counted containment text n m p q)

-- the widths of a containment that is well formed have an address at least
pub widths_some : (containment : Containment) (n m : ℕ) → IsWellFormed (containment_form containment (width n) (width m)) → (1 ≤ n) × (1 ≤ m)
widths_some Containing n m w = (w.0.0, w.1.0)
widths_some ContainedIn n m w = (w.0.0, w.1.0)
widths_some NotContaining n m w = (w.0.0, w.1.0)
widths_some NotContainedIn n m w = (w.0.0, w.1.0)
