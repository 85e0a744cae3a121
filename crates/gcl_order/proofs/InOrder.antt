-- The accesses of "followed by" from operand to operand, in numbers: on after each end, and back before each start.
use Rattle.std.proofs.Common.{◌≡◌, ℕ, zero, suc, ◌+◌, ◌-◌, ◌≤◌, Bool, false, ◌&&◌, ◌||◌, leb, List, [], ◌∷◌, Option, Some, None, refl, sym, ap, ◌∙◌, arith}
use Rattle.std.specs.List.{list_any}
use Rattle.std.specs.Option.{option_and_then}
use Rattle.std.proofs.lemmas.Bool.Decides.{nat_tests}
use Rattle.std.proofs.lemmas.Bool.{or_from, and_right, lt-leb}
use Rattle.gcl_model.specs.Extents.{Extent, extent, covers, IsRising}
use Rattle.gcl_model.specs.Texts.{Text}
use Rattle.gcl_model.specs.Forms.{Forms, seq, no_forms, more_forms, forms_count}
use Rattle.gcl_model.specs.Meaning.{concordance, operands}
use Rattle.gcl_model.specs.Access.{first_start, last_end}
use Rattle.gcl_model.specs.Rules.{start_of, first_by, last_by}
use Rattle.gcl_model.proofs.Covers.{covers_by_first_start, ends_by}
use Rattle.gcl_model.proofs.Meanings.{covers_seq, concordance_rises, in_order_within}
use Rattle.gcl_model.proofs.Reach.{AreRising, Reaches, at_most, at_least, list_reaches, first_start_by, last_end_by, operands_of, operands_rise}

-- the end that is found going on from p, each operand after the end of the one before
abbrev pub seq_end : List (List Extent) → ℕ → Option ℕ
seq_end [] p = Some (p - 1)
seq_end (list ∷ lists) p = option_and_then (λ a. seq_end lists (a.end + 1)) (first_start list p)

-- the start of the last member that ends before u
abbrev pub start_before : List Extent → Option ℕ → Option ℕ
start_before list None = None
start_before list (Some zero) = None
start_before list (Some (suc u)) = start_of (last_end list u)

-- from the last operand to the first: the start that is found up to k, each before the start of the one after
abbrev pub seq_start : List (List Extent) → ℕ → Option ℕ
seq_start [] k = Some (k + 1)
seq_start (list ∷ lists) k = start_before list (seq_start lists k)

-- some member starts at or after p and ends before u
abbrev covers_before : List Extent → ℕ → Option ℕ → Bool
covers_before list p None = false
covers_before list p (Some zero) = false
covers_before list p (Some (suc u)) = covers list (extent p u)

none_passes : (p : ℕ) (test : ℕ → Bool) (list : List Extent) → ((q : ℕ) → test (q + 1) ≡ false) → list_any (λ a. leb p a.start && test (a.end + 1)) list ≡ false
none_passes p test [] never = refl
none_passes p test (x ∷ xs) never = or_from _ _ (and_right (leb p x.start) _ (never x.end)) (none_passes p test xs never)

same_passes : (p u : ℕ) (test : ℕ → Bool) (list : List Extent) → ((q : ℕ) → test (q + 1) ≡ leb q u) → list_any (λ a. leb p a.start && test (a.end + 1)) list ≡ covers list (extent p u)
same_passes p u test [] same = refl
same_passes p u test (x ∷ xs) same = cong2 (ap (λ b. leb p x.start && b) (same x.end)) (same_passes p u test xs same)
  where
    cong2 : {a b c d : Bool} → a ≡ b → c ≡ d → (a || c) ≡ (b || d)
    cong2 p q = cc

abbrev goes_on : List (List Extent) → Option Extent → ℕ → Bool
goes_on lists None w = false
goes_on lists (Some a) w = in_order_within lists (a.end + 1) w

-- the members that leave room for the rest are those that end before it starts
seq_step : (test : ℕ → Bool) (o : Option ℕ) → ((p : ℕ) → test p ≡ at_least o p) → (list : List Extent) (p : ℕ) →
    list_any (λ a. leb p a.start && test (a.end + 1)) list ≡ covers_before list p o
seq_step test None is list p = none_passes p test list (λ q. is (q + 1))
seq_step test (Some zero) is list p = none_passes p test list (λ q. is (q + 1) ∙ lt-leb (q + 1) 0 (omega arith))
seq_step test (Some (suc u)) is list p = same_passes p u test list (λ q. is (q + 1) ∙ grind (arith, nat_tests))

back_cases : (list : List Extent) → IsRising list → (p : ℕ) (o : Option ℕ) → covers_before list p o ≡ at_least (start_before list o) p
back_cases list r p None = refl
back_cases list r p (Some zero) = refl
back_cases list r p (Some (suc u)) = (list_reaches list r).backward_is p u

in_order_backward : (lists : List (List Extent)) → AreRising lists → (p w : ℕ) → in_order_within lists p w ≡ at_least (seq_start lists w) p
in_order_backward [] r p w = refl
in_order_backward (list ∷ lists) r p w =
    seq_step (λ q. in_order_within lists q w) (seq_start lists w) (λ q. in_order_backward lists r.1 q w) list p
    ∙ back_cases list r.0 p (seq_start lists w)

-- the first member that starts at or after p is as good as any
on_cases : (lists : List (List Extent)) (w : ℕ) (o : Option ℕ) → ((p : ℕ) → in_order_within lists p w ≡ at_least o p) → (list : List Extent) → IsRising list → (p : ℕ) →
    (f : Option Extent) → first_start list p ≡ f → covers_before list p o ≡ goes_on lists f w
on_cases lists w None is list r p None fs = refl
on_cases lists w None is list r p (Some a) fs = sym (is (a.end + 1))
on_cases lists w (Some zero) is list r p None fs = refl
on_cases lists w (Some zero) is list r p (Some a) fs = sym (is (a.end + 1) ∙ lt-leb (a.end + 1) 0 (omega arith))
on_cases lists w (Some (suc u)) is list r p None fs = covers_by_first_start list r p u ∙ ap (λ o. ends_by o u) fs
on_cases lists w (Some (suc u)) is list r p (Some a) fs = covers_by_first_start list r p u ∙ ap (λ o. ends_by o u) fs ∙ sym (is (a.end + 1) ∙ grind (arith, nat_tests))

goes_is : (lists : List (List Extent)) (w : ℕ) → ((q : ℕ) → in_order_within lists q w ≡ at_most (seq_end lists q) w) → (f : Option Extent) →
    goes_on lists f w ≡ at_most (option_and_then (λ a. seq_end lists (a.end + 1)) f) w
goes_is lists w ih None = refl
goes_is lists w ih (Some a) = ih (a.end + 1)

in_order_forward : (lists : List (List Extent)) → AreRising lists → (p w : ℕ) → in_order_within lists p w ≡ at_most (seq_end lists p) w
in_order_forward [] r p w = grind (arith, nat_tests)
in_order_forward (list ∷ lists) r p w =
    seq_step (λ q. in_order_within lists q w) (seq_start lists w) (λ q. in_order_backward lists r.1 q w) list p
    ∙ on_cases lists w (seq_start lists w) (λ q. in_order_backward lists r.1 q w) list r.0 p (first_start list p) refl
    ∙ goes_is lists w (λ q. in_order_forward lists r.1 q w) (first_start list p)

-- followed by reaches the end that is found one operand after another, and back from it the start
seq_reaches : (m : List Extent) (lists : List (List Extent)) → IsRising m → AreRising lists →
    ((c : Extent) → covers m c ≡ in_order_within lists c.start c.end) → Reaches m (seq_end lists) (seq_start lists)
seq_reaches m lists rm r cover = record {
  rises = rm;
  forward_is = λ k w. cover (extent k w) ∙ in_order_forward lists r k w;
  backward_is = λ u w. cover (extent u w) ∙ in_order_backward lists r u w;
}

pub seq_node : (text : Text) (forms : Forms) → 1 ≤ forms_count forms → Reaches (concordance text (seq forms)) (seq_end (operands text forms)) (seq_start (operands text forms))
seq_node text no_forms some = absurd (omega arith)
seq_node text (more_forms form forms) some =
    seq_reaches (concordance text (seq (more_forms form forms))) (operands text (more_forms form forms))
    (concordance_rises text (seq (more_forms form forms)))
    (operands_rise text (more_forms form forms))
    (covers_seq text (concordance text form) (operands text forms) (operands_of text (more_forms form forms)))

pub first_start-seq : (text : Text) (forms : Forms) → 1 ≤ forms_count forms → (k : ℕ) → first_start (concordance text (seq forms)) k ≡ first_by (seq_end (operands text forms)) (seq_start (operands text forms)) k
first_start-seq text forms some k = first_start_by _ _ _ (seq_node text forms some) k

pub last_end-seq : (text : Text) (forms : Forms) → 1 ≤ forms_count forms → (k : ℕ) → last_end (concordance text (seq forms)) k ≡ last_by (seq_end (operands text forms)) (seq_start (operands text forms)) k
last_end-seq text forms some k = last_end_by _ _ _ (seq_node text forms some) k
