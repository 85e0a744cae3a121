-- No two elements overlap: of two, the later one starts where the earlier one ends, or after it.
use Rattle.std.proofs.Common.{Bool, cond, leb, filter, ◌≡◌, ℕ, zero, suc, ◌+◌, ◌-◌, ◌<◌, ◌≤◌, List, [], ◌∷◌, Option, Some, None, IsSome, IfSome, inl, inr, refl, sym, ap, ◌∙◌, subst, arith}
use Rattle.std.specs.Option.{option_map, option_and_then}
use Rattle.std.proofs.lemmas.Bool.{cases_lt, leb-true, le-leb}
use Rattle.gcl_model.specs.Extents.{Extent, IsRising}
use Rattle.gcl_model.specs.Texts.{Text, IsText, next_place, previous_place}
use Rattle.gcl_model.specs.Forms.{Form, term, no_forms, more_forms}
use Rattle.gcl_model.specs.Access.{first_start, last_end}
use Rattle.gcl_model.specs.Meaning.{concordance}
use Rattle.gcl_model.specs.FormOf.{containment_form}
use Rattle.gcl_model.specs.declared.containment.Containment.{Containment}
use Rattle.gcl_model.specs.declared.containment.Containment.TheVariants.{Containing, ContainedIn, NotContaining, NotContainedIn}
use Rattle.gcl_model.specs.declared.direction.Direction.TheVariants.{Forward, Backward}
use Rattle.gcl_model.proofs.Covers.{Has, same_member, find_gives}
use Rattle.gcl_model.proofs.Minimal.{has_filter, same_truth}
use Rattle.gcl_model.proofs.Meanings.{concordance_rises}
use Rattle.gcl_model.proofs.Places.{point, first_start-term, last_end-term}
use Rattle.gcl_contain.proofs.Accesses.{found_first, found_last, none_from}
use Rattle.gcl_contain.proofs.Nodes.{containing_list, contained_in_list, not_containing_list, not_contained_in_list}
use Rattle.gcl_order.specs.Walks.{walk_forward}
use Rattle.gcl_eval.specs.Directions.{join, walk}
use Rattle.gcl_eval.specs.Members.{AreApart, members_from}
use Rattle.gcl_eval.specs.Operands.{element_form}
use Rattle.gcl_eval.proofs.ChainRules.{near_access-seq}

-- a member is the first one at or after its own start
own_by : (list : List Extent) → IsRising list → (c : Extent) → Has list c → (o : Option Extent) → first_start list c.start ≡ o → Some c ≡ first_start list c.start
own_by list r c m None is = let far = none_from (λ a. a.start) list c.start is c m in absurd (omega (arith, far))
own_by list r c m (Some b) is =
    let found = found_first (λ a. a.start) list r c.start b is in
    let on = found.first c m (omega arith) in
    let low = on.0 in
    let high = on.1 in
    let far = found.far in
    let same : c ≡ b = same_member list r c b m found.member (omega (arith, far)) (omega (arith, high)) in
    ap Some same ∙ sym is

own : (list : List Extent) → IsRising list → (c : Extent) → Has list c → Some c ≡ first_start list c.start
own list r c m = own_by list r c m (first_start list c.start) refl

module _ (text : Text) (first second : List ℕ) (sound : IsText text) where
  abbrev elements : List Extent
  elements = concordance text (element_form first second)

  abbrev firsts : List Extent
  firsts = concordance text (term first)

  abbrev seconds : List Extent
  seconds = concordance text (term second)

  -- an element starts at the last of the first tokens before its end
  record IsClosed (c : Extent) : Type 0 where
    back : last_end firsts (c.end - 1) ≡ Some (point c.start)
    proper : c.start < c.end

  abbrev backward : Extent → Option Extent
  backward far = option_map (λ near. join Forward near far) (walk Backward (firsts ∷ []) far)

  closed_by : (c : Extent) (m s : ℕ) → previous_place text.words first m ≡ Some s → Some c ≡ Some (join Forward (point s) (point (suc m))) → IsClosed c
  closed_by c m s found is =
      let start : s ≡ c.start = cc in
      let end : suc m ≡ c.end = cc in
      let at : last_end firsts m ≡ Some (point s) = last_end-term text first sound m ∙ ap (option_map point) found in
      let low = (found_last (λ a. a.end) firsts (concordance_rises text (term first)) m (point s) at).near in
      let before : m ≡ c.end - 1 = omega (arith, end) in
      record { back = ap (last_end firsts) (sym before) ∙ at ∙ ap (λ n. Some (point n)) start; proper = omega (arith, low, start, end) }

  closed_back : (c : Extent) (m : ℕ) (o : Option ℕ) → previous_place text.words first m ≡ o → Some c ≡ option_map (λ near. join Forward near (point (suc m))) (option_map point o) → IsClosed c
  closed_back c m None found is = absurd cc
  closed_back c m (Some s) found is = closed_by c m s found is

  closed_on : (c : Extent) (o : Option ℕ) → Some c ≡ option_and_then backward (option_and_then (walk_forward []) (option_map point o)) → IsClosed c
  closed_on c None is = absurd cc
  closed_on c (Some zero) is = absurd cc
  closed_on c (Some (suc m)) is =
      closed_back c m (previous_place text.words first m) refl (is ∙ ap (option_map (λ near. join Forward near (point (suc m)))) (last_end-term text first sound m))

  closed_from : (c : Extent) (o : Option ℕ) → Some c ≡ option_and_then backward (option_and_then (walk Forward (seconds ∷ [])) (option_map point o)) → IsClosed c
  closed_from c None is = absurd cc
  closed_from c (Some p) is =
      closed_on c (next_place text.words second (p + 1)) (is ∙ ap (λ x. option_and_then backward (option_and_then (walk_forward []) x)) (first_start-term text second sound (p + 1)))

  closed : (c : Extent) → Has elements c → IsClosed c
  closed c m =
      closed_from c (next_place text.words first c.start)
      (own elements (concordance_rises text (element_form first second)) c m
      ∙ near_access-seq Forward text (more_forms (term first) (more_forms (term second) no_forms)) firsts seconds (seconds ∷ []) (firsts ∷ []) refl refl c.start
      ∙ ap (λ x. option_and_then backward (option_and_then (walk Forward (seconds ∷ [])) x)) (first_start-term text first sound c.start))

  pub elements_apart : (c d : Extent) → Has elements c → Has elements d → c.start < d.start → c.end ≤ d.start
  elements_apart c d m n lt = elim (cases_lt d.start c.end) [
    | inl inside ↦
        let r = concordance_rises text (term first) in
        let mine = closed c m in
        let yours = closed d n in
        let there = (found_last (λ a. a.end) firsts r (d.end - 1) (point d.start) yours.back).member in
        let last = (found_last (λ a. a.end) firsts r (c.end - 1) (point c.start) mine.back).last (point d.start) there (omega (arith, inside)) in
        let le = last.0 in
        absurd (omega (arith, le, lt))
    | inr outside ↦ omega (arith, outside)
  ]

  -- so are those of them that a test keeps
  kept_apart : (list : List Extent) (test : Extent → Bool) → list ≡ filter test elements → AreApart list
  kept_apart list test is = λ c d k l found next lt.
      let mine = has_filter test elements c (subst (λ xs. Has xs c) is (find_gives (λ a. leb k a.start) list c (sym found)).0) in
      let yours = has_filter test elements d (subst (λ xs. Has xs d) is (find_gives (λ a. leb l a.start) list d (sym next)).0) in
      elements_apart c d mine.0 yours.0 lt

  pub elements_are_apart : AreApart elements
  elements_are_apart = λ c d k l found next lt. elements_apart c d (find_gives (λ a. leb k a.start) elements c (sym found)).0 (find_gives (λ a. leb l a.start) elements d (sym next)).0 lt

  pub containment_apart : (containment : Containment) (b : Form) → AreApart (concordance text (containment_form containment (element_form first second) b))
  containment_apart Containing b = kept_apart _ _ (containing_list text (element_form first second) b)
  containment_apart ContainedIn b = kept_apart _ _ (contained_in_list text (element_form first second) b)
  containment_apart NotContaining b = kept_apart _ _ (not_containing_list text (element_form first second) b)
  containment_apart NotContainedIn b = kept_apart _ _ (not_contained_in_list text (element_form first second) b)

-- two tests that agree on all members keep the same ones
filter_same_on : (p q : Extent → Bool) (list : List Extent) → ((a : Extent) → Has list a → p a ≡ q a) → filter p list ≡ filter q list
filter_same_on p q [] same = refl
filter_same_on p q (x ∷ xs) same =
    let rest = filter_same_on p q xs (λ a m. same a (inr m)) in
    rw (same x (inl refl)) (ap (λ l. cond (q x) (x ∷ l) l) rest)

-- the members at or after the end of a member are those after its start
pub from_end : (list : List Extent) → IsRising list → AreApart list → (k : ℕ) (c : Extent) → Some c ≡ first_start list k → c.start < c.end → members_from list c.end ≡ members_from list (c.start + 1)
from_end list r apart k c found proper =
    filter_same_on (λ a. leb c.end a.start) (λ a. leb (c.start + 1) a.start) list (λ a m. same_truth (leb c.end a.start) (leb (c.start + 1) a.start)
    (λ e. let le = leb-true c.end a.start e in le-leb (c.start + 1) a.start (omega (arith, le, proper)))
    (λ e. let le = leb-true (c.start + 1) a.start e in le-leb c.end a.start (apart c a k a.start found (own list r a m) (omega (arith, le)))))

-- the tokens that were found
pub tokens_of : {X : Type 0} (first second : X → List ℕ) (o : Option X) (a : Form) → IsSome o → IfSome o (λ p. a ≡ element_form (first p) (second p)) → (x : List ℕ) × (y : List ℕ) × (a ≡ element_form x y)
tokens_of first second None a some found = absurd cc
tokens_of first second (Some p) a some found = (first p, second p, found)
