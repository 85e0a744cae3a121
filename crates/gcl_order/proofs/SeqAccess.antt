-- The accesses of "followed by" by walks over its operands.
use Rattle.std.proofs.Common.{◌≡◌, ℕ, zero, suc, ◌+◌, ◌-◌, ◌≤◌, true, leb, List, [], ◌∷◌, ◌++◌, Option, Some, None, refl, sym, ap, ◌∙◌, subst, arith, le_refl, inl, inr}
use Rattle.std.specs.Option.{option_map, option_and_then}
use Rattle.std.proofs.lemmas.Bool.{cases_lt}
use Rattle.gcl_model.specs.Extents.{Extent, extent, covers, IsRising}
use Rattle.gcl_model.specs.Texts.{Text}
use Rattle.gcl_model.specs.Forms.{Forms, seq, no_forms, more_forms, forms_count}
use Rattle.gcl_model.specs.Meaning.{concordance, operands}
use Rattle.gcl_model.specs.Access.{first_start, last_end}
use Rattle.gcl_model.specs.Rules.{end_of, start_of}
use Rattle.gcl_model.proofs.Covers.{Has, find_gives, find_last_gives, covered_tells, covered_from, same_member, first_start_reached, last_end_reached}
use Rattle.gcl_model.proofs.Reach.{AreRising, operands_rise}
use Rattle.gcl_order.proofs.InOrder.{seq_end, start_before, seq_start, first_start-seq, last_end-seq}
use Rattle.gcl_order.specs.Walks.{address_before, joined, last_before, walk_forward, walk_backward, forward_and_back, back_and_forward}

-- a member is the first that starts at or after its start, and the last that ends up to its end
pub within_member : (list : List Extent) → IsRising list → (a : Extent) → Has list a → (u v : ℕ) → a.start ≤ u → v ≤ a.end → covers list (extent u v) ≡ true → (u ≤ a.start) × (a.end ≤ v)
within_member list r a m u v le ge e =
    let c = covered_tells list (extent u v) e in
    let x : u ≤ c.by.start = c.nested.0 in
    let y : c.by.end ≤ v = c.nested.1 in
    let is : a ≡ c.by = same_member list r a c.by m c.member (omega arith) (omega arith) in
    let starts : a.start ≡ c.by.start = ap (λ (z : Extent). z.start) is in
    let ends : a.end ≡ c.by.end = ap (λ (z : Extent). z.end) is in
    (omega arith, omega arith)

starts_by : (list : List Extent) → IsRising list → (a : Extent) → Has list a → (w : ℕ) → covers list (extent w a.end) ≡ true → w ≤ a.start
starts_by list r a m w e =
    elim (cases_lt a.start w) [
      | inl lt ↦ (within_member list r a m w a.end (omega arith) (le_refl a.end) e).0
      | inr ge ↦ ge
    ]

ends_from : (list : List Extent) → IsRising list → (a : Extent) → Has list a → (w : ℕ) → covers list (extent a.start w) ≡ true → a.end ≤ w
ends_from list r a m w e =
    elim (cases_lt w a.end) [
      | inl lt ↦ (within_member list r a m a.start w (le_refl a.start) (omega arith) e).1
      | inr ge ↦ ge
    ]

covers_itself : (list : List Extent) (a : Extent) → Has list a → covers list (extent a.start a.end) ≡ true
covers_itself list a m = covered_from list a (extent a.start a.end) m (le_refl a.start, le_refl a.end)

pub last_end-member : (list : List Extent) → IsRising list → (a : Extent) → Has list a → last_end list a.end ≡ Some a
last_end-member list r a m = last_end_reached list r a.end a.start a.end record {
  reached = covers_itself list a m;
  greatest = starts_by list r a m;
  on = covers_itself list a m;
  least = ends_from list r a m;
}

pub first_start-member : (list : List Extent) → IsRising list → (a : Extent) → Has list a → first_start list a.start ≡ Some a
first_start-member list r a m = first_start_reached list r a.start a.start a.end record {
  reached = covers_itself list a m;
  least = ends_from list r a m;
  back = covers_itself list a m;
  greatest = starts_by list r a m;
}

-- forward
end_step : (lists : List (List Extent)) → ((a : Extent) → seq_end lists (a.end + 1) ≡ end_of (walk_forward lists a)) → (o : Option Extent) →
    option_and_then (λ b. seq_end lists (b.end + 1)) o ≡ end_of (option_and_then (walk_forward lists) o)
end_step lists ih None = refl
end_step lists ih (Some b) = ih b

seq_end-walk : (lists : List (List Extent)) (a : Extent) → seq_end lists (a.end + 1) ≡ end_of (walk_forward lists a)
seq_end-walk [] a = let e : a.end + 1 - 1 ≡ a.end = omega arith in ap Some e
seq_end-walk (list ∷ lists) a = end_step lists (seq_end-walk lists) (first_start list (a.end + 1))

seq_end-first : (first : List Extent) (rest : List (List Extent)) (k : ℕ) → seq_end (first ∷ rest) k ≡ end_of (option_and_then (walk_forward rest) (first_start first k))
seq_end-first first rest k = end_step rest (seq_end-walk rest) (first_start first k)

-- backward
start_step : (list : List Extent) (o : Option Extent) → start_before list (start_of o) ≡ start_of (option_and_then (last_before list) o)
start_step list None = refl
start_step list (Some b) = at b.start
  where
    at : (n : ℕ) → start_before list (Some n) ≡ start_of (option_and_then (last_end list) (address_before n))
    at zero = refl
    at (suc n) = refl

seq_start-walk : (front : List (List Extent)) (last : List Extent) (v : ℕ) (a : Option Extent) → last_end last v ≡ a → seq_start (front ++ last ∷ []) v ≡ start_of (option_and_then (walk_backward front) a)
seq_start-walk [] last v a is = ap (λ n. start_before last (Some n)) plain ∙ ap start_of is ∙ same a
  where
    plain : v + 1 ≡ suc v
    plain = omega arith

    same : (o : Option Extent) → start_of o ≡ start_of (option_and_then (walk_backward []) o)
    same None = refl
    same (Some b) = refl
seq_start-walk (list ∷ front) last v a is =
    ap (start_before list) (seq_start-walk front last v a is) ∙ start_step list (option_and_then (walk_backward front) a) ∙ ap start_of (later a)
  where
    later : (o : Option Extent) → option_and_then (last_before list) (option_and_then (walk_backward front) o) ≡ option_and_then (walk_backward (list ∷ front)) o
    later None = refl
    later (Some b) = refl

-- a walk forward ends at a member of the last list
pub walk_on : (lists : List (List Extent)) (o : Option Extent) (t : Extent) → option_and_then (walk_forward lists) o ≡ Some t → (b : Extent) × (o ≡ Some b) × (walk_forward lists b ≡ Some t)
walk_on lists None t e = absurd cc
walk_on lists (Some b) t e = (b, refl, e)

pub forward_member : (front : List (List Extent)) (first : List Extent) (rest : List (List Extent)) (last : List Extent) (a t : Extent) →
    first ∷ rest ≡ front ++ last ∷ [] → Has first a → walk_forward rest a ≡ Some t → Has last t
forward_member [] first [] last a t e m w = let is : first ≡ last = cc in let at : a ≡ t = cc in subst (λ l. Has l t) is (subst (Has first) at m)
forward_member [] first (r ∷ rest) last a t e m w = absurd cc
forward_member (x ∷ []) first [] last a t e m w = absurd cc
forward_member (x ∷ y ∷ front) first [] last a t e m w = absurd cc
forward_member (x ∷ front) first (r ∷ rest) last a t e m w =
    let on = walk_on rest (first_start r (a.end + 1)) t w in
    let later : r ∷ rest ≡ front ++ last ∷ [] = cc in
    forward_member front r rest last on.0 t later (find_gives (λ y. leb (a.end + 1) y.start) r on.0 on.1).0 on.2

-- and a walk backward at one of the first
before_gives : (list : List Extent) (o : Option ℕ) (h : Extent) → option_and_then (last_end list) o ≡ Some h → Has list h
before_gives list None h e = absurd cc
before_gives list (Some n) h e = (find_last_gives (λ y. leb y.end n) list h e).0

last_before-gives : (list : List Extent) (o : Option Extent) (h : Extent) → option_and_then (last_before list) o ≡ Some h → Has list h
last_before-gives list None h e = absurd cc
last_before-gives list (Some b) h e = before_gives list (address_before b.start) h e

pub backward_member : (front : List (List Extent)) (first : List Extent) (rest : List (List Extent)) (last : List Extent) (a h : Extent) →
    first ∷ rest ≡ front ++ last ∷ [] → Has last a → walk_backward front a ≡ Some h → Has first h
backward_member [] first rest last a h e m w = let is : first ≡ last = cc in let at : a ≡ h = cc in subst (λ l. Has l h) (sym is) (subst (Has last) at m)
backward_member (x ∷ front) first rest last a h e m w = let is : x ≡ first = cc in subst (λ l. Has l h) is (last_before-gives x (walk_backward front a) h w)

pub some_forms : (text : Text) (forms : Forms) (first : List Extent) (rest : List (List Extent)) → operands text forms ≡ first ∷ rest → 1 ≤ forms_count forms
some_forms text no_forms first rest e = absurd cc
some_forms text (more_forms form forms) first rest e = omega arith

pub rise_at : (lists : List (List Extent)) → AreRising lists → (front : List (List Extent)) (last : List Extent) → lists ≡ front ++ last ∷ [] → IsRising last
rise_at [] r [] last e = absurd cc
rise_at [] r (x ∷ front) last e = absurd cc
rise_at (list ∷ lists) r [] last e = let is : list ≡ last = cc in subst IsRising is r.0
rise_at (list ∷ lists) r (x ∷ front) last e = let later : lists ≡ front ++ last ∷ [] = cc in rise_at lists r.1 front last later

pub rise_first : (lists : List (List Extent)) → AreRising lists → (first : List Extent) (rest : List (List Extent)) → lists ≡ first ∷ rest → IsRising first
rise_first [] r first rest e = absurd cc
rise_first (list ∷ lists) r first rest e = let is : list ≡ first = cc in subst IsRising is r.0

module _ (text : Text) (forms : Forms) (first last : List Extent) (rest front : List (List Extent)) (as_first : operands text forms ≡ first ∷ rest) (as_last : operands text forms ≡ front ++ last ∷ []) where
  -- the start that is found back from the end of a member of the last list
  pub start_back : (t : Extent) → Has last t → seq_start (operands text forms) t.end ≡ start_of (walk_backward front t)
  start_back t m =
      ap (λ lists. seq_start lists t.end) as_last
      ∙ seq_start-walk front last t.end (Some t) (last_end-member last (rise_at (operands text forms) (operands_rise text forms) front last as_last) t m)

  start_from : (k : ℕ) (o : Option Extent) → first_start first k ≡ o → (t : Extent) → option_and_then (walk_forward rest) o ≡ Some t → seq_start (operands text forms) t.end ≡ start_of (walk_backward front t)
  start_from k o is t e =
      let on = walk_on rest o t e in
      let m = find_gives (λ y. leb k y.start) first on.0 (is ∙ on.1) in
      start_back t (forward_member front first rest last on.0 t (sym as_first ∙ as_last) m.0 on.2)

  join_head : (t : Extent) (h : Option Extent) → option_map (λ u. extent u t.end) (start_of h) ≡ option_map (λ head. joined head t) h
  join_head t None = refl
  join_head t (Some h) = refl

  forward_cases : (k : ℕ) (o : Option Extent) → option_and_then (walk_forward rest) (first_start first k) ≡ o →
      option_and_then (λ v. option_map (λ u. extent u v) (seq_start (operands text forms) v)) (end_of o) ≡ option_and_then (λ tail. option_map (λ head. joined head tail) (walk_backward front tail)) o
  forward_cases k None is = refl
  forward_cases k (Some t) is = ap (option_map (λ u. extent u t.end)) (start_from k (first_start first k) refl t is) ∙ join_head t (walk_backward front t)

  pub seq_forward : (k : ℕ) → first_start (concordance text (seq forms)) k ≡ forward_and_back first rest front k
  seq_forward k =
      first_start-seq text forms (some_forms text forms first rest as_first) k
      ∙ ap (option_and_then (λ v. option_map (λ u. extent u v) (seq_start (operands text forms) v))) (ap (λ lists. seq_end lists k) as_first ∙ seq_end-first first rest k)
      ∙ forward_cases k (option_and_then (walk_forward rest) (first_start first k)) refl

  -- the end that is found on from the start of a member of the first list
  pub end_on : (h : Extent) → Has first h → seq_end (operands text forms) h.start ≡ end_of (walk_forward rest h)
  end_on h m =
      ap (λ lists. seq_end lists h.start) as_first
      ∙ seq_end-first first rest h.start
      ∙ ap (λ o. end_of (option_and_then (walk_forward rest) o)) (first_start-member first (rise_first (operands text forms) (operands_rise text forms) first rest as_first) h m)

  end_from : (k : ℕ) (o : Option Extent) → last_end last k ≡ o → (h : Extent) → option_and_then (walk_backward front) o ≡ Some h → seq_end (operands text forms) h.start ≡ end_of (walk_forward rest h)
  end_from k None is h e = absurd cc
  end_from k (Some a) is h e =
      let m = find_last_gives (λ y. leb y.end k) last a is in
      end_on h (backward_member front first rest last a h (sym as_first ∙ as_last) m.0 e)

  join_tail : (h : Extent) (t : Option Extent) → option_map (λ v. extent h.start v) (end_of t) ≡ option_map (λ tail. joined h tail) t
  join_tail h None = refl
  join_tail h (Some t) = refl

  backward_cases : (k : ℕ) (o : Option Extent) → option_and_then (walk_backward front) (last_end last k) ≡ o →
      option_and_then (λ u. option_map (λ v. extent u v) (seq_end (operands text forms) u)) (start_of o) ≡ option_and_then (λ head. option_map (λ tail. joined head tail) (walk_forward rest head)) o
  backward_cases k None is = refl
  backward_cases k (Some h) is = ap (option_map (λ v. extent h.start v)) (end_from k (last_end last k) refl h is) ∙ join_tail h (walk_forward rest h)

  pub seq_backward : (k : ℕ) → last_end (concordance text (seq forms)) k ≡ back_and_forward last rest front k
  seq_backward k =
      last_end-seq text forms (some_forms text forms first rest as_first) k
      ∙ ap (option_and_then (λ u. option_map (λ v. extent u v) (seq_end (operands text forms) u))) (ap (λ lists. seq_start lists k) as_last ∙ seq_start-walk front last k (last_end last k) refl)
      ∙ backward_cases k (option_and_then (walk_backward front) (last_end last k)) refl
