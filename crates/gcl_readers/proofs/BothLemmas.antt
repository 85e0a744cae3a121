-- "Both of" by what is left to its operands' readers.
use Rattle.std.proofs.Common.{◌≡◌, ℕ, ◌+◌, ◌<◌, ◌≤◌, List, [], ◌∷◌, Option, Some, None, IfSome, min, max, ◌⊎◌, inl, inr, refl, sym, ap, ◌∙◌, subst, arith, le_refl}
use Rattle.std.specs.Option.{option_map, option_and_then}
use Rattle.std.proofs.lemmas.Bool.{cases_lt}
use Rattle.gcl_model.specs.Extents.{Extent, extent, IsRising}
use Rattle.gcl_model.specs.Texts.{Text}
use Rattle.gcl_model.specs.Forms.{Forms, both, forms_count}
use Rattle.gcl_model.specs.Meaning.{concordance, operands}
use Rattle.gcl_model.specs.Access.{first_start, last_end}
use Rattle.gcl_model.proofs.Cases.{IfSome-at}
use Rattle.gcl_model.proofs.Covers.{Has}
use Rattle.gcl_model.proofs.Reach.{AreRising, operands_rise}
use Rattle.gcl_combine.specs.Farthest.{end_so_far, start_so_far}
use Rattle.gcl_combine.proofs.BothOf.{first_start-both_so_far}
use Rattle.gcl_contain.proofs.Accesses.{found_first, found_last, none_from, none_upto}
use Rattle.gcl_eval.specs.Members.{members_from}
use Rattle.gcl_readers.specs.Fronts.{start_or_end}
use Rattle.gcl_readers.specs.Agreement.{EndsBefore, AnswersOrEnds, AllAnswerOrEnd, all_left, HaveMoved, HaveMovedBack}
use Rattle.gcl_readers.specs.Standing.{BothTell}
use Rattle.gcl_readers.proofs.Members.{has_from, from_has, rises_from, agrees, last_left, last_of_left}

-- two addresses are the same, or both lie before v
abbrev IsFarAs : ℕ → ℕ → ℕ → Type 0
IsFarAs v s t = (s ≡ t) ⊎ ((s < v) × (t < v))

abbrev AreFarAs : ℕ → Option ℕ → Option ℕ → Type 0
AreFarAs v None None = Unit {0}
AreFarAs v None (Some t) = ⊥
AreFarAs v (Some s) None = ⊥
AreFarAs v (Some s) (Some t) = IsFarAs v s t

farther_same : (v s t e : ℕ) → IsFarAs v s t → IsFarAs v (max s e) (max t e)
farther_same v s t e (inl is) = inl (ap (λ n. max n e) is)
farther_same v s t e (inr lt) = let p = lt.0 in let q = lt.1 in elim (cases_lt e v) [ inl near ↦ inr (omega arith, omega arith) | inr far ↦ inl (omega arith) ]

farther_near : (v s t d e : ℕ) → IsFarAs v s t → d < v → e < v → IsFarAs v (max s d) (max t e)
farther_near v s t d e (inl is) p q = elim (cases_lt s v) [ inl near ↦ inr (omega arith, omega arith) | inr far ↦ inl (omega arith) ]
farther_near v s t d e (inr lt) p q = let x = lt.0 in let y = lt.1 in inr (omega arith, omega arith)

step_same : (v : ℕ) (f g : ℕ → Option ℕ) → ((s t : ℕ) → IsFarAs v s t → AreFarAs v (f s) (g t)) → (s t : ℕ) → IsFarAs v s t → (o p : Option Extent) → o ≡ p →
    AreFarAs v (option_and_then (λ a. f (max s a.end)) o) (option_and_then (λ a. g (max t a.end)) p)
step_same v f g ih s t same None None e = tt
step_same v f g ih s t same None (Some b) e = absurd cc
step_same v f g ih s t same (Some a) None e = absurd cc
step_same v f g ih s t same (Some a) (Some b) e =
    let is : a ≡ b = cc in
    subst (λ (c : Extent). AreFarAs v (f (max s a.end)) (g (max t c.end))) is (ih (max s a.end) (max t a.end) (farther_same v s t a.end same))

step_near : (v : ℕ) (f g : ℕ → Option ℕ) → ((s t : ℕ) → IsFarAs v s t → AreFarAs v (f s) (g t)) → (s t : ℕ) → IsFarAs v s t → (o p : Option Extent) → EndsBefore o v → EndsBefore p v →
    AreFarAs v (option_and_then (λ a. f (max s a.end)) o) (option_and_then (λ a. g (max t a.end)) p)
step_near v f g ih s t same None p x y = absurd x
step_near v f g ih s t same (Some a) None x y = absurd y
step_near v f g ih s t same (Some a) (Some b) x y = ih (max s a.end) (max t b.end) (farther_near v s t a.end b.end same x y)

ends_agree : (lists : List (List Extent)) (xs : List ℕ) (k v : ℕ) → AllAnswerOrEnd lists xs k v → (s t : ℕ) → IsFarAs v s t → AreFarAs v (end_so_far (all_left lists xs) k s) (end_so_far lists k t)
ends_agree [] xs k v all s t same = same
ends_agree (list ∷ lists) [] k v all s t same = absurd all
ends_agree (list ∷ lists) (x ∷ xs) k v all s t same =
    elim (all.0 k (le_refl k)) [
      | inl e ↦ step_same v (end_so_far (all_left lists xs) k) (end_so_far lists k) (ends_agree lists xs k v all.1) s t same (first_start (members_from list x) k) (first_start list k) e
      | inr n ↦ step_near v (end_so_far (all_left lists xs) k) (end_so_far lists k) (ends_agree lists xs k v all.1) s t same (first_start (members_from list x) k) (first_start list k) n.0 n.1
    ]

-- a member that is left ends by w
record IsReachedBy (list : List Extent) (y w : ℕ) : Type 0 where
  by : Extent
  member : Has list by
  left : y ≤ by.start
  within : by.end ≤ w

abbrev AllReached : List (List Extent) → List ℕ → ℕ → Type 0
AllReached [] ys w = Unit {0}
AllReached (list ∷ lists) [] w = ⊥
AllReached (list ∷ lists) (y ∷ ys) w = IsReachedBy list y w × AllReached lists ys w

record ReachesOn (lists : List (List Extent)) (ys : List ℕ) (s w : ℕ) : Type 0 where
  far : s ≤ w
  reached : AllReached lists ys w

reach_step : (list : List Extent) → IsRising list → (lists : List (List Extent)) (x y : ℕ) (xs ys : List ℕ) (k s w : ℕ) → (o : Option Extent) → first_start (members_from list x) k ≡ o → y ≤ start_or_end o →
    ((s : ℕ) → end_so_far (all_left lists xs) k s ≡ Some w → ReachesOn lists ys s w) →
    option_and_then (λ a. end_so_far (all_left lists xs) k (max s a.end)) o ≡ Some w → ReachesOn (list ∷ lists) (y ∷ ys) s w
reach_step list r lists x y xs ys k s w None is le ih e = absurd cc
reach_step list r lists x y xs ys k s w (Some a) is le ih e =
    let on = ih (max s a.end) e in
    let far : max s a.end ≤ w = on.far in
    let f = found_first (λ c. c.start) (members_from list x) (rises_from list x r) k a is in
    record { far = omega arith; reached = (record { by = a; member = (from_has list x a f.member).0; left = le; within = omega arith }, on.reached) }

all_reached : (lists : List (List Extent)) → AreRising lists → (xs ys : List ℕ) (k : ℕ) → HaveMoved lists xs ys k → (s w : ℕ) → end_so_far (all_left lists xs) k s ≡ Some w → ReachesOn lists ys s w
all_reached [] r xs ys k moved s w e = let is : s ≡ w = cc in record { far = omega arith; reached = tt }
all_reached (list ∷ lists) r [] ys k moved s w e = absurd moved
all_reached (list ∷ lists) r (x ∷ xs) [] k moved s w e = absurd moved
all_reached (list ∷ lists) r (x ∷ xs) (y ∷ ys) k moved s w e =
    reach_step list r.0 lists x y xs ys k s w (first_start (members_from list x) k) refl moved.0 (λ t. all_reached lists r.1 xs ys k moved.1 t w) e

-- back from w what is left answers as the whole list does
last_reached : (list : List Extent) → IsRising list → (y w : ℕ) → IsReachedBy list y w → (o : Option Extent) → last_end list w ≡ o → last_end (members_from list y) w ≡ o
last_reached list r y w by None is = absurd (let lt : w < by.by.end = none_upto (λ c. c.end) list w is by.by by.member in let le = by.within in omega arith)
last_reached list r y w by (Some b) is =
    let f = found_last (λ c. c.end) list r w b is in
    let on = (f.last by.by by.member by.within).0 in
    let left = by.left in
    last_left list r y w b is (omega arith)

start_step : (f g : ℕ → Option ℕ) → ((t : ℕ) → f t ≡ g t) → (s : ℕ) (o p : Option Extent) → o ≡ p → option_and_then (λ a. f (min s a.start)) o ≡ option_and_then (λ a. g (min s a.start)) p
start_step f g rest s None None e = refl
start_step f g rest s None (Some b) e = absurd cc
start_step f g rest s (Some a) None e = absurd cc
start_step f g rest s (Some a) (Some b) e = let is : a ≡ b = cc in rest (min s a.start) ∙ ap (λ (c : Extent). g (min s c.start)) is

starts_agree : (lists : List (List Extent)) → AreRising lists → (ys : List ℕ) (w : ℕ) → AllReached lists ys w → (s : ℕ) → start_so_far (all_left lists ys) w s ≡ start_so_far lists w s
starts_agree [] r ys w all s = refl
starts_agree (list ∷ lists) r [] w all s = absurd all
starts_agree (list ∷ lists) r (y ∷ ys) w all s =
    start_step (start_so_far (all_left lists ys) w) (start_so_far lists w) (starts_agree lists r.1 ys w all.1) s (last_end (members_from list y) w) (last_end list w) (last_reached list r.0 y w all.0 (last_end list w) refl)

-- if there is an end that all reach, there is a start
record IsThere (lists : List (List Extent)) (w t : ℕ) : Type 0 where
  start : ℕ
  is : start_so_far lists w t ≡ Some start

record HasStarts (lists : List (List Extent)) (s w : ℕ) : Type 0 where
  far : s ≤ w
  starts : (t : ℕ) → IsThere lists w t

has_step : (list : List Extent) → IsRising list → (lists : List (List Extent)) (k s w : ℕ) → (o : Option Extent) → first_start list k ≡ o → ((s : ℕ) → end_so_far lists k s ≡ Some w → HasStarts lists s w) →
    option_and_then (λ a. end_so_far lists k (max s a.end)) o ≡ Some w → (p : Option Extent) → last_end list w ≡ p → HasStarts (list ∷ lists) s w
has_step list r lists k s w None is ih e p js = absurd cc
has_step list r lists k s w (Some a) is ih e None js =
    let far : max s a.end ≤ w = (ih (max s a.end) e).far in
    let m = (found_first (λ c. c.start) list r k a is).member in
    absurd (let lt : w < a.end = none_upto (λ c. c.end) list w js a m in omega arith)
has_step list r lists k s w (Some a) is ih e (Some b) js =
    let on = ih (max s a.end) e in
    let far : max s a.end ≤ w = on.far in
    record { far = omega arith; starts = λ t. let there = on.starts (min t b.start) in record { start = there.start; is = ap (option_and_then (λ c. start_so_far lists w (min t c.start))) js ∙ there.is } }

has_starts : (lists : List (List Extent)) → AreRising lists → (k s w : ℕ) → end_so_far lists k s ≡ Some w → HasStarts lists s w
has_starts [] r k s w e = let is : s ≡ w = cc in record { far = omega arith; starts = λ t. record { start = t; is = refl } }
has_starts (list ∷ lists) r k s w e = has_step list r.0 lists k s w (first_start list k) refl (λ t. has_starts lists r.1 k t w) e (last_end list w) refl

-- after it went back, each reader answers as the whole list does, or both answers end by w
one_tells : (list : List Extent) → IsRising list → (y z w k : ℕ) → IsReachedBy list y w → (o : Option Extent) → last_end (members_from list y) w ≡ o → IfSome o (λ b. z ≤ b.start) → AnswersOrEnds list z k (w + 1)
one_tells list r y z w k by None is moved =
    absurd (let lt : w < by.by.end = none_upto (λ c. c.end) (members_from list y) w is by.by (has_from list y by.by by.member by.left) in let le = by.within in omega arith)
one_tells list r y z w k by (Some b) is moved = λ j from.
    let f = found_last (λ c. c.end) list r w b (last_of_left list r y w b is) in
    let le : z ≤ b.start = moved in
    let near : b.end ≤ w = f.near in
    elim (cases_lt b.start j) [
      | inl lt ↦ inl (agrees list z j (λ c m far. omega arith))
      | inr ge ↦ inr (ends (members_from list z) (rises_from list z r) j b (has_from list z b f.member le) ge near (first_start (members_from list z) j) refl, ends list r j b f.member ge near (first_start list j) refl)
    ]
  where
    ends : (l : List Extent) → IsRising l → (j : ℕ) (b : Extent) → Has l b → j ≤ b.start → b.end ≤ w → (o : Option Extent) → first_start l j ≡ o → EndsBefore o (w + 1)
    ends l s j b m ge near None e = absurd (let lt : b.start < j = none_from (λ c. c.start) l j e b m in omega arith)
    ends l s j b m ge near (Some c) e = let on = ((found_first (λ d. d.start) l s j c e).first b m ge).1 in omega arith

all_tell : (lists : List (List Extent)) → AreRising lists → (ys zs : List ℕ) (w k : ℕ) → AllReached lists ys w → HaveMovedBack lists ys zs w → AllAnswerOrEnd lists zs k (w + 1)
all_tell [] r ys zs w k all moved = tt
all_tell (list ∷ lists) r [] zs w k all moved = absurd all
all_tell (list ∷ lists) r (y ∷ ys) [] w k all moved = absurd moved
all_tell (list ∷ lists) r (y ∷ ys) (z ∷ zs) w k all moved = (one_tells list r.0 y z w k all.0 (last_end (members_from list y) w) refl moved.0, all_tell lists r.1 ys zs w k all.1 moved.1)

module _ (text : Text) (forms : Forms) (several : 1 ≤ forms_count forms) (xs : List ℕ) (k : ℕ) (tells : BothTell (concordance text (both forms)) (operands text forms) xs k) where
  node_none : end_so_far (operands text forms) k k ≡ None → first_start (concordance text (both forms)) k ≡ None
  node_none e = first_start-both_so_far text forms several k ∙ ap (option_and_then (λ v. option_map (λ u. extent u v) (start_so_far (operands text forms) v v))) e

  node_some : (w : ℕ) → end_so_far (operands text forms) k k ≡ Some w → first_start (concordance text (both forms)) k ≡ option_map (λ u. extent u w) (start_so_far (operands text forms) w w)
  node_some w e = first_start-both_so_far text forms several k ∙ ap (option_and_then (λ v. option_map (λ u. extent u v) (start_so_far (operands text forms) v v))) e

  far : AreFarAs tells.v (end_so_far (all_left (operands text forms) xs) k k) (end_so_far (operands text forms) k k)
  far = ends_agree (operands text forms) xs k tells.v tells.each k k (inl refl)

  -- no operand has an end: the node has no member
  pub both_none : None ≡ end_so_far (all_left (operands text forms) xs) k k → None ≡ first_start (concordance text (both forms)) k
  both_none e = sym (cases (end_so_far (operands text forms) k k) refl (subst (λ o. AreFarAs tells.v o (end_so_far (operands text forms) k k)) (sym e) far))
    where
      cases : (o : Option ℕ) → end_so_far (operands text forms) k k ≡ o → AreFarAs tells.v None (end_so_far (operands text forms) k k) → first_start (concordance text (both forms)) k ≡ None
      cases None is f = node_none is
      cases (Some w) is f = absurd (subst (λ o. AreFarAs tells.v None o) is f)

  same_end : (w : ℕ) → Some w ≡ end_so_far (all_left (operands text forms) xs) k k → end_so_far (operands text forms) k k ≡ Some w
  same_end w e = cases (end_so_far (operands text forms) k k) refl (subst (λ o. AreFarAs tells.v o (end_so_far (operands text forms) k k)) (sym e) far)
    where
      found : (z : ℕ) → end_so_far (operands text forms) k k ≡ Some z → tells.v ≤ z
      found z is =
          let there = (has_starts (operands text forms) (operands_rise text forms) k k z is).starts z in
          let member : first_start (concordance text (both forms)) k ≡ Some (extent there.start z) = node_some z is ∙ ap (option_map (λ u. extent u z)) there.is in
          IfSome-at (λ a. tells.v ≤ a.end) (first_start (concordance text (both forms)) k) (extent there.start z) member tells.before

      at : (z : ℕ) → tells.v ≤ z → IsFarAs tells.v w z → w ≡ z
      at z le (inl is) = is
      at z le (inr lt) = absurd (let y = lt.1 in omega arith)

      cases : (o : Option ℕ) → end_so_far (operands text forms) k k ≡ o → AreFarAs tells.v (Some w) (end_so_far (operands text forms) k k) → end_so_far (operands text forms) k k ≡ Some w
      cases None is f = absurd (subst (λ o. AreFarAs tells.v (Some w) o) is f)
      cases (Some z) is f = is ∙ ap Some (sym (at z (found z is) (subst (λ o. AreFarAs tells.v (Some w) o) is f)))

  -- back from the end that all reach
  module _ (w : ℕ) (e : Some w ≡ end_so_far (all_left (operands text forms) xs) k k) (ys : List ℕ) (moved : HaveMoved (operands text forms) xs ys k) where
    reached : AllReached (operands text forms) ys w
    reached = (all_reached (operands text forms) (operands_rise text forms) xs ys k moved k w (sym e)).reached

    pub both_some : (o : Option ℕ) → o ≡ start_so_far (all_left (operands text forms) ys) w w → option_map (λ u. extent u w) o ≡ first_start (concordance text (both forms)) k
    both_some o is = ap (option_map (λ u. extent u w)) (is ∙ starts_agree (operands text forms) (operands_rise text forms) ys w reached w) ∙ sym (node_some w (same_end w e))

    pub both_tell : (zs : List ℕ) → HaveMovedBack (operands text forms) ys zs w → (l : ℕ) → AllAnswerOrEnd (operands text forms) zs l (w + 1)
    both_tell zs back l = all_tell (operands text forms) (operands_rise text forms) ys zs w l reached back
