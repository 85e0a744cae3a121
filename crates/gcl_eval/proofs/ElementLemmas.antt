-- The member of two terms followed by each other, if the leaves have it available.
use Rattle.std.proofs.Common.{◌≡◌, ℕ, ◌+◌, ◌-◌, ◌<◌, ◌≤◌, leb, List, [], ◌∷◌, Option, Some, None, IfSome, zero, suc, refl, sym, ap, ◌∙◌, subst, arith}
use Rattle.std.specs.Prelude.{if◌then◌else◌}
use Rattle.std.specs.Option.{option_map, option_and_then}
use Rattle.std.proofs.lemmas.Bool.{leb-true, le-leb}
use Rattle.gcl_model.specs.Extents.{Extent, IsRising}
use Rattle.gcl_model.specs.Texts.{Text, IsText, next_place, previous_place}
use Rattle.gcl_model.specs.Elements.{IsElementFrom, IsElementUpTo}
use Rattle.gcl_model.specs.declared.expr.Expr.{Expr}
use Rattle.gcl_model.specs.FormOf.{form_of}
use Rattle.gcl_model.specs.Forms.{Form, Forms, term, seq, no_forms, more_forms}
use Rattle.gcl_model.specs.Meaning.{concordance}
use Rattle.gcl_model.specs.Access.{first_end, last_end}
use Rattle.gcl_model.specs.Directions.{near_access, far_access}
use Rattle.gcl_model.specs.declared.direction.Direction.TheVariants.{Forward, Backward}
use Rattle.gcl_model.proofs.Covers.{Has, find_gives}
use Rattle.gcl_model.proofs.Meanings.{concordance_rises}
use Rattle.gcl_contain.proofs.Accesses.{found_first, found_last, none_from, none_upto}
use Rattle.gcl_model.proofs.Places.{point}
use Rattle.gcl_order.specs.Walks.{address_before, walk_forward, walk_backward}
use Rattle.gcl_eval.specs.declared.direction.Access.{Access}
use Rattle.gcl_eval.specs.Elements.{IsOnTheWay, LeadsTo}
use Rattle.gcl_eval.specs.Operands.{element_form}
use Rattle.gcl_eval.specs.Directions.{access_of, place_of, join, reaches, walk, next_past, on_again}
use Rattle.gcl_model.specs.Limits.{address_end}
use Rattle.gcl_eval.specs.declared.direction.Access.TheVariants.{FirstStart, FirstEnd, LastEnd}
use Rattle.gcl_eval.proofs.Found.{access_within}
use Rattle.gcl_eval.proofs.ChainRules.{near_access-seq, far_access-seq}
use Rattle.gcl_eval.proofs.TermAccess.{term_found}

-- a place of a token lies within the addresses
pub place_below : (access : Access) (text : Text) → IsText text → (token : List ℕ) (k p : ℕ) → Some p ≡ place_of access text.words token k → p < address_end
place_below access text sound token k p found = access_within access text (term token) k (Some (point p)) sound (term_found access text token token k (Some p) sound refl found)

address_before-positive : (n : ℕ) → 0 < n → Some (n - 1) ≡ address_before n
address_before-positive zero lt = absurd (omega arith)
address_before-positive (suc n) lt = let e : suc n - 1 ≡ n = omega arith in ap Some e

module _ (text : Text) (first second : List ℕ) (sound : IsText text) where
  abbrev firsts : List Extent
  firsts = concordance text (term first)

  abbrev seconds : List Extent
  seconds = concordance text (term second)

  abbrev both_terms : Forms
  both_terms = more_forms (term first) (more_forms (term second) no_forms)

  -- back from a place of the second token
  back_from : (at start : ℕ) → 0 < at → Some start ≡ previous_place text.words first (at - 1) → Some (point start) ≡ walk_backward (firsts ∷ []) (point at)
  back_from at start lt back =
      term_found LastEnd text first first (at - 1) (Some start) sound refl back
      ∙ ap (option_and_then (last_end firsts)) (address_before-positive at lt)

  -- on from a place of the first token
  on_from : (at end : ℕ) → Some end ≡ next_place text.words second (at + 1) → Some (point end) ≡ walk_forward (seconds ∷ []) (point at)
  on_from at end on = ap (option_and_then (walk_forward [])) (term_found FirstStart text second second (at + 1) (Some end) sound refl on)

  pub end_above : (k end : ℕ) → Some end ≡ next_place text.words second k → k ≤ end
  end_above k end on = leb-true k end (find_gives (λ a. leb k a.start) seconds (point end) (sym (term_found FirstStart text second second k (Some end) sound refl on))).1

  pub back_below : (i p : ℕ) → Some p ≡ previous_place text.words first i → p ≤ i
  back_below i p back = (found_last (λ c. c.end) firsts (concordance_rises text (term first)) i (point p) (sym (term_found LastEnd text first first i (Some p) sound refl back))).near

  -- if a place is at j or later, the next one at or after j is not missing
  pub no_place : (k j at : ℕ) → Some at ≡ next_place text.words second k → j ≤ at → None ≡ next_place text.words second j → ⊥
  no_place k j at found le none =
      let f = found_first (λ c. c.start) seconds (concordance_rises text (term second)) k (point at) (sym (term_found FirstStart text second second k (Some at) sound refl found)) in
      let lt : at < j = none_from (λ c. c.start) seconds j (sym (term_found FirstStart text second second j None sound refl none)) (point at) f.member in
      omega arith

  element_from-is : (k : ℕ) (element : Extent) → IsElementFrom text.words first second k element → Some element ≡ near_access Forward (concordance text (seq both_terms)) k
  element_from-is k element is =
      let above = end_above (is.at + 1) element.end is.on in
      ap (option_map (λ near. join Forward near (point element.end))) (back_from element.end element.start (omega arith) is.back)
      ∙ ap (option_and_then (λ far. option_map (λ near. join Forward near far) (walk Backward (firsts ∷ []) far)))
      (on_from is.at element.end is.on ∙ ap (option_and_then (walk Forward (seconds ∷ []))) (term_found FirstStart text first first k (Some is.at) sound refl is.found))
      ∙ sym (near_access-seq Forward text both_terms firsts seconds (seconds ∷ []) (firsts ∷ []) refl refl k)

  element_up_to-is : (k : ℕ) (element : Extent) → IsElementUpTo text.words first second k element → Some element ≡ far_access Forward (concordance text (seq both_terms)) k
  element_up_to-is k element is =
      let node = concordance text (seq both_terms) in
      let near = point element.start in
      let past = next_past Forward node text.first text.next (Some near) in
      sym (ap (λ b. if b then Some element else past) (le-leb k element.end is.reaches))
      ∙ ap (option_and_then (λ far. if reaches Forward k far then Some (join Forward near far) else past)) (on_from element.start element.end is.on)
      ∙ ap (on_again Forward node (seconds ∷ []) text.first text.next k) (back_from is.at element.start is.behind is.back)
      ∙ ap (option_and_then (λ found. on_again Forward node (seconds ∷ []) text.first text.next k (walk Backward (firsts ∷ []) found)))
      (term_found FirstEnd text second second k (Some is.at) sound refl is.found)
      ∙ sym (far_access-seq Forward text both_terms firsts seconds (seconds ∷ []) (firsts ∷ []) refl refl k)

  -- no element ends where no place of the second token is
  none_up_to-is : (k : ℕ) → None ≡ next_place text.words second k → far_access Forward (concordance text (seq both_terms)) k ≡ None
  none_up_to-is k none =
      far_access-seq Forward text both_terms firsts seconds (seconds ∷ []) (firsts ∷ []) refl refl k
      ∙ ap (option_and_then (λ found. on_again Forward (concordance text (seq both_terms)) (seconds ∷ []) text.first text.next k (walk Backward (firsts ∷ []) found)))
      (sym (term_found FirstEnd text second second k None sound refl none))

  -- a place of the second token is the first one at or after itself
  next_here : (e : ℕ) → Has seconds (point e) → Some e ≡ next_place text.words second e
  next_here e m = by_place (next_place text.words second e) refl
    where
      by_place : (o : Option ℕ) → o ≡ next_place text.words second e → Some e ≡ o
      by_place None is =
          let lt : e < e = none_from (λ c. c.start) seconds e (sym (term_found FirstStart text second second e None sound refl is)) (point e) m in
          absurd (omega arith)
      by_place (Some x) is =
          let f = found_first (λ c. c.start) seconds (concordance_rises text (term second)) e (point x) (sym (term_found FirstStart text second second e (Some x) sound refl is)) in
          let far = f.far in
          let on = (f.first (point e) m (omega arith)).0 in
          let same : e ≡ x = omega arith in
          ap Some same

  -- and a place of the first token is the last one up to i, if each place up to i is up to it
  previous_here : (i p : ℕ) → Has firsts (point p) → p ≤ i → ((d : Extent) → Has firsts d → d.end ≤ i → d.start ≤ p) → Some p ≡ previous_place text.words first i
  previous_here i p m le last = by_place (previous_place text.words first i) refl
    where
      by_place : (o : Option ℕ) → o ≡ previous_place text.words first i → Some p ≡ o
      by_place None is =
          let lt : i < p = none_upto (λ c. c.end) firsts i (sym (term_found LastEnd text first first i None sound refl is)) (point p) m in
          absurd (omega arith)
      by_place (Some x) is =
          let f = found_last (λ c. c.end) firsts (concordance_rises text (term first)) i (point x) (sym (term_found LastEnd text first first i (Some x) sound refl is)) in
          let near = f.near in
          let on = (f.last (point p) m le).0 in
          let before = last (point x) f.member near in
          let same : p ≡ x = omega arith in
          ap Some same

  -- what three look-ups lead to is an element
  leads_to-is : (from k : ℕ) (a : Extent) → LeadsTo text.words first second from k a → IsOnTheWay (concordance text (seq both_terms)) from k a
  leads_to-is from k a is =
      let back = found_last (λ c. c.end) firsts (concordance_rises text (term first)) (is.at - 1) (point a.start) (sym (term_found LastEnd text first first (is.at - 1) (Some a.start) sound refl is.back)) in
      let on = found_first (λ c. c.start) seconds (concordance_rises text (term second)) (a.start + 1) (point a.end) (sym (term_found FirstStart text second second (a.start + 1) (Some a.end) sound refl is.on)) in
      let at = found_first (λ c. c.start) seconds (concordance_rises text (term second)) k (point is.at) (sym (term_found FirstStart text second second k (Some is.at) sound refl is.found)) in
      let behind = is.behind in
      let before = back.near in
      let above = on.far in
      let upto = (on.first (point is.at) at.member (omega arith)).0 in
      record {
        place = a.end;
        member = element_up_to-is a.end a (record {
          at = a.end;
          found = next_here a.end on.member;
          behind = omega arith;
          back = previous_here (a.end - 1) a.start back.member (omega arith) (λ d m le. (back.last d m (omega (arith, le, upto))).0);
          on = is.on;
          reaches = omega arith;
        });
        later = λ short. is.later;
        reached = λ far. element_up_to-is k a (record { at = is.at; found = is.found; behind = is.behind; back = is.back; on = is.on; reaches = far });
      }

-- what the leaves have available for the tokens of an expression
module _ (e : Expr) (text : Text) (sound : IsText text) (first second a b : List ℕ) (k : ℕ) (is : form_of e ≡ element_form first second) (a_is : a ≡ first) (b_is : b ≡ second)
    (wanted : Access) where
  pub from_at_hand : wanted ≡ FirstStart → (o : Option Extent) → IfSome o (IsElementFrom text.words a b k) → IfSome o (λ x. Some x ≡ access_of wanted (concordance text (form_of e)) k)
  from_at_hand same None found = tt
  from_at_hand same (Some x) found =
      element_from-is text first second sound k x (subst (λ y. IsElementFrom text.words y second k x) a_is (subst (λ z. IsElementFrom text.words a z k x) b_is found))
      ∙ ap (λ w. access_of w (concordance text (element_form first second)) k) (sym same) ∙ ap (λ f. access_of wanted (concordance text f) k) (sym is)

  pub up_to_at_hand : wanted ≡ FirstEnd → (o : Option Extent) → IfSome o (IsElementUpTo text.words a b k) → IfSome o (λ x. Some x ≡ access_of wanted (concordance text (form_of e)) k)
  up_to_at_hand same None found = tt
  up_to_at_hand same (Some x) found =
      element_up_to-is text first second sound k x (subst (λ y. IsElementUpTo text.words y second k x) a_is (subst (λ z. IsElementUpTo text.words a z k x) b_is found))
      ∙ ap (λ w. access_of w (concordance text (element_form first second)) k) (sym same) ∙ ap (λ f. access_of wanted (concordance text f) k) (sym is)

-- elements on the way, by what was looked up for the tokens of an expression
module _ (e : Expr) (text : Text) (sound : IsText text) (first second a b : List ℕ) (from k : ℕ) (is : form_of e ≡ element_form first second) (a_is : a ≡ first) (b_is : b ≡ second) where
  by_form : (P : List Extent → Type 0) → P (concordance text (seq (more_forms (term first) (more_forms (term second) no_forms)))) → P (concordance text (form_of e))
  by_form P p = subst (λ f. P (concordance text f)) (sym is) p

  none_onward : None ≡ next_place text.words b k → first_end (concordance text (form_of e)) k ≡ None
  none_onward none = by_form (λ l. first_end l k ≡ None) (none_up_to-is text first second sound k (none ∙ ap (λ t. next_place text.words t k) b_is))

  onward_at : (o : Option Extent) → IfSome o (LeadsTo text.words a b from k) → IfSome o (IsOnTheWay (concordance text (form_of e)) from k)
  onward_at None leads = tt
  onward_at (Some x) leads =
      by_form (λ l. IsOnTheWay l from k x)
      (leads_to-is text first second sound from k x (subst (λ y. LeadsTo text.words y second from k x) a_is (subst (λ z. LeadsTo text.words a z from k x) b_is leads)))

  pub each_none_onward : (o : Option (Option Extent)) → IfSome o (λ f. f ≡ None → None ≡ next_place text.words b k) → IfSome o (λ f. f ≡ None → first_end (concordance text (form_of e)) k ≡ None)
  each_none_onward None none = tt
  each_none_onward (Some f) none = λ is. none_onward (none is)

  pub each_onward : (o : Option (Option Extent)) → IfSome o (λ f. IfSome f (LeadsTo text.words a b from k)) → IfSome o (λ f. IfSome f (IsOnTheWay (concordance text (form_of e)) from k))
  each_onward None leads = tt
  each_onward (Some f) leads = onward_at f leads

-- one that is available
pub onward_at_hand : (list : List Extent) → IsRising list → (from k : ℕ) (a : Extent) → Some a ≡ first_end list k → IsOnTheWay list from k a
onward_at_hand list r from k a is =
    let f = found_first (λ c. c.end) list r k a (sym is) in
    let far = f.far in
    record { place = k; member = is; later = λ short. absurd (omega (arith, short)); reached = λ _. is }

-- it ends within the addresses
pub at_hand_within : (wanted : Access) (text : Text) (form : Form) (k : ℕ) (o : Option Extent) → IsText text → IfSome o (λ x. Some x ≡ access_of wanted (concordance text form) k) →
    IfSome o (λ a. a.end < address_end)
at_hand_within wanted text form k None sound is = tt
at_hand_within wanted text form k (Some x) sound is = access_within wanted text form k (Some x) sound is

-- what is so is so of an answer
pub for_each : {X P : Type 0} (o : Option X) → P → IfSome o (λ _. P)
for_each None p = tt
for_each (Some x) p = p
