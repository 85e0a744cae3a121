-- The members of a rising list that touch two addresses.
use Rattle.std.proofs.Common.{◌≡◌, ℕ, ◌<◌, ◌≤◌, Bool, true, false, leb, cond, List, [], ◌∷◌, filter, take_while, Option, Some, None, inl, inr, refl, sym, ap, ◌∙◌, subst, arith, le_refl}
use Rattle.std.specs.List.{AllByRecursion}
use Rattle.std.proofs.lemmas.Bool.{cases_Bool, and_from, and_left, and_right, leb-true, leb-false, le-leb, lt-leb}
use Rattle.std.proofs.lemmas.List.Sums.{take_while-cons}
use Rattle.gcl_locality.specs.Windows.{start_or}
use Rattle.gcl_model.specs.Access.{first_end}
use Rattle.gcl_model.specs.Extents.{Extent, IsAhead, IsRising}
use Rattle.gcl_model.specs.Forms.{Form}
use Rattle.gcl_model.specs.Meaning.{concordance}
use Rattle.gcl_model.specs.Texts.{Text}
use Rattle.gcl_model.proofs.Covers.{of_each, find_gives}
use Rattle.gcl_model.proofs.Lists.{all_weaker, filter_kept, filter_gone}
use Rattle.gcl_model.proofs.Meanings.{concordance_rises}
use Rattle.gcl_eval.specs.Members.{members_from}
use Rattle.gcl_locality.specs.Changed.{touches}
use Rattle.query_search.proofs.SearchLemmas.{none_at_end}
use Rattle.near_search.specs.Contents.{start_of, starts_by}

-- if all members end at or after the lower address, those up to the last one that starts at the upper address touch both
upto_touches : (low high : ℕ) (list : List Extent) → IsRising list → AllByRecursion (λ (a : Extent). low ≤ a.end) list → take_while (starts_by high) list ≡ filter (touches low high) list
upto_touches low high [] r from = refl
upto_touches low high (x ∷ list) r from =
    let ends : leb low x.end ≡ true = le-leb low x.end from.0 in
    elim (cases_Bool (leb x.start high)) [
      | inl h ↦
          take_while-cons (starts_by high) x list
          ∙ ap (λ (b : Bool). cond b (x ∷ take_while (starts_by high) list) []) h
          ∙ ap (λ (l : List Extent). x ∷ l) (upto_touches low high list r.1 from.1)
          ∙ sym (ap (λ (b : Bool). cond b (x ∷ filter (touches low high) list) (filter (touches low high) list)) (and_from (leb low x.end) (leb x.start high) ends h))
      | inr f ↦
          let past : high < x.start = leb-false x.start high f in
          let none : AllByRecursion (λ (a : Extent). touches low high a ≡ false) list =
          all_weaker (IsAhead x) (λ (a : Extent). touches low high a ≡ false)
          (λ a ahead. let later : x.start < a.start = ahead.0 in and_right (leb low a.end) (leb a.start high) (lt-leb a.start high (omega arith))) list r.0 in
          take_while-cons (starts_by high) x list
          ∙ ap (λ (b : Bool). cond b (x ∷ take_while (starts_by high) list) []) f
          ∙ sym (ap (λ (b : Bool). cond b (x ∷ filter (touches low high) list) (filter (touches low high) list)) (and_right (leb low x.end) (leb x.start high) f)
          ∙ filter_gone (touches low high) list none)
    ]

not_touching : (low high : ℕ) (x : Extent) (list : List Extent) → leb low x.end ≡ false → filter (touches low high) (x ∷ list) ≡ filter (touches low high) list
not_touching low high x list f =
    ap (λ (b : Bool). cond b (x ∷ filter (touches low high) list) (filter (touches low high) list)) (and_left (leb low x.end) (leb x.start high) f)

-- from the start of the first member that ends at the lower address or later, all do
from_first : (low high : ℕ) (x : Extent) (list : List Extent) → IsRising (x ∷ list) → leb low x.end ≡ true
    → take_while (starts_by high) (members_from (x ∷ list) x.start) ≡ filter (touches low high) (x ∷ list)
from_first low high x list r t =
    let all : members_from (x ∷ list) x.start ≡ x ∷ list =
    filter_kept (λ (a : Extent). leb x.start a.start) (x ∷ list) (
      le-leb x.start x.start (le_refl x.start),
      all_weaker (IsAhead x) (λ (a : Extent). leb x.start a.start ≡ true) (λ a ahead. let later : x.start < a.start = ahead.0 in le-leb x.start a.start (omega arith)) list r.0,
    ) in
    let low_end : low ≤ x.end = leb-true low x.end t in
    let ends : AllByRecursion (λ (a : Extent). low ≤ a.end) (x ∷ list) =
    (low_end, all_weaker (IsAhead x) (λ (a : Extent). low ≤ a.end) (λ a ahead. let later : x.end < a.end = ahead.1 in omega arith) list r.0) in
    ap (λ (l : List Extent). take_while (starts_by high) l) all ∙ upto_touches low high (x ∷ list) r ends

pub touching_from : (low high : ℕ) (list : List Extent) (a : Extent) → IsRising list → first_end list low ≡ Some a
    → take_while (starts_by high) (members_from list a.start) ≡ filter (touches low high) list
touching_from low high [] a r is = absurd cc
touching_from low high (x ∷ list) a r is =
    elim (cases_Bool (leb low x.end)) [
      | inl t ↦
          let h = rw t at is in
          let same : x ≡ a = cc in
          subst (λ (y : Extent). take_while (starts_by high) (members_from (x ∷ list) y.start) ≡ filter (touches low high) (x ∷ list)) same (from_first low high x list r t)
      | inr f ↦
          let h : first_end list low ≡ Some a = rw f at is in
          let later : x.start < a.start = (of_each (IsAhead x) list a r.0 (find_gives (λ (b : Extent). leb low b.end) list a h).0).0 in
          let skip : members_from (x ∷ list) a.start ≡ members_from list a.start =
          ap (λ (b : Bool). cond b (x ∷ members_from list a.start) (members_from list a.start)) (lt-leb a.start x.start later) in
          ap (λ (l : List Extent). take_while (starts_by high) l) skip ∙ touching_from low high list a r.1 h ∙ sym (not_touching low high x list f)
    ]

-- and if none does, none is there
pub touching_none : (low high : ℕ) (list : List Extent) → first_end list low ≡ None → filter (touches low high) list ≡ []
touching_none low high [] is = refl
touching_none low high (x ∷ list) is =
    elim (cases_Bool (leb low x.end)) [
      | inl t ↦ let h = rw t at is in absurd cc
      | inr f ↦ let h : first_end list low ≡ None = rw f at is in not_touching low high x list f ∙ touching_none low high list h
    ]

-- if the first member that ends at or after the lower address starts after the upper one, none touches both
pub none_touch : (low high n : ℕ) (list : List Extent) → IsRising list → high < start_or n (first_end list low) → filter (touches low high) list ≡ []
none_touch low high n [] r gt = refl
none_touch low high n (x ∷ list) r gt =
    elim (cases_Bool (leb low x.end)) [
      | inl t ↦
          let past : high < x.start = rw t at gt in
          filter_gone (touches low high) (x ∷ list) (
            and_right (leb low x.end) (leb x.start high) (lt-leb x.start high past),
            all_weaker (IsAhead x) (λ (a : Extent). touches low high a ≡ false)
                (λ a ahead. let later : x.start < a.start = ahead.0 in and_right (leb low a.end) (leb a.start high) (lt-leb a.start high (omega arith))) list r.0,
          )
      | inr f ↦ let later : high < start_or n (first_end list low) = rw f at gt in not_touching low high x list f ∙ none_touch low high n list r.1 later
    ]

-- the members starting with the first that ends at or after the lower address
pub touching_start : (text : Text) (form : Form) (low high : ℕ) →
    take_while (starts_by high) (members_from (concordance text form) (start_of text form low)) ≡ filter (touches low high) (concordance text form)
touching_start text form low high = here (first_end (concordance text form) low) refl
  where
    here : (o : Option Extent) → first_end (concordance text form) low ≡ o →
        take_while (starts_by high) (members_from (concordance text form) (start_or text.next o)) ≡ filter (touches low high) (concordance text form)
    here None is = ap (λ (l : List Extent). take_while (starts_by high) l) (none_at_end text form text.next refl) ∙ sym (touching_none low high (concordance text form) is)
    here (Some a) is = touching_from low high (concordance text form) a (concordance_rises text form) is
