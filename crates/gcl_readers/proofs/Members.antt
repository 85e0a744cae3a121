-- What the members at or after an address answer, and how they relate to the whole list.
use Rattle.std.proofs.Common.{◌≡◌, ℕ, ◌<◌, ◌≤◌, Bool, true, false, cond, ◌&&◌, leb, List, [], ◌∷◌, filter, find, Option, Some, None, refl, sym, ap, ◌∙◌, arith, le_refl, inl, inr}
use Rattle.std.proofs.lemmas.Bool.{leb-true, le-leb, cases_Bool, cases_lt}
use Rattle.gcl_model.specs.Extents.{Extent, IsAhead, IsRising}
use Rattle.gcl_model.specs.Access.{first_start, first_end, last_end}
use Rattle.gcl_model.proofs.Covers.{Has, same_member, find_agree_on, find_gives, find_last_gives}
use Rattle.gcl_model.proofs.Lists.{all_kept}
use Rattle.gcl_model.proofs.Minimal.{filter_has, has_filter}
use Rattle.gcl_contain.proofs.Accesses.{found_first, none_from, found_last, none_upto, from_by_place, start_is_place}
use Rattle.gcl_eval.specs.Members.{members_from}

-- members
pub has_from : (list : List Extent) (x : ℕ) (d : Extent) → Has list d → x ≤ d.start → Has (members_from list x) d
has_from list x d m le = filter_has (λ a. leb x a.start) list d m (le-leb x d.start le)

pub from_has : (list : List Extent) (x : ℕ) (d : Extent) → Has (members_from list x) d → Has list d × (x ≤ d.start)
from_has list x d m = let h = has_filter (λ a. leb x a.start) list d m in (h.0, leb-true x d.start h.1)

pub rises_from : (list : List Extent) (x : ℕ) → IsRising list → IsRising (members_from list x)
rises_from [] x r = tt
rises_from (a ∷ list) x r =
    elim (cases_Bool (leb x a.start)) [
      | inl t ↦ rw t (all_kept (IsAhead a) (λ b. leb x b.start) list r.0, rises_from list x r.1)
      | inr f ↦ rw f (rises_from list x r.1)
    ]

-- a member that no other one comes before is what is found
pub first_start_is : (list : List Extent) → IsRising list → (k : ℕ) (b : Extent) → Has list b → k ≤ b.start → ((d : Extent) → Has list d → k ≤ d.start → b.start ≤ d.start) → first_start list k ≡ Some b
first_start_is list r k b m le least = cases (first_start list k) refl
  where
    cases : (o : Option Extent) → first_start list k ≡ o → first_start list k ≡ Some b
    cases None is = absurd (let lt : b.start < k = none_from (λ a. a.start) list k is b m in omega arith)
    cases (Some c) is =
        let f = found_first (λ a. a.start) list r k c is in
        let on = f.first b m le in
        let x : b.start ≤ c.start = least c f.member f.far in
        is ∙ ap Some (sym (same_member list r b c m f.member x on.1))

pub first_end_is : (list : List Extent) → IsRising list → (k : ℕ) (b : Extent) → Has list b → k ≤ b.end → ((d : Extent) → Has list d → k ≤ d.end → b.end ≤ d.end) → first_end list k ≡ Some b
first_end_is list r k b m le least = cases (first_end list k) refl
  where
    cases : (o : Option Extent) → first_end list k ≡ o → first_end list k ≡ Some b
    cases None is = absurd (let lt : b.end < k = none_from (λ a. a.end) list k is b m in omega arith)
    cases (Some c) is =
        let f = found_first (λ a. a.end) list r k c is in
        let on = f.first b m le in
        let x : b.end ≤ c.end = least c f.member f.far in
        is ∙ ap Some (same_member list r c b f.member m on.0 x)

pub last_end_is : (list : List Extent) → IsRising list → (k : ℕ) (b : Extent) → Has list b → b.end ≤ k → ((d : Extent) → Has list d → d.end ≤ k → d.end ≤ b.end) → last_end list k ≡ Some b
last_end_is list r k b m le greatest = cases (last_end list k) refl
  where
    cases : (o : Option Extent) → last_end list k ≡ o → last_end list k ≡ Some b
    cases None is = absurd (let lt : k < b.end = none_upto (λ a. a.end) list k is b m in omega arith)
    cases (Some c) is =
        let f = found_last (λ a. a.end) list r k c is in
        let on = f.last b m le in
        let x : c.end ≤ b.end = greatest c f.member f.near in
        is ∙ ap Some (sym (same_member list r b c m f.member on.0 x))

-- nothing is found where no member lies there
pub no_first_start : (list : List Extent) → IsRising list → (k : ℕ) → ((d : Extent) → Has list d → d.start < k) → first_start list k ≡ None
no_first_start list r k never = cases (first_start list k) refl
  where
    cases : (o : Option Extent) → first_start list k ≡ o → first_start list k ≡ None
    cases None is = is
    cases (Some c) is = let f = found_first (λ a. a.start) list r k c is in let far : k ≤ c.start = f.far in let lt : c.start < k = never c f.member in absurd (omega arith)

pub no_first_end : (list : List Extent) → IsRising list → (k : ℕ) → ((d : Extent) → Has list d → d.end < k) → first_end list k ≡ None
no_first_end list r k never = cases (first_end list k) refl
  where
    cases : (o : Option Extent) → first_end list k ≡ o → first_end list k ≡ None
    cases None is = is
    cases (Some c) is = let f = found_first (λ a. a.end) list r k c is in let far : k ≤ c.end = f.far in let lt : c.end < k = never c f.member in absurd (omega arith)

pub no_last_end : (list : List Extent) → IsRising list → (k : ℕ) → ((d : Extent) → Has list d → k < d.end) → last_end list k ≡ None
no_last_end list r k never = cases (last_end list k) refl
  where
    cases : (o : Option Extent) → last_end list k ≡ o → last_end list k ≡ None
    cases None is = is
    cases (Some c) is = let f = found_last (λ a. a.end) list r k c is in let near : c.end ≤ k = f.near in let lt : k < c.end = never c f.member in absurd (omega arith)

-- a search among the members that pass
find-filter : (p q : Extent → Bool) (list : List Extent) → find p (filter q list) ≡ find (λ a. q a && p a) list
find-filter p q [] = refl
find-filter p q (a ∷ list) = here (q a) (find-filter p q list)
  where
    here : (b : Bool) → find p (filter q list) ≡ find (λ c. q c && p c) list → find p (cond b (a ∷ filter q list) (filter q list)) ≡ cond (b && p a) (Some a) (find (λ c. q c && p c) list)
    here true rest = ap (λ o. cond (p a) (Some a) o) rest
    here false rest = rest

-- if all members that are asked for are left, what is left answers as the whole list does
pub agrees : (list : List Extent) (x k : ℕ) → ((c : Extent) → Has list c → k ≤ c.start → x ≤ c.start) → first_start (members_from list x) k ≡ first_start list k
agrees list x k left =
    find-filter (λ a. leb k a.start) (λ a. leb x a.start) list
    ∙ find_agree_on (λ a. leb x a.start && leb k a.start) (λ a. leb k a.start) list (λ a m. both (leb x a.start) (leb k a.start) (λ t. le-leb x a.start (left a m (leb-true k a.start t))))
  where
    both : (b c : Bool) → (c ≡ true → b ≡ true) → (b && c) ≡ c
    both true c h = refl
    both false true h = h refl
    both false false h = refl

pub agrees_by_ends : (list : List Extent) (x k : ℕ) → ((c : Extent) → Has list c → k ≤ c.end → x ≤ c.start) → first_end (members_from list x) k ≡ first_end list k
agrees_by_ends list x k left =
    find-filter (λ a. leb k a.end) (λ a. leb x a.start) list
    ∙ find_agree_on (λ a. leb x a.start && leb k a.end) (λ a. leb k a.end) list (λ a m. both (leb x a.start) (leb k a.end) (λ t. le-leb x a.start (left a m (leb-true k a.end t))))
  where
    both : (b c : Bool) → (c ≡ true → b ≡ true) → (b && c) ≡ c
    both true c h = refl
    both false true h = h refl
    both false false h = refl

pub agrees_at : (list : List Extent) (x k : ℕ) → x ≤ k → first_start (members_from list x) k ≡ first_start list k
agrees_at list x k le = agrees list x k (λ c m far. omega arith)

-- what starts earlier than all that is left
pub agrees_below : (list : List Extent) (x k : ℕ) → k ≤ x → first_start (members_from list x) k ≡ first_start list x
agrees_below list x k le =
    find-filter (λ a. leb k a.start) (λ a. leb x a.start) list
    ∙ find_agree_on (λ a. leb x a.start && leb k a.start) (λ a. leb x a.start) list (λ a m. both (leb x a.start) (leb k a.start) (λ t. le-leb k a.start (let far : x ≤ a.start = leb-true x a.start t in omega arith)))
  where
    both : (b c : Bool) → (b ≡ true → c ≡ true) → (b && c) ≡ b
    both true c h = h refl
    both false c h = refl

-- the first member at or after an address is the first at or after each address up to it, too
pub first_up_to : (list : List Extent) → IsRising list → (k j : ℕ) (a : Extent) → first_start list k ≡ Some a → k ≤ j → j ≤ a.start → first_start list j ≡ Some a
first_up_to list r k j a is le far =
    let f = found_first (λ c. c.start) list r k a is in
    first_start_is list r j a f.member far (λ d m on. (f.first d m (omega arith)).0)

pub none_after : (list : List Extent) → IsRising list → (k j : ℕ) → first_start list k ≡ None → k ≤ j → first_start list j ≡ None
none_after list r k j is le = no_first_start list r j (λ d m. let lt : d.start < k = none_from (λ c. c.start) list k is d m in omega arith)

-- the last member up to an address, among those that are left
pub no_last_left : (list : List Extent) → IsRising list → (x k : ℕ) → last_end list k ≡ None → last_end (members_from list x) k ≡ None
no_last_left list r x k is = no_last_end (members_from list x) (rises_from list x r) k (λ d m. none_upto (λ c. c.end) list k is d (from_has list x d m).0)

pub last_left : (list : List Extent) → IsRising list → (x k : ℕ) (a : Extent) → last_end list k ≡ Some a → x ≤ a.start → last_end (members_from list x) k ≡ Some a
last_left list r x k a is le =
    let f = found_last (λ c. c.end) list r k a is in
    last_end_is (members_from list x) (rises_from list x r) k a (has_from list x a f.member le) f.near (λ d m on. (f.last d (from_has list x d m).0 on).1)

pub last_gone : (list : List Extent) → IsRising list → (x k : ℕ) (a : Extent) → last_end list k ≡ Some a → a.start < x → last_end (members_from list x) k ≡ None
last_gone list r x k a is lt =
    let f = found_last (λ c. c.end) list r k a is in
    no_last_end (members_from list x) (rises_from list x r) k (λ d m. let h = from_has list x d m in elim (cases_lt k d.end) [ inl far ↦ far | inr near ↦ absurd (let on = (f.last d h.0 near).0 in let at = h.1 in omega arith) ])

-- what is found among those that are left is found in the whole list
pub last_of_left : (list : List Extent) → IsRising list → (x k : ℕ) (a : Extent) → last_end (members_from list x) k ≡ Some a → last_end list k ≡ Some a
last_of_left list r x k a is =
    let f = found_last (λ c. c.end) (members_from list x) (rises_from list x r) k a is in
    let h = from_has list x a f.member in
    last_end_is list r k a h.0 f.near (λ d m on. elim (cases_lt d.start a.start) [ inl lt ↦ (let p = (from_by_place (λ c. c.start) start_is_place list r d a m h.0 (omega arith)).1 in p) | inr ge ↦ (f.last d (has_from list x d m (let at = h.1 in omega arith)) on).1 ])

-- a member is the first at or after its start
pub first_itself : (list : List Extent) → IsRising list → (a : Extent) → Has list a → first_start list a.start ≡ Some a
first_itself list r a m = first_start_is list r a.start a m (le_refl a.start) (λ d n on. on)

pub last_member : (list : List Extent) (k : ℕ) (a : Extent) → last_end list k ≡ Some a → Has list a
last_member list k a is = (find_last_gives (λ c. leb c.end k) list a is).0

pub first_member : (list : List Extent) (k : ℕ) (a : Extent) → first_start list k ≡ Some a → Has list a
first_member list k a is = (find_gives (λ c. leb k c.start) list a is).0
