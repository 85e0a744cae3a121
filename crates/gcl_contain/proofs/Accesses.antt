-- What an access of a rising list says about all its members.
use Rattle.std.proofs.Common.{◌≡◌, ℕ, ◌<◌, ◌≤◌, Bool, true, false, cond, leb, List, [], ◌∷◌, Option, Some, None, inl, inr, refl, sym, ap, ◌∙◌, subst, arith, find, le_refl}
use Rattle.std.proofs.lemmas.Bool.{true≢false, or_cases, or_left, or_right, leb-true, leb-false, cases_Bool, false_from_ne_true}
use Rattle.gcl_model.specs.Extents.{Extent, is_nested, covers, is_inside, IsAhead, IsRising}
use Rattle.gcl_model.specs.Access.{later_or, find_last}
use Rattle.gcl_model.proofs.Covers.{Has, Nested, nested_tells, nested_from, covered_tells, of_each}
use Rattle.gcl_contain.specs.Laws.{IsFromOn}

-- a number of each member that rises with them: its start or its end
abbrev pub IsPlace : (Extent → ℕ) → Type 0
IsPlace place = (x y : Extent) → IsAhead x y → place x < place y

pub start_is_place : IsPlace (λ a. a.start)
start_is_place x y h = h.0

pub end_is_place : IsPlace (λ a. a.end)
end_is_place x y h = h.1

pub from_itself : (a : Extent) → IsFromOn a a
from_itself a = (le_refl a.start, le_refl a.end)

from_same : (a b : Extent) → a ≡ b → IsFromOn a b
from_same a b e = subst (IsFromOn a) e (from_itself a)

from_ahead : (a b : Extent) → IsAhead a b → IsFromOn a b
from_ahead a b h = let p = h.0 in let q = h.1 in (omega arith, omega arith)

-- b is the first member that lies at or after p
pub record IsFirst (place : Extent → ℕ) (list : List Extent) (p : ℕ) (b : Extent) : Type 0 where
  pub member : Has list b
  pub far : p ≤ place b
  pub first : (d : Extent) → Has list d → p ≤ place d → IsFromOn b d

pub found_first : (place : Extent → ℕ) (list : List Extent) → IsRising list → (p : ℕ) (b : Extent) → find (λ a. leb p (place a)) list ≡ Some b → IsFirst place list p b
found_first place [] r p b is = absurd cc
found_first place (x ∷ xs) r p b is =
    elim (cases_Bool (leb p (place x))) [
      | inl t ↦ let e : x ≡ b = let h = rw t at is in cc in
          subst (IsFirst place (x ∷ xs) p) e record {
            member = inl refl;
            far = leb-true p (place x) t;
            first = λ d m le. elim m [ inl same ↦ from_same x d same | inr n ↦ from_ahead x d (of_each (IsAhead x) xs d r.0 n) ];
          }
      | inr f ↦ let rest = found_first place xs r.1 p b (rw f at is) in let near : place x < p = leb-false p (place x) f in
          record {
            member = inr rest.member;
            far = rest.far;
            first = λ d m le. elim m [ inl same ↦ let e : place x ≡ place d = ap place same in absurd (omega arith) | inr n ↦ rest.first d n le ];
          }
    ]

pub none_from : (place : Extent → ℕ) (list : List Extent) (p : ℕ) → find (λ a. leb p (place a)) list ≡ None → (d : Extent) → Has list d → place d < p
none_from place [] p is d m = absurd m
none_from place (x ∷ xs) p is d m =
    elim (cases_Bool (leb p (place x))) [
      | inl t ↦ let h = rw t at is in absurd cc
      | inr f ↦ elim m [
        | inl same ↦ let near : place x < p = leb-false p (place x) f in let e : place x ≡ place d = ap place same in omega arith
        | inr n ↦ none_from place xs p (rw f at is) d n
      ]
    ]

-- b is the last member that lies up to p
pub record IsLast (place : Extent → ℕ) (list : List Extent) (p : ℕ) (b : Extent) : Type 0 where
  pub member : Has list b
  pub near : place b ≤ p
  pub last : (d : Extent) → Has list d → place d ≤ p → IsFromOn d b

none_step : (place : Extent → ℕ) (x : Extent) (xs : List Extent) (p : ℕ) → (find_last (λ a. leb (place a) p) xs ≡ None → (d : Extent) → Has xs d → p < place d) →
    (o : Option Extent) → find_last (λ a. leb (place a) p) xs ≡ o → (b : Bool) → leb (place x) p ≡ b → later_or o (cond b (Some x) None) ≡ None → (d : Extent) → Has (x ∷ xs) d → p < place d
none_step place x xs p ih (Some y) is b t h d m = absurd cc
none_step place x xs p ih None is true t h d m = absurd cc
none_step place x xs p ih None is false t h d (inl same) = let far : p < place x = leb-false (place x) p t in let e : place x ≡ place d = ap place same in omega arith
none_step place x xs p ih None is false t h d (inr n) = ih is d n

pub none_upto : (place : Extent → ℕ) (list : List Extent) (p : ℕ) → find_last (λ a. leb (place a) p) list ≡ None → (d : Extent) → Has list d → p < place d
none_upto place [] p is d m = absurd m
none_upto place (x ∷ xs) p is d m = none_step place x xs p (none_upto place xs p) (find_last (λ a. leb (place a) p) xs) refl (leb (place x) p) refl is d m

last_step : (place : Extent → ℕ) (x : Extent) (xs : List Extent) → IsRising (x ∷ xs) → (p : ℕ) (b : Extent) → ((y : Extent) → find_last (λ a. leb (place a) p) xs ≡ Some y → IsLast place xs p y) →
    (o : Option Extent) → find_last (λ a. leb (place a) p) xs ≡ o → (t : Bool) → leb (place x) p ≡ t → later_or o (cond t (Some x) None) ≡ Some b → IsLast place (x ∷ xs) p b
last_step place x xs r p b ih (Some y) is t e h =
    let same : y ≡ b = cc in
    let rest = ih y is in
    subst (IsLast place (x ∷ xs) p) same record {
      member = inr rest.member;
      near = rest.near;
      last = λ d m le. elim m [ inl first ↦ subst (λ z. IsFromOn z y) first (from_ahead x y (of_each (IsAhead x) xs y r.0 rest.member)) | inr n ↦ rest.last d n le ];
    }
last_step place x xs r p b ih None is false e h = absurd cc
last_step place x xs r p b ih None is true e h =
    let same : x ≡ b = cc in
    subst (IsLast place (x ∷ xs) p) same record {
      member = inl refl;
      near = leb-true (place x) p e;
      last = λ d m le. elim m [ inl first ↦ from_same d x (sym first) | inr n ↦ let far : p < place d = none_upto place xs p is d n in absurd (omega arith) ];
    }

pub found_last : (place : Extent → ℕ) (list : List Extent) → IsRising list → (p : ℕ) (b : Extent) → find_last (λ a. leb (place a) p) list ≡ Some b → IsLast place list p b
found_last place [] r p b is = absurd cc
found_last place (x ∷ xs) r p b is = last_step place x xs r p b (found_last place xs r.1 p) (find_last (λ a. leb (place a) p) xs) refl (leb (place x) p) refl is

-- of two members the one with the lesser place is ahead
pub ahead_by_place : (place : Extent → ℕ) → IsPlace place → (list : List Extent) → IsRising list → (a b : Extent) → Has list a → Has list b → place a < place b → IsAhead a b
ahead_by_place place rises [] r a b m n lt = absurd m
ahead_by_place place rises (x ∷ xs) r a b (inl p) (inl q) lt = let e : place a ≡ place b = ap place (sym p) ∙ ap place q in absurd (omega arith)
ahead_by_place place rises (x ∷ xs) r a b (inl p) (inr n) lt = subst (λ y. IsAhead y b) p (of_each (IsAhead x) xs b r.0 n)
ahead_by_place place rises (x ∷ xs) r a b (inr m) (inl q) lt = let h = rises b a (subst (λ y. IsAhead y a) q (of_each (IsAhead x) xs a r.0 m)) in absurd (omega arith)
ahead_by_place place rises (x ∷ xs) r a b (inr m) (inr n) lt = ahead_by_place place rises xs r.1 a b m n lt

-- of two members the one whose place is not less is the same or a later one
pub from_by_place : (place : Extent → ℕ) → IsPlace place → (list : List Extent) → IsRising list → (a c : Extent) → Has list a → Has list c → place a ≤ place c → IsFromOn a c
from_by_place place rises [] r a c m n le = absurd m
from_by_place place rises (x ∷ xs) r a c (inl p) (inl q) le = from_same a c (sym p ∙ q)
from_by_place place rises (x ∷ xs) r a c (inl p) (inr n) le = from_ahead a c (subst (λ y. IsAhead y c) p (of_each (IsAhead x) xs c r.0 n))
from_by_place place rises (x ∷ xs) r a c (inr m) (inl q) le = let h = rises c a (subst (λ y. IsAhead y a) q (of_each (IsAhead x) xs a r.0 m)) in absurd (omega arith)
from_by_place place rises (x ∷ xs) r a c (inr m) (inr n) le = from_by_place place rises xs r.1 a c m n le

-- c lies within a member
pub record LiesWithin (list : List Extent) (c : Extent) : Type 0 where
  pub outer : Extent
  pub member : Has list outer
  pub nested : Nested c outer

pub inside_tells : (list : List Extent) (c : Extent) → is_inside list c ≡ true → LiesWithin list c
inside_tells [] c e = absurd (true≢false (sym e))
inside_tells (x ∷ xs) c e =
    elim (or_cases (is_nested c x) (is_inside xs c) e) [
      | inl h ↦ record { outer = x; member = inl refl; nested = nested_tells c x h }
      | inr h ↦ let r = inside_tells xs c h in record { outer = r.outer; member = inr r.member; nested = r.nested }
    ]

pub inside_from : (list : List Extent) (b c : Extent) → Has list b → Nested c b → is_inside list c ≡ true
inside_from [] b c m h = absurd m
inside_from (x ∷ xs) b c (inl e) h = or_left (is_nested c x) (is_inside xs c) (nested_from c x (subst (λ y. Nested c y) (sym e) h))
inside_from (x ∷ xs) b c (inr m) h = or_right (is_nested c x) (is_inside xs c) (inside_from xs b c m h)

pub not_covered : (list : List Extent) (c : Extent) → ((d : Extent) → Has list d → Nested d c → ⊥) → covers list c ≡ false
not_covered list c h = false_from_ne_true (covers list c) (λ e. let w = covered_tells list c e in h w.by w.member w.nested)

pub not_inside : (list : List Extent) (c : Extent) → ((d : Extent) → Has list d → Nested c d → ⊥) → is_inside list c ≡ false
not_inside list c h = false_from_ne_true (is_inside list c) (λ e. let w = inside_tells list c e in h w.outer w.member w.nested)
