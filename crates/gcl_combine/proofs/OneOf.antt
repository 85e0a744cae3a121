-- The accesses of "one of": the best answer of its operands is as good as whatever one of them covers.
use Rattle.std.proofs.Common.{◌≡◌, ℕ, ◌≤◌, ◌⊎◌, Bool, true, false, ◌||◌, leb, List, [], ◌∷◌, map, Option, Some, None, refl, sym, ap, ◌∙◌, subst, arith, le_refl, inl, inr}
use Rattle.std.specs.List.{fold}
use Rattle.std.proofs.Math.Bool.{or-false, or_assoc}
use Rattle.std.proofs.lemmas.Bool.{true≢false, or_cases, or_from, or_left, or_right, leb-true, lt-ltb, le-ltb, cases_lt, false_from_ne_true}
use Rattle.gcl_model.specs.Extents.{Extent, extent, covers, IsRising}
use Rattle.gcl_model.specs.Texts.{Text}
use Rattle.gcl_model.specs.Forms.{Forms, one}
use Rattle.gcl_model.specs.Meaning.{concordance, operands}
use Rattle.gcl_model.specs.Access.{first_start, last_end}
use Rattle.gcl_model.proofs.Covers.{covers_by_first_start, covers_by_last_end, ends_by, starts_from, find_gives, find_last_gives, covered_tells, covered_from, same_member, first_start_reached, first_start_none, last_end_reached, last_end_none}
use Rattle.gcl_model.proofs.Meanings.{any_cover, covers_one, concordance_rises}
use Rattle.gcl_model.proofs.Reach.{AreRising, operands_of, operands_rise}
use Rattle.gcl_combine.specs.Better.{EndsFirst, StartsLast, best_forward, best_backward}
use Rattle.gcl_model.specs.Directions.{near_access}
use Rattle.gcl_model.specs.declared.direction.Direction.{Direction}
use Rattle.gcl_model.specs.declared.direction.Direction.TheVariants.{Forward, Backward}
use Rattle.gcl_combine.specs.Directions.{better}

-- c lies at or after k, in this direction
abbrev pub IsFrom : Direction → ℕ → Extent → Type 0
IsFrom Forward k c = k ≤ c.start
IsFrom Backward k c = c.end ≤ k

-- an answer a serves as well as c or better
abbrev pub IsAsGood : Direction → Extent → Extent → Type 0
IsAsGood Forward a c = EndsFirst a c
IsAsGood Backward a c = StartsLast a c

-- a is covered, and as good as whatever is covered at or after k
record IsBest (way : Direction) (cover : Extent → Bool) (k : ℕ) (a : Extent) : Type 0 where
  pub here : cover a ≡ true
  pub from : IsFrom way k a
  pub best : (c : Extent) → IsFrom way k c → cover c ≡ true → IsAsGood way a c

-- an answer is the best that is covered, and no answer means that nothing is covered
abbrev Answers : Direction → (Extent → Bool) → ℕ → Option Extent → Type 0
Answers way cover k None = (c : Extent) → IsFrom way k c → cover c ≡ false
Answers way cover k (Some a) = IsBest way cover k a

-- the access of a rising list gives the best that it covers
first_answers : (list : List Extent) → IsRising list → (k : ℕ) (o : Option Extent) → first_start list k ≡ o → Answers Forward (covers list) k o
first_answers list r k None is = λ c from. false_from_ne_true (covers list c) (λ e.
    let d = covered_tells list c e in
    let x : c.start ≤ d.by.start = d.nested.0 in
    let wide = covered_from list d.by (extent k c.end) d.member (omega arith, d.nested.1) in
    true≢false (sym wide ∙ covers_by_first_start list r k c.end ∙ ap (λ o. ends_by o c.end) is))
first_answers list r k (Some a) is =
    let m = find_gives (λ x. leb k x.start) list a is in
    record {
      here = covered_from list a a m.0 (le_refl a.start, le_refl a.end);
      from = leb-true k a.start m.1;
      best = λ c from e.
          let d = covered_tells list c e in
          let x : c.start ≤ d.by.start = d.nested.0 in
          let y : d.by.end ≤ c.end = d.nested.1 in
          let wide = covered_from list d.by (extent k d.by.end) d.member (omega arith, le_refl d.by.end) in
          let least : a.end ≤ d.by.end = leb-true a.end d.by.end (sym (covers_by_first_start list r k d.by.end ∙ ap (λ o. ends_by o d.by.end) is) ∙ wide) in
          elim (cases_lt a.end c.end) [
            | inl lt ↦ inl lt
            | inr ge ↦ elim (cases_lt a.start d.by.start) [
              | inl before ↦ let same : a ≡ d.by = same_member list r a d.by m.0 d.member (omega arith) (omega arith) in
                  let starts : a.start ≡ d.by.start = ap (λ y. y.start) same in absurd (omega arith)
              | inr after ↦ inr (omega arith, omega arith)
            ]
          ];
    }

last_answers : (list : List Extent) → IsRising list → (k : ℕ) (o : Option Extent) → last_end list k ≡ o → Answers Backward (covers list) k o
last_answers list r k None is = λ c from. false_from_ne_true (covers list c) (λ e.
    let d = covered_tells list c e in
    let y : d.by.end ≤ c.end = d.nested.1 in
    let wide = covered_from list d.by (extent c.start k) d.member (d.nested.0, omega arith) in
    true≢false (sym wide ∙ covers_by_last_end list r c.start k ∙ ap (λ o. starts_from o c.start) is))
last_answers list r k (Some a) is =
    let m = find_last_gives (λ x. leb x.end k) list a is in
    record {
      here = covered_from list a a m.0 (le_refl a.start, le_refl a.end);
      from = leb-true a.end k m.1;
      best = λ c from e.
          let d = covered_tells list c e in
          let x : c.start ≤ d.by.start = d.nested.0 in
          let y : d.by.end ≤ c.end = d.nested.1 in
          let wide = covered_from list d.by (extent d.by.start k) d.member (le_refl d.by.start, omega arith) in
          let most : d.by.start ≤ a.start = leb-true d.by.start a.start (sym (covers_by_last_end list r d.by.start k ∙ ap (λ o. starts_from o d.by.start) is) ∙ wide) in
          elim (cases_lt c.start a.start) [
            | inl lt ↦ inl lt
            | inr ge ↦ elim (cases_lt d.by.end a.end) [
              | inl before ↦ let same : a ≡ d.by = same_member list r a d.by m.0 d.member (omega arith) (omega arith) in
                  let ends : a.end ≡ d.by.end = ap (λ y. y.end) same in absurd (omega arith)
              | inr after ↦ inr (omega arith, omega arith)
            ]
          ];
    }

list_answers : (way : Direction) (list : List Extent) → IsRising list → (k : ℕ) → Answers way (covers list) k (near_access way list k)
list_answers Forward list r k = first_answers list r k (first_start list k) refl
list_answers Backward list r k = last_answers list r k (last_end list k) refl

-- and what gives the best is the access
answer_is : (way : Direction) (m : List Extent) → IsRising m → (k : ℕ) (o : Option Extent) → Answers way (covers m) k o → near_access way m k ≡ o
answer_is Forward m r k None never = first_start_none m r k (λ v. never (extent k v) (le_refl k))
answer_is Backward m r k None never = last_end_none m r k (λ u. never (extent u k) (le_refl k))
answer_is Forward m r k (Some a) t =
    let from : k ≤ a.start = t.from in
    let d = covered_tells m a t.here in
    let x : a.start ≤ d.by.start = d.nested.0 in
    first_start_reached m r k a.start a.end record {
      reached = covered_from m d.by (extent k a.end) d.member (omega arith, d.nested.1);
      least = λ w e. elim (t.best (extent k w) (le_refl k) e) [ inl lt ↦ omega arith | inr same ↦ let ends : a.end ≡ w = same.0 in omega arith ];
      back = t.here;
      greatest = λ w e. elim (cases_lt w k) [
        | inl lt ↦ omega arith
        | inr ge ↦ elim (t.best (extent w a.end) ge e) [ inl lt ↦ absurd (omega arith) | inr same ↦ same.1 ]
      ];
    }
answer_is Backward m r k (Some a) t =
    let from : a.end ≤ k = t.from in
    let d = covered_tells m a t.here in
    let y : d.by.end ≤ a.end = d.nested.1 in
    last_end_reached m r k a.start a.end record {
      reached = covered_from m d.by (extent a.start k) d.member (d.nested.0, omega arith);
      greatest = λ w e. elim (t.best (extent w k) (le_refl k) e) [ inl lt ↦ omega arith | inr same ↦ let starts : a.start ≡ w = same.0 in omega arith ];
      on = t.here;
      least = λ w e. elim (cases_lt k w) [
        | inl lt ↦ omega arith
        | inr ge ↦ elim (t.best (extent a.start w) ge e) [ inl lt ↦ absurd (omega arith) | inr same ↦ same.1 ]
      ];
    }

good_trans : (way : Direction) (a b c : Extent) → IsAsGood way a b → IsAsGood way b c → IsAsGood way a c
good_trans Forward a b c (inl p) (inl q) = inl (omega arith)
good_trans Forward a b c (inl p) (inr q) = let ends : b.end ≡ c.end = q.0 in inl (omega arith)
good_trans Forward a b c (inr p) (inl q) = let ends : a.end ≡ b.end = p.0 in inl (omega arith)
good_trans Forward a b c (inr p) (inr q) = let x : b.start ≤ a.start = p.1 in let y : c.start ≤ b.start = q.1 in inr (p.0 ∙ q.0, omega arith)
good_trans Backward a b c (inl p) (inl q) = inl (omega arith)
good_trans Backward a b c (inl p) (inr q) = let starts : b.start ≡ c.start = q.0 in inl (omega arith)
good_trans Backward a b c (inr p) (inl q) = let starts : a.start ≡ b.start = p.0 in inl (omega arith)
good_trans Backward a b c (inr p) (inr q) = let x : a.end ≤ b.end = p.1 in let y : b.end ≤ c.end = q.1 in inr (p.0 ∙ q.0, omega arith)

-- of two answers the better one
better_picks : (way : Direction) (a b : Extent) → ((better way (Some a) (Some b) ≡ Some a) × IsAsGood way a b) ⊎ ((better way (Some a) (Some b) ≡ Some b) × IsAsGood way b a)
better_picks Forward a b =
    elim (cases_lt a.end b.end) [
      | inl lt ↦ rw (lt-ltb a.end b.end lt) (inl (refl, inl lt))
      | inr ge ↦ rw (le-ltb a.end b.end ge) (elim (cases_lt b.end a.end) [
        | inl lt ↦ rw (lt-ltb b.end a.end lt) (inr (refl, inl lt))
        | inr le ↦ rw (le-ltb b.end a.end le) (elim (cases_lt a.start b.start) [
          | inl lt ↦ rw (lt-ltb a.start b.start lt) (inr (refl, inr (omega arith, omega arith)))
          | inr before ↦ rw (le-ltb a.start b.start before) (inl (refl, inr (omega arith, before)))
        ])
      ])
    ]
better_picks Backward a b =
    elim (cases_lt b.start a.start) [
      | inl lt ↦ rw (lt-ltb b.start a.start lt) (inl (refl, inl lt))
      | inr ge ↦ rw (le-ltb b.start a.start ge) (elim (cases_lt a.start b.start) [
        | inl lt ↦ rw (lt-ltb a.start b.start lt) (inr (refl, inl lt))
        | inr le ↦ rw (le-ltb a.start b.start le) (elim (cases_lt b.end a.end) [
          | inl lt ↦ rw (lt-ltb b.end a.end lt) (inr (refl, inr (omega arith, omega arith)))
          | inr before ↦ rw (le-ltb b.end a.end before) (inl (refl, inr (omega arith, before)))
        ])
      ])
    ]

-- the better of two answers is the best of what either list covers
both_answer : (way : Direction) (f g : Extent → Bool) (k : ℕ) (a b : Extent) → IsBest way f k a → IsBest way g k b → Answers way (λ c. f c || g c) k (better way (Some a) (Some b))
both_answer way f g k a b s t = elim (better_picks way a b) [
  | inl p ↦ subst (Answers way (λ c. f c || g c) k) (sym p.0) record {
    here = or_left (f a) (g a) s.here;
    from = s.from;
    best = λ c from e. elim (or_cases (f c) (g c) e) [ inl x ↦ s.best c from x | inr y ↦ good_trans way a b c p.1 (t.best c from y) ];
  }
  | inr p ↦ subst (Answers way (λ c. f c || g c) k) (sym p.0) record {
    here = or_right (f b) (g b) t.here;
    from = t.from;
    best = λ c from e. elim (or_cases (f c) (g c) e) [ inl x ↦ good_trans way b a c p.1 (s.best c from x) | inr y ↦ t.best c from y ];
  }
]

first_answers_only : (way : Direction) (f g : Extent → Bool) (k : ℕ) (a : Extent) → IsBest way f k a → ((c : Extent) → IsFrom way k c → g c ≡ false) → IsBest way (λ c. f c || g c) k a
first_answers_only way f g k a s never = record {
  here = or_left (f a) (g a) s.here;
  from = s.from;
  best = λ c from e. elim (or_cases (f c) (g c) e) [ inl x ↦ s.best c from x | inr y ↦ absurd (true≢false (sym y ∙ never c from)) ];
}

second_answers_only : (way : Direction) (f g : Extent → Bool) (k : ℕ) (b : Extent) → ((c : Extent) → IsFrom way k c → f c ≡ false) → IsBest way g k b → IsBest way (λ c. f c || g c) k b
second_answers_only way f g k b never t = record {
  here = or_right (f b) (g b) t.here;
  from = t.from;
  best = λ c from e. elim (or_cases (f c) (g c) e) [ inl x ↦ absurd (true≢false (sym x ∙ never c from)) | inr y ↦ t.best c from y ];
}

better-none : (way : Direction) (o : Option Extent) → better way None o ≡ o
better-none Forward o = refl
better-none Backward o = refl

better-alone : (way : Direction) (a : Extent) → better way (Some a) None ≡ Some a
better-alone Forward a = refl
better-alone Backward a = refl

better_answers : (way : Direction) (f g : Extent → Bool) (k : ℕ) (o p : Option Extent) → Answers way f k o → Answers way g k p → Answers way (λ c. f c || g c) k (better way o p)
better_answers way f g k None None s t = subst (Answers way (λ c. f c || g c) k) (sym (better-none way None)) (λ c from. or_from (f c) (g c) (s c from) (t c from))
better_answers way f g k None (Some b) s t = subst (Answers way (λ c. f c || g c) k) (sym (better-none way (Some b))) (second_answers_only way f g k b s t)
better_answers way f g k (Some a) None s t = subst (Answers way (λ c. f c || g c) k) (sym (better-alone way a)) (first_answers_only way f g k a s t)
better_answers way f g k (Some a) (Some b) s t = both_answer way f g k a b s t

same_answers : (way : Direction) (f g : Extent → Bool) (k : ℕ) (o : Option Extent) → ((c : Extent) → f c ≡ g c) → Answers way g k o → Answers way f k o
same_answers way f g k None same t = λ c from. same c ∙ t c from
same_answers way f g k (Some a) same t = record { here = same a ∙ t.here; from = t.from; best = λ c from e. t.best c from (sym (same c) ∙ e) }

-- the best so far, and then the best of the lists too
best_answers : (way : Direction) (lists : List (List Extent)) → AreRising lists → (f : Extent → Bool) (k : ℕ) (best : Option Extent) → Answers way f k best →
    Answers way (λ c. f c || any_cover lists c) k (fold (better way) best (map (λ list. near_access way list k) lists))
best_answers way [] r f k best t = same_answers way (λ c. f c || false) f k best (λ c. or-false (f c)) t
best_answers way (list ∷ lists) r f k best t =
    same_answers way (λ c. f c || (covers list c || any_cover lists c)) (λ c. (f c || covers list c) || any_cover lists c) k
    (fold (better way) (better way best (near_access way list k)) (map (λ list. near_access way list k) lists))
    (λ c. sym (or_assoc (f c) (covers list c) (any_cover lists c)))
    (best_answers way lists r.1 (λ c. f c || covers list c) k (better way best (near_access way list k)) (better_answers way f (covers list) k best (near_access way list k) t (list_answers way list r.0 k)))

one_answer : (way : Direction) (text : Text) (forms : Forms) (k : ℕ) → near_access way (concordance text (one forms)) k ≡ fold (better way) None (map (λ list. near_access way list k) (operands text forms))
one_answer way text forms k =
    let best = fold (better way) None (map (λ list. near_access way list k) (operands text forms)) in
    answer_is way (concordance text (one forms)) (concordance_rises text (one forms)) k best
    (same_answers way (covers (concordance text (one forms))) (any_cover (operands text forms)) k best
    (covers_one text (operands text forms) (operands_of text forms))
    (best_answers way (operands text forms) (operands_rise text forms) (λ _. false) k None (λ c from. refl)))

pub first_start-one : (text : Text) (forms : Forms) (k : ℕ) → first_start (concordance text (one forms)) k ≡ best_forward (operands text forms) k None
first_start-one = one_answer Forward

pub last_end-one : (text : Text) (forms : Forms) (k : ℕ) → last_end (concordance text (one forms)) k ≡ best_backward (operands text forms) k None
last_end-one = one_answer Backward
