-- The accesses of "followed by" by the far sides: from the last operand's or the first one's, back through the others, and again.
use Rattle.std.proofs.Common.{◌≡◌, ℕ, zero, suc, ◌+◌, ◌<◌, ◌≤◌, Bool, true, false, leb, List, [], ◌∷◌, ◌++◌, Option, Some, None, ◌⊎◌, inl, inr, refl, sym, ap, ◌∙◌, subst, arith, le_refl, find}
use Rattle.std.specs.Prelude.{if◌then◌else◌}
use Rattle.std.specs.List.{AllByRecursion}
use Rattle.std.specs.Option.{option_map, option_and_then}
use Rattle.std.proofs.lemmas.Bool.{true≢false, leb-true, le-leb, lt-leb, cases_lt, cases_Bool}
use Rattle.gcl_model.specs.Extents.{Extent, extent, covers, IsAhead, IsRising}
use Rattle.gcl_model.specs.Texts.{Text}
use Rattle.gcl_model.specs.Forms.{Forms, seq}
use Rattle.gcl_model.specs.Meaning.{concordance, denotes, operands}
use Rattle.gcl_model.specs.Access.{find_last, first_start, first_end, last_end, last_start}
use Rattle.gcl_model.specs.Rules.{end_of, start_of}
use Rattle.gcl_model.proofs.Covers.{Has, of_each, find_gives, find_last_gives, find_agree_on, find_last_agree_on, covered_from, covered_tells}
use Rattle.gcl_model.proofs.Minimal.{same_truth}
use Rattle.gcl_model.proofs.Meanings.{IsOf, each_of_text, concordance_rises}
use Rattle.gcl_model.proofs.Reach.{Reaches, at_most, at_least, operands_rise}
use Rattle.gcl_order.proofs.InOrder.{seq_end, seq_start, seq_node, first_start-seq, last_end-seq}
use Rattle.gcl_order.proofs.SeqAccess.{within_member, first_start-member, last_end-member, walk_on, forward_member, backward_member, some_forms, rise_at, rise_first, start_back, end_on, seq_forward, seq_backward}
use Rattle.gcl_order.specs.Walks.{address_before, joined, walk_forward, walk_backward, first_past, last_short_of, forward_again, back_again, from_last, from_first}

-- if a search finds nothing, no member passes
none_passes : (test : Extent → Bool) (list : List Extent) → find test list ≡ None → (d : Extent) → Has list d → test d ≡ true → ⊥
none_passes test [] is d m t = absurd m
none_passes test (x ∷ xs) is d (inl e) t = let here : test x ≡ true = subst (λ y. test y ≡ true) (sym e) t in let h = rw here at is in absurd cc
none_passes test (x ∷ xs) is d (inr m) t =
    elim (cases_Bool (test x)) [
      | inl h ↦ let i = rw h at is in absurd cc
      | inr f ↦ none_passes test xs (rw f at is) d m t
    ]

-- the first member that passes ends no later than any other that does
first_ends_least : (test : Extent → Bool) (list : List Extent) → IsRising list → (a : Extent) → find test list ≡ Some a → (d : Extent) → Has list d → test d ≡ true → a.end ≤ d.end
first_ends_least test [] r a is d m t = absurd m
first_ends_least test (x ∷ xs) r a is d (inl e) t =
    let here : test x ≡ true = subst (λ y. test y ≡ true) (sym e) t in
    let found : x ≡ a = let h = rw here at is in cc in
    let p = ap (λ (y : Extent). y.end) found in
    let q = ap (λ (y : Extent). y.end) e in
    omega arith
first_ends_least test (x ∷ xs) r a is d (inr m) t =
    elim (cases_Bool (test x)) [
      | inl h ↦
          let found : x ≡ a = let i = rw h at is in cc in
          let p = ap (λ (y : Extent). y.end) found in
          let ahead : x.end < d.end = (of_each (IsAhead x) xs d r.0 m).1 in
          omega arith
      | inr f ↦ first_ends_least test xs r.1 a (rw f at is) d m t
    ]

-- if a search for the last finds nothing, each member fails
last_none : (test : Extent → Bool) (list : List Extent) → find_last test list ≡ None → AllByRecursion (λ a. test a ≡ false) list
last_none test [] is = tt
last_none test (x ∷ xs) is = parts (find_last test xs) refl (cases_Bool (test x)) (last_none test xs)
  where
    parts : (o : Option Extent) → find_last test xs ≡ o → (test x ≡ true) ⊎ (test x ≡ false) → (find_last test xs ≡ None → AllByRecursion (λ a. test a ≡ false) xs) → (test x ≡ false) × AllByRecursion (λ a. test a ≡ false) xs
    parts None rest (inl t) ih = let h = rw (rest, t) at is in absurd cc
    parts None rest (inr f) ih = (f, ih rest)
    parts (Some y) rest b ih = let h = rw rest at is in absurd cc

greatest_step : (test : Extent → Bool) (x : Extent) (xs : List Extent) → AllByRecursion (IsAhead x) xs →
    ((a : Extent) → find_last test xs ≡ Some a → (d : Extent) → Has xs d → test d ≡ true → d.start ≤ a.start) →
    (o : Option Extent) → find_last test xs ≡ o → (a : Extent) → find_last test (x ∷ xs) ≡ Some a → (d : Extent) → Has (x ∷ xs) d → test d ≡ true → d.start ≤ a.start
greatest_step test x xs all ih None rest a is d (inl e) t =
    let here : test x ≡ true = subst (λ y. test y ≡ true) (sym e) t in
    let found : x ≡ a = let h = rw (rest, here) at is in cc in
    let p = ap (λ (y : Extent). y.start) found in
    let q = ap (λ (y : Extent). y.start) e in
    omega arith
greatest_step test x xs all ih None rest a is d (inr m) t = absurd (true≢false (sym t ∙ of_each (λ b. test b ≡ false) xs d (last_none test xs rest) m))
greatest_step test x xs all ih (Some y) rest a is d (inl e) t =
    let found : y ≡ a = let h = rw rest at is in cc in
    let ahead : x.start < y.start = (of_each (IsAhead x) xs y all (find_last_gives test xs y rest).0).0 in
    let p = ap (λ (z : Extent). z.start) found in
    let q = ap (λ (z : Extent). z.start) e in
    omega arith
greatest_step test x xs all ih (Some y) rest a is d (inr m) t = let found : y ≡ a = let h = rw rest at is in cc in ih a (rest ∙ ap Some found) d m t

-- the last member that passes starts no earlier than any other that does
last_starts_greatest : (test : Extent → Bool) (list : List Extent) → IsRising list → (a : Extent) → find_last test list ≡ Some a → (d : Extent) → Has list d → test d ≡ true → d.start ≤ a.start
last_starts_greatest test [] r a is d m t = absurd m
last_starts_greatest test (x ∷ xs) r a is d m t = greatest_step test x xs r.0 (last_starts_greatest test xs r.1) (find_last test xs) refl a is d m t

-- if all members start by k and end before the next address, the last that starts by k is the last of all
pub last_start_all : (list : List Extent) (next k : ℕ) → ((c : Extent) → Has list c → (c.start ≤ k) × (c.end < next)) → last_start list k ≡ option_and_then (last_end list) (address_before next)
last_start_all [] zero k all = refl
last_start_all (x ∷ xs) zero k all = let h = (all x (inl refl)).1 in absurd (omega arith)
last_start_all list (suc v) k all = find_last_agree_on (λ a. leb a.start k) (λ a. leb a.end v) list (λ c m. let h = all c m in let s : c.start ≤ k = h.0 in let e : c.end < suc v = h.1 in le-leb c.start k s ∙ sym (le-leb c.end v (omega arith)))

-- a joined interval ends with its tail and starts with its head
joined_ends : (t : Extent) (o : Option Extent) (c : Extent) → option_map (λ head. joined head t) o ≡ Some c → t.end ≡ c.end
joined_ends t None c e = absurd cc
joined_ends t (Some h) c e = let is : joined h t ≡ c = cc in ap (λ (y : Extent). y.end) is

joined_starts : (h : Extent) (o : Option Extent) (c : Extent) → option_map (λ tail. joined h tail) o ≡ Some c → h.start ≡ c.start
joined_starts h None c e = absurd cc
joined_starts h (Some t) c e = let is : joined h t ≡ c = cc in ap (λ (y : Extent). y.start) is

module _ (text : Text) (forms : Forms) (first last : List Extent) (rest front : List (List Extent)) (as_first : operands text forms ≡ first ∷ rest) (as_last : operands text forms ≡ front ++ last ∷ []) where
  node_reaches : Reaches (concordance text (seq forms)) (seq_end (operands text forms)) (seq_start (operands text forms))
  node_reaches = seq_node text forms (some_forms text forms first rest as_first)

  of_text : (c : Extent) → Has (concordance text (seq forms)) c → IsOf text c
  of_text c n = of_each (IsOf text) (concordance text (seq forms)) c (each_of_text text (denotes text (seq forms))) n

  back_from : (t : Extent) → Has last t → (o : Option Extent) → walk_backward front t ≡ o → (u : ℕ) → covers (concordance text (seq forms)) (extent u t.end) ≡ at_least (start_of o) u
  back_from t m o is u = node_reaches.backward_is u t.end ∙ ap (λ s. at_least s u) (start_back text forms first last rest front as_first as_last t m ∙ ap start_of is)

  on_from : (h : Extent) → Has first h → (o : Option Extent) → walk_forward rest h ≡ o → (w : ℕ) → covers (concordance text (seq forms)) (extent h.start w) ≡ at_most (end_of o) w
  on_from h m o is w = node_reaches.forward_is h.start w ∙ ap (λ v. at_most v w) (end_on text forms first last rest front as_first as_last h m ∙ ap end_of is)

  -- if no way leads back from a tail, no member ends by its end
  none_ends_by : (t : Extent) → Has last t → walk_backward front t ≡ None → (c : Extent) → Has (concordance text (seq forms)) c → c.end ≤ t.end → ⊥
  none_ends_by t m is c n le = true≢false (sym (covered_from (concordance text (seq forms)) c (extent c.start t.end) n (le_refl c.start, le)) ∙ back_from t m None is c.start)

  -- and if one does, each member that ends by the tail's end starts by the head's start
  starts_by_head : (t : Extent) → Has last t → (h : Extent) → walk_backward front t ≡ Some h → (c : Extent) → Has (concordance text (seq forms)) c → c.end ≤ t.end → c.start ≤ h.start
  starts_by_head t m h is c n le = leb-true c.start h.start (sym (back_from t m (Some h) is c.start) ∙ covered_from (concordance text (seq forms)) c (extent c.start t.end) n (le_refl c.start, le))

  none_starts_from : (h : Extent) → Has first h → walk_forward rest h ≡ None → (c : Extent) → Has (concordance text (seq forms)) c → h.start ≤ c.start → ⊥
  none_starts_from h m is c n le = true≢false (sym (covered_from (concordance text (seq forms)) c (extent h.start c.end) n (le, le_refl c.end)) ∙ on_from h m None is c.end)

  ends_from_tail : (h : Extent) → Has first h → (t : Extent) → walk_forward rest h ≡ Some t → (c : Extent) → Has (concordance text (seq forms)) c → h.start ≤ c.start → t.end ≤ c.end
  ends_from_tail h m t is c n le = leb-true t.end c.end (sym (on_from h m (Some t) is c.end) ∙ covered_from (concordance text (seq forms)) c (extent h.start c.end) n (le, le_refl c.end))

  -- a way covers a member from its head to its tail
  back_covers : (t : Extent) → Has last t → (h : Extent) → walk_backward front t ≡ Some h → covers (concordance text (seq forms)) (extent h.start t.end) ≡ true
  back_covers t m h is = back_from t m (Some h) is h.start ∙ le-leb h.start h.start (le_refl h.start)

  on_covers : (h : Extent) → Has first h → (t : Extent) → walk_forward rest h ≡ Some t → covers (concordance text (seq forms)) (extent h.start t.end) ≡ true
  on_covers h m t is = on_from h m (Some t) is t.end ∙ le-leb t.end t.end (le_refl t.end)

  last_rises : IsRising last
  last_rises = rise_at (operands text forms) (operands_rise text forms) front last as_last

  first_rises : IsRising first
  first_rises = rise_first (operands text forms) (operands_rise text forms) first rest as_first

  tail_from : (c : Extent) (o : Option Extent) → option_and_then (walk_forward rest) (first_start first c.start) ≡ o →
      option_and_then (λ tail. option_map (λ head. joined head tail) (walk_backward front tail)) o ≡ Some c → (t : Extent) × Has last t × (t.end ≡ c.end)
  tail_from c None at is = absurd cc
  tail_from c (Some t) at is =
      let on = walk_on rest (first_start first c.start) t at in
      let m = find_gives (λ y. leb c.start y.start) first on.0 on.1 in
      (t, forward_member front first rest last on.0 t (sym as_first ∙ as_last) m.0 on.2, joined_ends t (walk_backward front t) c is)

  -- each member ends with a member of the last list
  tail_of : (c : Extent) → Has (concordance text (seq forms)) c → (t : Extent) × Has last t × (t.end ≡ c.end)
  tail_of c n =
      tail_from c (option_and_then (walk_forward rest) (first_start first c.start)) refl
      (sym (seq_forward text forms first last rest front as_first as_last c.start) ∙ first_start-member (concordance text (seq forms)) (concordance_rises text (seq forms)) c n)

  head_from : (c : Extent) (a o : Option Extent) → last_end last c.end ≡ a → option_and_then (walk_backward front) a ≡ o →
      option_and_then (λ head. option_map (λ tail. joined head tail) (walk_forward rest head)) o ≡ Some c → (h : Extent) × Has first h × (h.start ≡ c.start)
  head_from c a None at back is = absurd cc
  head_from c None (Some h) at back is = absurd cc
  head_from c (Some b) (Some h) at back is =
      let m = find_last_gives (λ y. leb y.end c.end) last b at in
      (h, backward_member front first rest last b h (sym as_first ∙ as_last) m.0 back, joined_starts h (walk_forward rest h) c is)

  -- and starts with a member of the first one
  head_of : (c : Extent) → Has (concordance text (seq forms)) c → (h : Extent) × Has first h × (h.start ≡ c.start)
  head_of c n =
      head_from c (last_end last c.end) (option_and_then (walk_backward front) (last_end last c.end)) refl refl
      (sym (seq_backward text forms first last rest front as_first as_last c.end) ∙ last_end-member (concordance text (seq forms)) (concordance_rises text (seq forms)) c n)

  -- forward: if the last list has no member that ends at k or later, there is none
  forward_none : (k : ℕ) → first_end last k ≡ None → (o : Option Extent) → first_end (concordance text (seq forms)) k ≡ o → first_end (concordance text (seq forms)) k ≡ None
  forward_none k none None is = is
  forward_none k none (Some c) is =
      let found = find_gives (λ x. leb k x.end) (concordance text (seq forms)) c is in
      let tail = tail_of c found.0 in
      let ends : tail.0.end ≡ c.end = tail.2 in
      let far : k ≤ c.end = leb-true k c.end found.1 in
      absurd (none_passes (λ x. leb k x.end) last none tail.0 tail.1 (le-leb k tail.0.end (omega arith)))

  module _ (k : ℕ) (l : Extent) (is : first_end last k ≡ Some l) where
    at_last : Has last l
    at_last = (find_gives (λ x. leb k x.end) last l is).0

    at_k : k ≤ l.end
    at_k = leb-true k l.end (find_gives (λ x. leb k x.end) last l is).1

    -- with no way back, all members end at k or later
    forward_edge : walk_backward front l ≡ None → first_end (concordance text (seq forms)) k ≡ first_start (concordance text (seq forms)) text.first
    forward_edge none =
        find_agree_on (λ a. leb k a.end) (λ a. leb text.first a.start) (concordance text (seq forms)) (λ c n.
        let above : text.first ≤ c.start = (of_text c n).above in
        elim (cases_lt c.end k) [
          | inl lt ↦ let at = at_k in absurd (none_ends_by l at_last none c n (omega arith))
          | inr ge ↦ le-leb k c.end ge ∙ sym (le-leb text.first c.start above)
        ])

    module _ (h : Extent) (back : walk_backward front l ≡ Some h) where
      at_first : Has first h
      at_first = backward_member front first rest last l h (sym as_first ∙ as_last) at_last back

      -- if the way forward ends before k, the members that end at k or later are those that start past the head
      forward_past : (t : Extent) → walk_forward rest h ≡ Some t → t.end < k → first_end (concordance text (seq forms)) k ≡ first_start (concordance text (seq forms)) (h.start + 1)
      forward_past t on before =
          find_agree_on (λ a. leb k a.end) (λ a. leb (h.start + 1) a.start) (concordance text (seq forms)) (λ c n.
          same_truth (leb k c.end) (leb (h.start + 1) c.start)
          (λ e.
          let far : k ≤ c.end = leb-true k c.end e in
          elim (cases_lt h.start c.start) [
            | inl lt ↦ le-leb (h.start + 1) c.start (omega arith)
            | inr ge ↦ let short : c.end ≤ t.end = (within_member (concordance text (seq forms)) (concordance_rises text (seq forms)) c n h.start t.end ge (omega arith) (on_covers h at_first t on)).1 in absurd (omega arith)
          ])
          (λ e.
          let later : h.start + 1 ≤ c.start = leb-true (h.start + 1) c.start e in
          elim (cases_lt c.end k) [
            | inl lt ↦ let at = at_k in let starts : c.start ≤ h.start = starts_by_head l at_last h back c n (omega arith) in absurd (omega arith)
            | inr ge ↦ le-leb k c.end ge
          ]))

      -- if it ends at k or later, it ends where the way began
      same_end : (t : Extent) → walk_forward rest h ≡ Some t → k ≤ t.end → t.end ≡ l.end
      same_end t on far =
          let tail : Has last t = forward_member front first rest last h t (sym as_first ∙ as_last) at_first on in
          let least : l.end ≤ t.end = first_ends_least (λ x. leb k x.end) last last_rises l is t tail (le-leb k t.end far) in
          let most : t.end ≤ l.end = leb-true t.end l.end (sym (on_from h at_first (Some t) on l.end) ∙ back_covers l at_last h back) in
          omega arith

      -- and the members that end at k or later are those that start at the head or later
      forward_ends : (t : Extent) → walk_forward rest h ≡ Some t → k ≤ t.end → first_end (concordance text (seq forms)) k ≡ first_start (concordance text (seq forms)) h.start
      forward_ends t on far =
          find_agree_on (λ a. leb k a.end) (λ a. leb h.start a.start) (concordance text (seq forms)) (λ c n.
          same_truth (leb k c.end) (leb h.start c.start)
          (λ e.
          let ends : k ≤ c.end = leb-true k c.end e in
          let tail = tail_of c n in
          let with_tail : tail.0.end ≡ c.end = tail.2 in
          let least : l.end ≤ tail.0.end = first_ends_least (λ x. leb k x.end) last last_rises l is tail.0 tail.1 (le-leb k tail.0.end (omega arith)) in
          let same : t.end ≡ l.end = same_end t on far in
          elim (cases_lt c.start h.start) [
            | inl lt ↦ let starts : h.start ≤ c.start = (within_member (concordance text (seq forms)) (concordance_rises text (seq forms)) c n h.start t.end (omega arith) (omega arith) (on_covers h at_first t on)).0 in absurd (omega arith)
            | inr ge ↦ le-leb h.start c.start ge
          ])
          (λ e.
          let later : h.start ≤ c.start = leb-true h.start c.start e in
          let ends : t.end ≤ c.end = ends_from_tail h at_first t on c n later in
          le-leb k c.end (omega arith)))

      forward_joined : (t : Extent) → walk_forward rest h ≡ Some t → k ≤ t.end → first_end (concordance text (seq forms)) k ≡ Some (joined h t)
      forward_joined t on far =
          forward_ends t on far
          ∙ first_start-seq text forms (some_forms text forms first rest as_first) h.start
          ∙ ap (option_and_then (λ v. option_map (λ u. extent u v) (seq_start (operands text forms) v))) (end_on text forms first last rest front as_first as_last h at_first ∙ ap end_of on)
          ∙ ap (option_map (λ u. extent u t.end)) (ap (seq_start (operands text forms)) (same_end t on far) ∙ start_back text forms first last rest front as_first as_last l at_last ∙ ap start_of back)

      forward_cases : (o : Option Extent) → walk_forward rest h ≡ o →
          first_end (concordance text (seq forms)) k ≡ option_and_then (λ tail. if leb k tail.end then Some (joined h tail) else first_past (concordance text (seq forms)) text.first (Some h)) o
      forward_cases None on = absurd (true≢false (sym (back_covers l at_last h back) ∙ on_from h at_first None on l.end))
      forward_cases (Some t) on =
          elim (cases_lt t.end k) [
            | inl lt ↦ rw (lt-leb k t.end lt) (forward_past t on lt)
            | inr ge ↦ rw (le-leb k t.end ge) (forward_joined t on ge)
          ]

    forward_back : (o : Option Extent) → walk_backward front l ≡ o → first_end (concordance text (seq forms)) k ≡ forward_again (concordance text (seq forms)) rest text.first k o
    forward_back None none = forward_edge none
    forward_back (Some h) back = forward_cases h back (walk_forward rest h) refl

  forward_far : (k : ℕ) (o : Option Extent) → first_end last k ≡ o →
      first_end (concordance text (seq forms)) k ≡ option_and_then (λ tail. forward_again (concordance text (seq forms)) rest text.first k (walk_backward front tail)) o
  forward_far k None none = forward_none k none (first_end (concordance text (seq forms)) k) refl
  forward_far k (Some l) is = forward_back k l is (walk_backward front l) refl

  pub seq_from_last : (k : ℕ) → first_end (concordance text (seq forms)) k ≡ from_last (concordance text (seq forms)) last rest front text.first k
  seq_from_last k = forward_far k (first_end last k) refl

  -- backward: if the first list has no member that starts at k or before, there is none
  backward_none : (k : ℕ) → last_start first k ≡ None → (o : Option Extent) → last_start (concordance text (seq forms)) k ≡ o → last_start (concordance text (seq forms)) k ≡ None
  backward_none k none None is = is
  backward_none k none (Some c) is =
      let found = find_last_gives (λ x. leb x.start k) (concordance text (seq forms)) c is in
      let head = head_of c found.0 in
      let starts : head.0.start ≡ c.start = head.2 in
      let far : c.start ≤ k = leb-true c.start k found.1 in
      absurd (true≢false (sym (le-leb head.0.start k (omega arith)) ∙ of_each (λ x. leb x.start k ≡ false) first head.0 (last_none (λ x. leb x.start k) first none) head.1))

  module _ (k : ℕ) (l : Extent) (is : last_start first k ≡ Some l) where
    head_here : Has first l
    head_here = (find_last_gives (λ x. leb x.start k) first l is).0

    head_by_k : l.start ≤ k
    head_by_k = leb-true l.start k (find_last_gives (λ x. leb x.start k) first l is).1

    -- with no way on, all members start at k or before
    backward_edge : walk_forward rest l ≡ None → last_start (concordance text (seq forms)) k ≡ option_and_then (last_end (concordance text (seq forms))) (address_before text.next)
    backward_edge none =
        last_start_all (concordance text (seq forms)) text.next k (λ c n.
        let below : c.end < text.next = (of_text c n).below in
        elim (cases_lt k c.start) [
          | inl lt ↦ let at = head_by_k in absurd (none_starts_from l head_here none c n (omega arith))
          | inr ge ↦ (ge, below)
        ])

    module _ (t : Extent) (on : walk_forward rest l ≡ Some t) where
      tail_there : Has last t
      tail_there = forward_member front first rest last l t (sym as_first ∙ as_last) head_here on

      -- if the way back starts after k, the members that start at k or before are those that end before the tail does
      backward_short : (h : Extent) → walk_backward front t ≡ Some h → k < h.start → (n : ℕ) → t.end ≡ n → last_start (concordance text (seq forms)) k ≡ option_and_then (last_end (concordance text (seq forms))) (address_before n)
      backward_short h back after zero end =
          let d = covered_tells (concordance text (seq forms)) (extent h.start t.end) (back_covers t tail_there h back) in
          let u : h.start ≤ d.by.start = d.nested.0 in
          let v : d.by.end ≤ t.end = d.nested.1 in
          let proper : d.by.start ≤ d.by.end = (of_text d.by d.member).proper in
          absurd (omega arith)
      backward_short h back after (suc v) end =
          find_last_agree_on (λ a. leb a.start k) (λ a. leb a.end v) (concordance text (seq forms)) (λ c n.
          same_truth (leb c.start k) (leb c.end v)
          (λ e.
          let starts : c.start ≤ k = leb-true c.start k e in
          elim (cases_lt c.end t.end) [
            | inl lt ↦ le-leb c.end v (omega arith)
            | inr ge ↦ let late : h.start ≤ c.start = (within_member (concordance text (seq forms)) (concordance_rises text (seq forms)) c n h.start t.end (omega arith) ge (back_covers t tail_there h back)).0 in absurd (omega arith)
          ])
          (λ e.
          let ends : c.end ≤ v = leb-true c.end v e in
          elim (cases_lt k c.start) [
            | inl lt ↦ let at = head_by_k in let far : t.end ≤ c.end = ends_from_tail l head_here t on c n (omega arith) in absurd (omega arith)
            | inr ge ↦ le-leb c.start k ge
          ]))

      same_start : (h : Extent) → walk_backward front t ≡ Some h → h.start ≤ k → h.start ≡ l.start
      same_start h back near =
          let head : Has first h = backward_member front first rest last t h (sym as_first ∙ as_last) tail_there back in
          let greatest : h.start ≤ l.start = last_starts_greatest (λ x. leb x.start k) first first_rises l is h head (le-leb h.start k near) in
          let least : l.start ≤ h.start = leb-true l.start h.start (sym (back_from t tail_there (Some h) back l.start) ∙ on_covers l head_here t on) in
          omega arith

      -- if it starts at k or before, they are those that end at the tail's end or before
      backward_starts : (h : Extent) → walk_backward front t ≡ Some h → h.start ≤ k → last_start (concordance text (seq forms)) k ≡ last_end (concordance text (seq forms)) t.end
      backward_starts h back near =
          find_last_agree_on (λ a. leb a.start k) (λ a. leb a.end t.end) (concordance text (seq forms)) (λ c n.
          same_truth (leb c.start k) (leb c.end t.end)
          (λ e.
          let starts : c.start ≤ k = leb-true c.start k e in
          let head = head_of c n in
          let with_head : head.0.start ≡ c.start = head.2 in
          let greatest : head.0.start ≤ l.start = last_starts_greatest (λ x. leb x.start k) first first_rises l is head.0 head.1 (le-leb head.0.start k (omega arith)) in
          let same : h.start ≡ l.start = same_start h back near in
          elim (cases_lt t.end c.end) [
            | inl lt ↦ let ends : c.end ≤ t.end = (within_member (concordance text (seq forms)) (concordance_rises text (seq forms)) c n h.start t.end (omega arith) (omega arith) (back_covers t tail_there h back)).1 in absurd (omega arith)
            | inr ge ↦ le-leb c.end t.end ge
          ])
          (λ e.
          let ends : c.end ≤ t.end = leb-true c.end t.end e in
          let starts : c.start ≤ h.start = starts_by_head t tail_there h back c n ends in
          le-leb c.start k (omega arith)))

      backward_joined : (h : Extent) → walk_backward front t ≡ Some h → h.start ≤ k → last_start (concordance text (seq forms)) k ≡ Some (joined h t)
      backward_joined h back near =
          backward_starts h back near
          ∙ last_end-seq text forms (some_forms text forms first rest as_first) t.end
          ∙ ap (option_and_then (λ u. option_map (λ v. extent u v) (seq_end (operands text forms) u))) (start_back text forms first last rest front as_first as_last t tail_there ∙ ap start_of back)
          ∙ ap (option_map (λ v. extent h.start v)) (ap (seq_end (operands text forms)) (same_start h back near) ∙ end_on text forms first last rest front as_first as_last l head_here ∙ ap end_of on)

      backward_cases : (o : Option Extent) → walk_backward front t ≡ o →
          last_start (concordance text (seq forms)) k ≡ option_and_then (λ head. if leb head.start k then Some (joined head t) else last_short_of (concordance text (seq forms)) text.next (Some t)) o
      backward_cases None back = absurd (true≢false (sym (on_covers l head_here t on) ∙ back_from t tail_there None back l.start))
      backward_cases (Some h) back =
          elim (cases_lt k h.start) [
            | inl lt ↦ rw (lt-leb h.start k lt) (backward_short h back lt t.end refl)
            | inr ge ↦ rw (le-leb h.start k ge) (backward_joined h back ge)
          ]

    backward_on : (o : Option Extent) → walk_forward rest l ≡ o → last_start (concordance text (seq forms)) k ≡ back_again (concordance text (seq forms)) front text.next k o
    backward_on None none = backward_edge none
    backward_on (Some t) on = backward_cases t on (walk_backward front t) refl

  backward_far : (k : ℕ) (o : Option Extent) → last_start first k ≡ o →
      last_start (concordance text (seq forms)) k ≡ option_and_then (λ head. back_again (concordance text (seq forms)) front text.next k (walk_forward rest head)) o
  backward_far k None none = backward_none k none (last_start (concordance text (seq forms)) k) refl
  backward_far k (Some l) is = backward_on k l is (walk_forward rest l) refl

  pub seq_from_first : (k : ℕ) → last_start (concordance text (seq forms)) k ≡ from_first (concordance text (seq forms)) first rest front text.next k
  seq_from_first k = backward_far k (last_start first k) refl
