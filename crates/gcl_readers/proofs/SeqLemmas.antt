-- "Followed by", from the first operand and the node of those after it.
use Rattle.std.proofs.Common.{◌≡◌, ℕ, zero, suc, ◌+◌, ◌-◌, ◌<◌, ◌≤◌, Bool, true, false, eqb, List, [], ◌∷◌, length, leb, Option, Some, None, IfSome, refl, sym, ap, ◌∙◌, arith, inl, inr}
use Rattle.std.specs.Option.{option_map, option_and_then}
use Rattle.std.proofs.lemmas.Bool.{leb-true, cases_lt, eqb-true, true≢false}
use Rattle.gcl_model.specs.declared.expr.Expr.{Expr}
use Rattle.gcl_eval.specs.Operands.{operand_forms}
use Rattle.gcl_readers.proofs.Standings.{proper_text}
use Rattle.gcl_model.specs.Extents.{Extent, extent, IsRising}
use Rattle.gcl_model.specs.Texts.{Text}
use Rattle.gcl_model.specs.Forms.{Form, Forms, seq, no_forms, more_forms, forms_count}
use Rattle.gcl_model.specs.Meaning.{concordance, operands}
use Rattle.gcl_model.specs.Access.{first_start, last_end}
use Rattle.gcl_model.specs.Rules.{first_by, start_of}
use Rattle.gcl_model.proofs.Covers.{Has, find_gives}
use Rattle.gcl_model.proofs.Meanings.{concordance_rises}
use Rattle.gcl_order.specs.Walks.{joined}
use Rattle.gcl_order.proofs.InOrder.{seq_end, seq_start, start_before, first_start-seq}
use Rattle.gcl_order.proofs.SeqAccess.{last_end-member}
use Rattle.gcl_contain.proofs.Accesses.{found_first, found_last, none_upto}
use Rattle.gcl_eval.specs.Members.{members_from}
use Rattle.gcl_readers.specs.Agreement.{AllAnswerInOrder}
use Rattle.gcl_readers.proofs.Members.{has_from, from_has, rises_from}
use Rattle.gcl_readers.proofs.Answers.{answers_behind, in_order_later}

-- what an access by an end and a start says about both
record IsBy (forward backward : ℕ → Option ℕ) (k : ℕ) (t : Extent) : Type 0 where
  end_is : forward k ≡ Some t.end
  start_is : backward t.end ≡ Some t.start

by_cases : (forward backward : ℕ → Option ℕ) (k : ℕ) (t : Extent) (o : Option ℕ) → forward k ≡ o → ((v : ℕ) → o ≡ Some v → (p : Option ℕ) × (backward v ≡ p)) →
    option_and_then (λ v. option_map (λ u. extent u v) (backward v)) o ≡ Some t → IsBy forward backward k t
by_cases forward backward k t None is back e = absurd cc
by_cases forward backward k t (Some v) is back e = at (back v refl).0 (back v refl).1 e
  where
    at : (p : Option ℕ) → backward v ≡ p → option_map (λ u. extent u v) (backward v) ≡ Some t → IsBy forward backward k t
    at None js h = absurd (let g : option_map (λ u. extent u v) None ≡ Some t = ap (option_map (λ u. extent u v)) (sym js) ∙ h in cc)
    at (Some u) js h =
        let g : Some (extent u v) ≡ Some t = ap (option_map (λ u. extent u v)) (sym js) ∙ h in
        let same : extent u v ≡ t = cc in
        let starts : u ≡ t.start = ap (λ (a : Extent). a.start) same in
        let ends : v ≡ t.end = ap (λ (a : Extent). a.end) same in
        record { end_is = is ∙ ap Some ends; start_is = ap backward (sym ends) ∙ js ∙ ap Some starts }

by_tells : (forward backward : ℕ → Option ℕ) (k : ℕ) (t : Extent) → first_by forward backward k ≡ Some t → IsBy forward backward k t
by_tells forward backward k t e = by_cases forward backward k t (forward k) refl (λ v _. (backward v, refl)) e

module _ (text : Text) (form : Form) (forms : Forms) (k : ℕ) where
  -- the node's list, and that of the first operand
  node_by : first_start (concordance text (seq (more_forms form forms))) k ≡ first_by (seq_end (operands text (more_forms form forms))) (seq_start (operands text (more_forms form forms))) k
  node_by = first_start-seq text (more_forms form forms) (omega arith) k

  pub seq_none : None ≡ first_start (concordance text form) k → None ≡ first_start (concordance text (seq (more_forms form forms))) k
  seq_none e =
      sym (node_by ∙ ap (λ o. option_and_then (λ v. option_map (λ u. extent u v) (seq_start (operands text (more_forms form forms)) v)) (option_and_then (λ a. seq_end (operands text forms) (a.end + 1)) o)) (sym e))

  module _ (a : Extent) (found : first_start (concordance text form) k ≡ Some a) where
    node_on : first_start (concordance text (seq (more_forms form forms))) k ≡ option_and_then (λ v. option_map (λ u. extent u v) (start_before (concordance text form) (seq_start (operands text forms) v))) (seq_end (operands text forms) (a.end + 1))
    node_on = node_by ∙ ap (λ o. option_and_then (λ v. option_map (λ u. extent u v) (seq_start (operands text (more_forms form forms)) v)) (option_and_then (λ a. seq_end (operands text forms) (a.end + 1)) o)) found

    pub seq_alone : forms ≡ no_forms → Some a ≡ first_start (concordance text (seq (more_forms form forms))) k
    seq_alone none =
        let m = (find_gives (λ c. leb k c.start) (concordance text form) a found).0 in
        let end_is : a.end + 1 - 1 ≡ a.end = omega arith in
        let plain : a.end + 1 ≡ suc a.end = omega arith in
        sym (node_on
        ∙ ap (λ fs. option_and_then (λ v. option_map (λ u. extent u v) (start_before (concordance text form) (seq_start (operands text fs) v))) (seq_end (operands text fs) (a.end + 1))) none
        ∙ ap (λ n. option_map (λ u. extent u n) (start_before (concordance text form) (Some (n + 1)))) end_is
        ∙ ap (λ n. option_map (λ u. extent u a.end) (start_before (concordance text form) (Some n))) plain
        ∙ ap (λ o. option_map (λ u. extent u a.end) (start_of o)) (last_end-member (concordance text form) (concordance_rises text form) a m))

    module _ (some : 1 ≤ forms_count forms) where
      tail_by : first_start (concordance text (seq forms)) (a.end + 1) ≡ first_by (seq_end (operands text forms)) (seq_start (operands text forms)) (a.end + 1)
      tail_by = first_start-seq text forms some (a.end + 1)

      pub seq_no_tail : None ≡ first_start (concordance text (seq forms)) (a.end + 1) → None ≡ first_start (concordance text (seq (more_forms form forms))) k
      seq_no_tail e = sym (node_on ∙ cases (seq_end (operands text forms) (a.end + 1)) refl)
        where
          with_end : (v : ℕ) → seq_end (operands text forms) (a.end + 1) ≡ Some v → (o : Option ℕ) → seq_start (operands text forms) v ≡ o → option_map (λ u. extent u v) (start_before (concordance text form) (seq_start (operands text forms) v)) ≡ None
          with_end v is None js = ap (λ o. option_map (λ u. extent u v) (start_before (concordance text form) o)) js
          with_end v is (Some u) js =
              let h : first_by (seq_end (operands text forms)) (seq_start (operands text forms)) (a.end + 1) ≡ Some (extent u v)
              = ap (option_and_then (λ v. option_map (λ u. extent u v) (seq_start (operands text forms) v))) is ∙ ap (option_map (λ u. extent u v)) js in
              absurd (let g : None ≡ Some (extent u v) = e ∙ tail_by ∙ h in cc)

          cases : (o : Option ℕ) → seq_end (operands text forms) (a.end + 1) ≡ o → option_and_then (λ v. option_map (λ u. extent u v) (start_before (concordance text form) (seq_start (operands text forms) v))) (seq_end (operands text forms) (a.end + 1)) ≡ None
          cases None is = ap (option_and_then (λ v. option_map (λ u. extent u v) (start_before (concordance text form) (seq_start (operands text forms) v)))) is
          cases (Some v) is = ap (option_and_then (λ v. option_map (λ u. extent u v) (start_before (concordance text form) (seq_start (operands text forms) v)))) is ∙ with_end v is (seq_start (operands text forms) v) refl

      module _ (t : Extent) (tail : first_start (concordance text (seq forms)) (a.end + 1) ≡ Some t) where
        pub tail_after : a.end + 1 ≤ t.start
        tail_after = leb-true (a.end + 1) t.start (find_gives (λ c. leb (a.end + 1) c.start) (concordance text (seq forms)) t tail).1

        before_is : (n : ℕ) → 1 ≤ n → start_before (concordance text form) (Some n) ≡ start_of (last_end (concordance text form) (n - 1))
        before_is zero le = absurd (omega arith)
        before_is (suc n) le = let e : n ≡ suc n - 1 = omega arith in ap (λ m. start_of (last_end (concordance text form) m)) e

        pub seq_joined : (b : Extent) → last_end (concordance text form) (t.start - 1) ≡ Some b → Some (joined b t) ≡ first_start (concordance text (seq (more_forms form forms))) k
        seq_joined b is =
            let by = by_tells (seq_end (operands text forms)) (seq_start (operands text forms)) (a.end + 1) t (sym tail_by ∙ tail) in
            let after = tail_after in
            sym (node_on
            ∙ ap (option_and_then (λ v. option_map (λ u. extent u v) (start_before (concordance text form) (seq_start (operands text forms) v)))) by.end_is
            ∙ ap (λ o. option_map (λ u. extent u t.end) (start_before (concordance text form) o)) by.start_is
            ∙ ap (option_map (λ u. extent u t.end)) (before_is t.start (omega arith) ∙ ap start_of is))

-- the way back finds a member, since the first answer lies before the tail
pub back_finds : (list : List Extent) (y k : ℕ) (a : Extent) → Has list a → y ≤ a.start → a.end ≤ k → None ≡ last_end (members_from list y) k → ⊥
back_finds list y k a m le near e = let lt : k < a.end = none_upto (λ c. c.end) (members_from list y) k (sym e) a (has_from list y a m le) in omega arith

-- after the start of the node's member, each operand is asked after where its reader stands
pub in_order_alone : (list : List Extent) (y s : ℕ) → y ≤ s → AllAnswerInOrder (list ∷ []) (y ∷ []) (s + 1)
in_order_alone list y s le = (answers_behind list y (s + 1) (omega arith), λ j from. any (first_start list j))
  where
    any : (o : Option Extent) → IfSome o (λ a. Unit {0})
    any None = tt
    any (Some a) = tt

pub in_order_more : (list : List Extent) → IsRising list → (lists : List (List Extent)) (xs : List ℕ) (x y u : ℕ) (b : Extent) → 1 ≤ u → last_end (members_from list x) (u - 1) ≡ Some b → y ≤ b.start →
    AllAnswerInOrder lists xs (u + 1) → AllAnswerInOrder (list ∷ lists) (y ∷ xs) (b.start + 1)
in_order_more list r lists xs x y u b some is le later = (answers_behind list y (b.start + 1) (omega arith), λ j from. at j from (first_start list j) refl)
  where
    at : (j : ℕ) → b.start + 1 ≤ j → (o : Option Extent) → first_start list j ≡ o → IfSome o (λ a. AllAnswerInOrder lists xs (a.end + 1))
    at j from None e = tt
    at j from (Some c) e =
        let f = found_last (λ d. d.end) (members_from list x) (rises_from list x r) (u - 1) b is in
        let g = found_first (λ d. d.start) list r j c e in
        let far = g.far in
        let left : x ≤ b.start = (from_has list x b f.member).1 in
        let past : u ≤ c.end = elim (cases_lt c.end u) [ inl lt ↦ absurd (let on = (f.last c (has_from list x c g.member (omega arith)) (omega arith)).0 in omega arith) | inr ge ↦ ge ] in
        in_order_later lists xs (u + 1) (c.end + 1) (omega arith) later

-- the head ends before the tail starts
pub joins_in_order : (text : Text) (form tail : Form) (y k : ℕ) (b t : Extent) → last_end (members_from (concordance text form) y) k ≡ Some b → k < t.start → Has (concordance text tail) t → b.start ≤ t.end
joins_in_order text form tail y k b t is lt m =
    let f = found_last (λ c. c.end) (members_from (concordance text form) y) (rises_from (concordance text form) y (concordance_rises text form)) k b is in
    let near : b.end ≤ k = f.near in
    let p = proper_text text form b (from_has (concordance text form) y b f.member).0 in
    let q = proper_text text tail t m in
    omega arith

-- the operands after the first one
pub no_others : (b : Bool) (others : List Expr) → b ≡ eqb (length others) 0 → b ≡ true → others ≡ []
no_others b [] is t = refl
no_others b (x ∷ others) is t = absurd (let e : length (x ∷ others) ≡ 0 = eqb-true (length (x ∷ others)) 0 (sym is ∙ t) in omega arith)

pub some_others : (b : Bool) (others : List Expr) → b ≡ eqb (length others) 0 → b ≡ false → 1 ≤ forms_count (operand_forms others)
some_others b [] is f = absurd (true≢false (sym is ∙ f))
some_others b (x ∷ others) is f = omega arith
