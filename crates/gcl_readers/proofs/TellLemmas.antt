-- What is known from the operands' readers, if nothing is known at or after an address.
use Rattle.std.proofs.Common.{◌≡◌, ℕ, ◌+◌, ◌≤◌, List, Option, Some, None, IfSome, refl, subst, arith, drop, take, not}
use Rattle.gcl_model.specs.Extents.{Extent, IsRising, is_inside}
use Rattle.gcl_model.specs.Texts.{Text}
use Rattle.gcl_model.specs.Forms.{Form, term, phrase, width, both, one, seq, containing, contained_in, not_containing, not_contained_in}
use Rattle.gcl_model.specs.Meaning.{concordance, operands}
use Rattle.gcl_model.specs.Access.{first_start}
use Rattle.gcl_model.proofs.Covers.{Has}
use Rattle.gcl_model.proofs.Minimal.{has_filter}
use Rattle.gcl_model.proofs.Meanings.{concordance_rises}
use Rattle.gcl_contain.proofs.Accesses.{found_first, ahead_by_place, start_is_place}
use Rattle.gcl_contain.proofs.Nodes.{contained_in_list, not_contained_in_list}
use Rattle.gcl_readers.specs.declared.front.Front.{Front}
use Rattle.gcl_readers.specs.declared.front.Front.TheVariants.{Before, On, Between, End}
use Rattle.gcl_readers.specs.declared.front.Place.{Place}
use Rattle.gcl_readers.specs.Fronts.{IsFrontOf, IsUnknown, WhereAsked, after, past, start_left}
use Rattle.gcl_readers.specs.Agreement.{AnswersByEnds, AllAnswerFrom, AllAnswerOrEnd, AllAnswerInOrder}
use Rattle.gcl_readers.specs.Standing.{nodes, start_at, starts_at, Tell, TellsFrom, BothTell, AnswerByStarts, AnswerByEnds, AskByStarts, AskByEnds}
use Rattle.gcl_readers.proofs.Members.{first_member}
use Rattle.gcl_readers.proofs.Answers.{answers_later, answers_by_ends_later, all_answer_later, all_answer_or_end_later, in_order_later}

where_unknown : (list : List Extent) (P : Option Extent → Type 0) (Q : Type 0) (k : ℕ) (front : Front) → IsFrontOf list front → IsUnknown front k → WhereAsked P front →
    ((found : Option Extent) → after found ≤ k → IfSome found (Has list) → P found → Q) → Q
where_unknown list P Q k Before is un p f = f None (omega arith) tt p
where_unknown list P Q k (On a) is un p f = f (Some a) (omega arith) (first_member list a.start a is) p
where_unknown list P Q k (Between a None) is un p f = absurd un
where_unknown list P Q k (Between a (Some next)) is un p f = let lt = un.1 in f (Some next) (omega arith) (first_member list (a.start + 1) next is.1) p
where_unknown list P Q k End is un p f = absurd un

-- a later member ends later
ends_behind : (list : List Extent) → IsRising list → (k : ℕ) (found : Option Extent) → after found ≤ k → IfSome found (Has list) → IfSome (first_start list k) (λ a. past found ≤ a.end)
ends_behind list r k found le m = cases found le m (first_start list k) refl
  where
    cases : (f : Option Extent) → after f ≤ k → IfSome f (Has list) → (o : Option Extent) → first_start list k ≡ o → IfSome o (λ a. past f ≤ a.end)
    cases f le m None is = tt
    cases None le m (Some a) is = omega arith
    cases (Some c) le m (Some a) is =
        let g = found_first (λ d. d.start) list r k a is in
        let far = g.far in
        let ahead = ahead_by_place (λ d. d.start) start_is_place list r c a m g.member (omega arith) in
        let ends = ahead.1 in omega arith

both_from : (node : List Extent) → IsRising node → (lists : List (List Extent)) (xs : List ℕ) (k : ℕ) (found : Option Extent) → after found ≤ k → IfSome found (Has node) → AllAnswerOrEnd lists xs (after found) (past found) → BothTell node lists xs k
both_from node r lists xs k found le m p = record { v = past found; each = all_answer_or_end_later lists xs (after found) k (past found) le p; before = ends_behind node r k found le m }

by_starts : (text : Text) (a b : Form) (places : List Place) (k : ℕ) (found : Option Extent) → after found ≤ k → AnswerByStarts text a b places found → AskByStarts text a b places k
by_starts text a b places k found le p =
    (answers_later (concordance text a) (start_at (take (nodes a) places)) (after found) k le p.0, answers_later (concordance text b) (start_at (drop (nodes a) places)) (after found) k le p.1)

some_weaker : (o : Option Extent) (P Q : Extent → Type 0) → ((a : Extent) → P a → Q a) → IfSome o P → IfSome o Q
some_weaker None P Q f p = tt
some_weaker (Some a) P Q f p = f a p

by_ends : (text : Text) (a b : Form) (places : List Place) (k : ℕ) (found : Option Extent) → after found ≤ k → IfSome found (Has (concordance text a)) → AnswerByEnds text a b places found → AskByEnds text a b places k
by_ends text a b places k found le m p = (
  answers_later (concordance text a) (start_at (take (nodes a) places)) (after found) k le p.0,
  some_weaker (first_start (concordance text a) k) (λ c. past found ≤ c.end) (λ c. AnswersByEnds (concordance text b) (start_at (drop (nodes a) places)) c.end)
      (λ c far. answers_by_ends_later (concordance text b) (start_at (drop (nodes a) places)) (past found) c.end far p.1) (ends_behind (concordance text a) (concordance_rises text a) k found le m),
)

kept_has : (node members : List Extent) (found : Option Extent) → ((c : Extent) → Has node c → Has members c) → IfSome found (Has node) → IfSome found (Has members)
kept_has node members None f m = tt
kept_has node members (Some c) f m = f c m

in_first : (text : Text) (a b : Form) (c : Extent) → Has (concordance text (contained_in a b)) c → Has (concordance text a) c
in_first text a b c m = (has_filter (is_inside (concordance text b)) (concordance text a) c (subst (λ l. Has l c) (contained_in_list text a b) m)).0

not_in_first : (text : Text) (a b : Form) (c : Extent) → Has (concordance text (not_contained_in a b)) c → Has (concordance text a) c
not_in_first text a b c m = (has_filter (λ d. not (is_inside (concordance text b) d)) (concordance text a) c (subst (λ l. Has l c) (not_contained_in_list text a b) m)).0

pub tells_from : (text : Text) (form : Form) (front : Front) (places : List Place) (k : ℕ) → IsFrontOf (concordance text form) front → IsUnknown front k → Tell text form front places → TellsFrom text form places k
tells_from text (term token) front places k is un t = tt
tells_from text (phrase tokens) front places k is un t = tt
tells_from text (width n) front places k is un t = tt
tells_from text (both forms) front places k is un t =
    where_unknown (concordance text (both forms)) (λ found. AllAnswerOrEnd (operands text forms) (starts_at forms places) (after found) (past found)) (BothTell (concordance text (both forms)) (operands text forms) (starts_at forms places) k) k front is un t
    (both_from (concordance text (both forms)) (concordance_rises text (both forms)) (operands text forms) (starts_at forms places) k)
tells_from text (one forms) front places k is un t =
    where_unknown (concordance text (one forms)) (λ found. AllAnswerFrom (operands text forms) (starts_at forms places) (after found)) (AllAnswerFrom (operands text forms) (starts_at forms places) k) k front is un t
    (λ found le m p. all_answer_later (operands text forms) (starts_at forms places) (after found) k le p)
tells_from text (seq forms) front places k is un t =
    where_unknown (concordance text (seq forms)) (λ found. AllAnswerInOrder (operands text forms) (starts_at forms places) (after found)) (AllAnswerInOrder (operands text forms) (starts_at forms places) k) k front is un t
    (λ found le m p. in_order_later (operands text forms) (starts_at forms places) (after found) k le p)
tells_from text (containing a b) front places k is un t =
    where_unknown (concordance text (containing a b)) (AnswerByStarts text a b places) (AskByStarts text a b places k) k front is un t (λ found le m p. by_starts text a b places k found le p)
tells_from text (contained_in a b) front places k is un t =
    where_unknown (concordance text (contained_in a b)) (AnswerByEnds text a b places) (AskByEnds text a b places k) k front is un t
    (λ found le m p. by_ends text a b places k found le (kept_has (concordance text (contained_in a b)) (concordance text a) found (in_first text a b) m) p)
tells_from text (not_containing a b) front places k is un t =
    where_unknown (concordance text (not_containing a b)) (AnswerByStarts text a b places) (AskByStarts text a b places k) k front is un t (λ found le m p. by_starts text a b places k found le p)
tells_from text (not_contained_in a b) front places k is un t =
    where_unknown (concordance text (not_contained_in a b)) (AnswerByEnds text a b places) (AskByEnds text a b places k) k front is un t
    (λ found le m p. by_ends text a b places k found le (kept_has (concordance text (not_contained_in a b)) (concordance text a) found (not_in_first text a b) m) p)

-- if nothing is known at or after k, what is left starts at k or before
pub unknown_from : (front : Front) (k : ℕ) → IsUnknown front k → start_left front ≤ k
unknown_from Before k un = omega arith
unknown_from (On a) k un = omega arith
unknown_from (Between a None) k un = absurd un
unknown_from (Between a (Some next)) k un = let lt = un.0 in omega arith
unknown_from End k un = absurd un
