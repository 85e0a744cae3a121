-- Places of readers: what is known of them, and how they are put together.
use Rattle.std.proofs.Common.{◌≡◌, ℕ, zero, suc, ◌<◌, ◌≤◌, List, [], ◌∷◌, ◌++◌, length, take, drop, Option, Some, None, IfSome, leb, refl, sym, ap, ◌∙◌, subst, arith}
use Rattle.std.proofs.Math.Seq.{take-append_seam, drop-append_seam}
use Rattle.std.proofs.lemmas.List.{length-take}
use Rattle.gcl_model.specs.Extents.{Extent, IsRising}
use Rattle.gcl_model.specs.Texts.{Text}
use Rattle.gcl_model.specs.Forms.{Form, Forms, term, phrase, width, both, one, seq, containing, contained_in, not_containing, not_contained_in, more_forms}
use Rattle.gcl_model.specs.Meaning.{concordance, operands}
use Rattle.gcl_model.specs.Texts.{IsText}
use Rattle.gcl_model.specs.Limits.{address_end}
use Rattle.gcl_model.specs.Access.{first_start, first_end, last_end}
use Rattle.gcl_model.proofs.Covers.{Has, find_gives}
use Rattle.gcl_eval.specs.Members.{members_from}
use Rattle.gcl_model.proofs.Meanings.{concordance_rises}
use Rattle.gcl_eval.proofs.Found.{member_of_text}
use Rattle.gcl_readers.proofs.Members.{no_first_start, from_has, first_member, last_member, first_itself}
use Rattle.gcl_readers.specs.declared.front.Front.{Front}
use Rattle.gcl_readers.specs.declared.front.Front.TheVariants.{Before, On, Between, End}
use Rattle.gcl_readers.specs.declared.front.Place.{Place}
use Rattle.gcl_readers.specs.Fronts.{IsFrontOf, WhereAsked, asked_of, after, past, member_of, front_at, start_left, start_or_end}
use Rattle.gcl_readers.specs.Agreement.{AllAnswerFrom, AllAnswerOrEnd, AllAnswerInOrder}
use Rattle.gcl_readers.specs.Standing.{nodes, front_of, size_of, with_front, start_at, starts_at, Tell, StandsOver, StandBelow, AllStand, Stands, AnswerByStarts, AnswerByEnds}

-- a node has a place of its own
pub nodes_some : (form : Form) → 1 ≤ nodes form
nodes_some (term token) = omega arith
nodes_some (phrase tokens) = omega arith
nodes_some (width n) = omega arith
nodes_some (both forms) = omega arith
nodes_some (one forms) = omega arith
nodes_some (seq forms) = omega arith
nodes_some (containing a b) = omega arith
nodes_some (contained_in a b) = omega arith
nodes_some (not_containing a b) = omega arith
nodes_some (not_contained_in a b) = omega arith

pub some_place : (text : Text) (form : Form) (places : List Place) (under : Type 0) → StandsOver text form places under → 0 < length places
some_place text form places under s = let c = s.count in omega (arith, nodes_some form)

-- the reader of a node moves
pub restand : (text : Text) (form : Form) (places : List Place) (front : Front) → Stands text form places → IsFrontOf (concordance text form) front → Tell text form front (drop 1 places) →
    Stands text form (with_front places front)
restand text form [] front s at tells = absurd (let c : 0 ≡ nodes form = s.count in omega (arith, nodes_some form))
restand text form (place ∷ places) front s at tells = record { count = s.count; size = s.size; front = at; tells = tells; below = s.below }

-- with new places below
pub restand_below : (text : Text) (form : Form) (places below : List Place) (front : Front) → Stands text form places → IsFrontOf (concordance text form) front → length below ≡ length (drop 1 places) →
    StandBelow text form below → Tell text form front below → Stands text form (with_front (take 1 places ++ below) front)
restand_below text form [] below front s at len stands tells = absurd (let c : 0 ≡ nodes form = s.count in omega (arith, nodes_some form))
restand_below text form (place ∷ places) below front s at len stands tells = record {
  count = let c : length (place ∷ places) ≡ nodes form = s.count in let l : length below ≡ length places = len in omega arith;
  size = s.size;
  front = at;
  tells = tells;
  below = stands;
}

to_asked : (P : Option Extent → Type 0) (front : Front) → WhereAsked P front → WhereAsked P (asked_of front)
to_asked P Before p = p
to_asked P (On a) p = p
to_asked P (Between a None) p = tt
to_asked P (Between a (Some next)) p = p
to_asked P End p = tt

from_asked : (P : Option Extent → Type 0) (front : Front) → WhereAsked P (asked_of front) → WhereAsked P front
from_asked P Before p = p
from_asked P (On a) p = p
from_asked P (Between a None) p = tt
from_asked P (Between a (Some next)) p = p
from_asked P End p = tt

where_same : (P : Option Extent → Type 0) (old new : Front) → asked_of new ≡ asked_of old → WhereAsked P old → WhereAsked P new
where_same P old new e p = from_asked P new (subst (WhereAsked P) (sym e) (to_asked P old p))

before_same : (old new : Front) → asked_of new ≡ asked_of old → old ≡ Before → new ≡ Before
before_same old Before e is = refl
before_same old (On a) e is = absurd (let h : On a ≡ Before = e ∙ ap asked_of is in cc)
before_same old (Between a None) e is = absurd (let h : End ≡ Before = e ∙ ap asked_of is in cc)
before_same old (Between a (Some next)) e is = absurd (let h : On next ≡ Before = e ∙ ap asked_of is in cc)
before_same old End e is = absurd (let h : End ≡ Before = e ∙ ap asked_of is in cc)

-- what is known from the operands does not change if the reader moves among what was found
pub tell_same : (text : Text) (form : Form) (old new : Front) (places : List Place) → asked_of new ≡ asked_of old → Tell text form old places → Tell text form new places
tell_same text (term token) old new places e t = tt
tell_same text (phrase tokens) old new places e t = tt
tell_same text (width n) old new places e t = before_same old new e t
tell_same text (both forms) old new places e t = where_same (λ found. AllAnswerOrEnd (operands text forms) (starts_at forms places) (after found) (past found)) old new e t
tell_same text (one forms) old new places e t = where_same (λ found. AllAnswerFrom (operands text forms) (starts_at forms places) (after found)) old new e t
tell_same text (seq forms) old new places e t = where_same (λ found. AllAnswerInOrder (operands text forms) (starts_at forms places) (after found)) old new e t
tell_same text (containing a b) old new places e t = where_same (AnswerByStarts text a b places) old new e t
tell_same text (contained_in a b) old new places e t = where_same (AnswerByEnds text a b places) old new e t
tell_same text (not_containing a b) old new places e t = where_same (AnswerByStarts text a b places) old new e t
tell_same text (not_contained_in a b) old new places e t = where_same (AnswerByEnds text a b places) old new e t

pub restand_told : (text : Text) (form : Form) (places : List Place) (front : Front) → Stands text form places → IsFrontOf (concordance text form) front → asked_of front ≡ asked_of (front_of places) →
    Stands text form (with_front places front)
restand_told text form places front s at e = restand text form places front s at (tell_same text form (front_of places) front (drop 1 places) e s.tells)

-- the places of an operand and of those after it
pub take_front : (n : ℕ) (xs ys : List Place) → length xs ≡ n → take n (xs ++ ys) ≡ xs
take_front n xs ys e = ap (λ m. take m (xs ++ ys)) (sym e) ∙ take-append_seam xs ys

pub drop_front : (n : ℕ) (xs ys : List Place) → length xs ≡ n → drop n (xs ++ ys) ≡ ys
drop_front n xs ys e = ap (λ m. drop m (xs ++ ys)) (sym e) ∙ drop-append_seam xs ys

pub size_take : (n : ℕ) (places : List Place) → 1 ≤ n → size_of (take n places) ≡ size_of places
size_take zero places le = absurd (omega arith)
size_take (suc n) [] le = refl
size_take (suc n) (p ∷ places) le = refl

-- the first of operands
pub record FirstStands (text : Text) (form : Form) (forms : Forms) (places : List Place) : Type 0 where
  pub some : 0 < length places
  pub size : size_of places ≡ nodes form
  pub fits : nodes form ≤ length places
  pub first : Stands text form (take (nodes form) places)
  pub rest : AllStand text forms (drop (nodes form) places)

pub first_stands : (text : Text) (form : Form) (forms : Forms) (places : List Place) → AllStand text (more_forms form forms) places → FirstStands text form forms places
first_stands text form forms places s =
    let counted : length (take (nodes form) places) ≡ nodes form = s.0.count in
    let some = nodes_some form in
    record {
      some = omega (arith, length-take (nodes form) places);
      size = sym (size_take (nodes form) places some) ∙ s.0.size;
      fits = omega (arith, length-take (nodes form) places);
      first = s.0;
      rest = s.1;
    }

pub first_joined : (text : Text) (form : Form) (forms : Forms) (mine later : List Place) → Stands text form mine → AllStand text forms later → AllStand text (more_forms form forms) (mine ++ later)
first_joined text form forms mine later s t =
    let e = take_front (nodes form) mine later s.count in
    let f = drop_front (nodes form) mine later s.count in
    (subst (Stands text form) (sym e) s, subst (AllStand text forms) (sym f) t)

pub starts_joined : (form : Form) (forms : Forms) (mine later : List Place) → length mine ≡ nodes form → starts_at (more_forms form forms) (mine ++ later) ≡ start_at mine ∷ starts_at forms later
starts_joined form forms mine later e =
    ap (λ p. start_at p ∷ starts_at forms (drop (nodes form) (mine ++ later))) (take_front (nodes form) mine later e)
    ∙ ap (λ p. start_at mine ∷ starts_at forms p) (drop_front (nodes form) mine later e)

-- a member lies within the addresses
pub within_text : (text : Text) (form : Form) (a : Extent) → IsText text → Has (concordance text form) a → a.end < address_end
within_text text form a sound m =
    let of = member_of_text text form a m in
    let below : a.end < text.next = of.below in
    let bound : text.next ≤ address_end = sound.in_range in
    omega arith

pub proper_text : (text : Text) (form : Form) (a : Extent) → Has (concordance text form) a → a.start ≤ a.end
proper_text text form a m = (member_of_text text form a m).proper

-- no member starts at the end of addresses
pub bounded_text : (text : Text) (form : Form) → IsText text → first_start (concordance text form) address_end ≡ None
bounded_text text form sound = no_first_start (concordance text form) (concordance_rises text form) address_end (λ d m.
    let lt = within_text text form d sound m in let le = proper_text text form d m in omega arith)

-- the front's member is one of the list, the first that is left
pub member_is : (list : List Extent) (front : Front) (a : Extent) → IsFrontOf list front → member_of front ≡ Some a → first_start list a.start ≡ Some a
member_is list Before a is e = absurd cc
member_is list (On b) a is e = let same : b ≡ a = cc in subst (λ (c : Extent). first_start list c.start ≡ Some c) same is
member_is list (Between b next) a is e = let same : b ≡ a = cc in subst (λ (c : Extent). first_start list c.start ≡ Some c) same is.0
member_is list End a is e = absurd cc

-- what is found lies within the addresses
within_some : (text : Text) (form : Form) → IsText text → (o : Option Extent) → ((a : Extent) → o ≡ Some a → Has (concordance text form) a) → IfSome o (λ a. a.end < address_end)
within_some text form sound None has = tt
within_some text form sound (Some a) has = within_text text form a sound (has a refl)

pub within_left : (text : Text) (form : Form) → IsText text → (x k : ℕ) (o : Option Extent) → o ≡ first_start (members_from (concordance text form) x) k → IfSome o (λ a. a.end < address_end)
within_left text form sound x k o is = within_some text form sound o (λ a e. (from_has (concordance text form) x a (first_member (members_from (concordance text form) x) k a (sym is ∙ e))).0)

pub within_first : (text : Text) (form : Form) → IsText text → (k : ℕ) (o : Option Extent) → o ≡ first_start (concordance text form) k → IfSome o (λ a. a.end < address_end)
within_first text form sound k o is = within_some text form sound o (λ a e. first_member (concordance text form) k a (sym is ∙ e))

pub within_first_end : (text : Text) (form : Form) → IsText text → (k : ℕ) (o : Option Extent) → o ≡ first_end (concordance text form) k → IfSome o (λ a. a.end < address_end)
within_first_end text form sound k o is = within_some text form sound o (λ a e. (find_gives (λ c. leb k c.end) (concordance text form) a (sym is ∙ e)).0)

pub within_last : (text : Text) (form : Form) → IsText text → (k : ℕ) (o : Option Extent) → o ≡ last_end (concordance text form) k → IfSome o (λ a. a.end < address_end)
within_last text form sound k o is = within_some text form sound o (λ a e. last_member (concordance text form) k a (sym is ∙ e))

-- a reader that was moved
pub front_with : (places : List Place) (front : Front) → 0 < length places → front_of (with_front places front) ≡ front
front_with [] front some = absurd (omega arith)
front_with (place ∷ places) front some = refl

-- the front if something was found
pub front_found : (list : List Extent) → IsRising list → (k : ℕ) (o : Option Extent) → o ≡ first_start list k → IsFrontOf list (front_at o)
front_found list r k None is = tt
front_found list r k (Some a) is = first_itself list r a (first_member list k a (sym is))

pub start_front : (o : Option Extent) → start_left (front_at o) ≡ start_or_end o
start_front None = refl
start_front (Some a) = refl

pub member_front : (o : Option Extent) → member_of (front_at o) ≡ o
member_front None = refl
member_front (Some a) = refl

-- if the first member that is left is known, what is left starts there
pub moved_on : (front : Front) (o : Option Extent) → member_of front ≡ o → start_left front ≤ start_or_end o
moved_on Before None is = omega arith
moved_on Before (Some a) is = absurd cc
moved_on (On b) None is = absurd cc
moved_on (On b) (Some a) is = let same : b ≡ a = cc in let starts = ap (λ (x : Extent). x.start) same in omega (arith, starts)
moved_on (Between b next) None is = absurd cc
moved_on (Between b next) (Some a) is = let same : b ≡ a = cc in let starts = ap (λ (x : Extent). x.start) same in omega (arith, starts)
moved_on End None is = omega arith
moved_on End (Some a) is = absurd cc
