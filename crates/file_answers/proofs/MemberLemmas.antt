-- From answer to answer of a file, and from passage to passage.
use Rattle.std.proofs.Common.{◌≡◌, ℕ, zero, suc, ◌+◌, ◌<◌, ◌≤◌, Bool, true, false, leb, List, [], ◌∷◌, length, take, is_some, nat_lt, refl, sym, ap, ◌∙◌, subst, arith, cond, Option, Some, None, IfSome, inl, inr}
use Rattle.std.specs.List.{AllByRecursion}
use Rattle.std.proofs.lemmas.Bool.{leb-true, leb-false, le-leb, lt-ltb, cases_Bool}
use Rattle.std.proofs.lemmas.List.{get_or_past}
use Rattle.gcl_model.specs.Access.{first_start}
use Rattle.gcl_model.specs.Extents.{Extent}
use Rattle.gcl_model.specs.Forms.{Form}
use Rattle.gcl_model.specs.Limits.{address_end, far}
use Rattle.gcl_model.specs.Meaning.{concordance, denotes}
use Rattle.gcl_model.specs.Texts.{Text, IsText}
use Rattle.gcl_model.proofs.Covers.{find_gives, of_each}
use Rattle.gcl_model.proofs.Meanings.{IsOf, each_of_text, concordance_rises}
use Rattle.gcl_eval.specs.Members.{members_from}
use Rattle.gcl_eval.proofs.Listing.{all_members, next_member, no_member}
use Rattle.gcl_readers.specs.Fronts.{start_or_end}
use Rattle.gcl_readers.specs.Standing.{left_to, start_at}
use Rattle.gcl_readers.proofs.Members.{agrees_at}
use Rattle.gcl_readers.specs.declared.front.Place.{Place as ReaderPlace}
use Rattle.token_places.specs.Laws.{IsNoEarlier}
use Rattle.token_places.specs.Places.{Place, file_places, stretch}
use Rattle.token_places.proofs.OrderLemmas.{file_places_rise}
use Rattle.passages.specs.Lines.{Line, lines_met}
use Rattle.passages.specs.Order.{BeginFrom}
use Rattle.passages.specs.declared.passage.Passage.{Passage}
use Rattle.file_answers.specs.Searched.{passage_of, passages_of, place_of}

abbrev pub nothing : List Extent
nothing = []

-- no passage meets no line
pub met-none : (lines : List Line) → lines_met [] lines ≡ []
met-none [] = refl
met-none (line ∷ lines) = met-none lines

-- there is room behind an answer
pub member-below : (text : Text) (form : Form) (k : ℕ) (o : Option Extent) → IsText text → o ≡ first_start (concordance text form) k → IfSome o (λ a. a.start + 1 < far)
member-below text form k None sound is = tt
member-below text form k (Some a) sound is =
    let here = of_each (IsOf text) (concordance text form) a (each_of_text text (denotes text form)) (find_gives (λ y. leb k y.start) (concordance text form) a (sym is)).0 in
    let end : text.next ≤ address_end = sound.in_range in
    omega (arith, here.below, here.proper)

-- the place of a later address begins and ends no earlier
pub place-rises : (bytes : List ℕ) (i j : ℕ) → i ≤ j → IsNoEarlier (length bytes) (place_of bytes i) (place_of bytes j)
place-rises bytes i j before = elim (cases_Bool (leb (length (file_places bytes)) j)) [
  | inr inside ↦
      let within : j < length (file_places bytes) = leb-false (length (file_places bytes)) j inside in
      file_places_rise bytes i j end before within
  | inl past ↦
      let over : length (file_places bytes) ≤ j = leb-true (length (file_places bytes)) j past in
      let last : place_of bytes j ≡ end = get_or_past (file_places bytes) _ _ over in
      subst (λ (p : Place). IsNoEarlier (length bytes) (place_of bytes i) p) (sym last) (to_end (leb (length (file_places bytes)) i) refl)
]
  where
    end : Place
    end = stretch (length bytes) (length bytes)

    to_end : (t : Bool) → leb (length (file_places bytes)) i ≡ t → IsNoEarlier (length bytes) (place_of bytes i) (stretch (length bytes) (length bytes))
    to_end true past =
        let over : length (file_places bytes) ≤ i = leb-true (length (file_places bytes)) i past in
        let last : place_of bytes i ≡ stretch (length bytes) (length bytes) = get_or_past (file_places bytes) _ _ over in
        subst (λ (p : Place). IsNoEarlier (length bytes) p (stretch (length bytes) (length bytes))) (sym last) (record { first = omega arith; starts = omega arith; ends = omega arith; within = omega arith })
    to_end false inside =
        let within : i < length (file_places bytes) = leb-false (length (file_places bytes)) i inside in
        let here = file_places_rise bytes i i (stretch (length bytes) (length bytes)) (omega arith) within in
        record { first = here.first; starts = omega (arith, here.first, here.within); ends = here.within; within = omega arith }

-- the passages of members that start at or after an address do not begin in front of its place
from_members : (bytes : List ℕ) (k : ℕ) (list : List Extent) → AllByRecursion (λ a. k ≤ a.start) list → BeginFrom (place_of bytes k).from (passages_of bytes list)
from_members bytes k [] all = tt
from_members bytes k (a ∷ list) all = ((place-rises bytes k a.start all.0).starts, from_members bytes k list all.1)

all_from : (list : List Extent) (k : ℕ) → AllByRecursion (λ a. k ≤ a.start) (members_from list k)
all_from [] k = tt
all_from (x ∷ list) k = by_test (leb k x.start) refl (all_from list k)
  where
    by_test : (t : Bool) → leb k x.start ≡ t → AllByRecursion (λ a. k ≤ a.start) (members_from list k) → AllByRecursion (λ a. k ≤ a.start) (cond t (x ∷ members_from list k) (members_from list k))
    by_test true e rest = (leb-true k x.start e, rest)
    by_test false e rest = rest

all_taken : (P : Extent → Type 0) (n : ℕ) (list : List Extent) → AllByRecursion P list → AllByRecursion P (take n list)
all_taken P zero list all = tt
all_taken P (suc n) [] all = tt
all_taken P (suc n) (a ∷ list) all = (all.0, all_taken P n list all.1)

pub passages-from : (bytes : List ℕ) (list : List Extent) (k n : ℕ) → BeginFrom (place_of bytes k).from (passages_of bytes (take n (members_from list k)))
passages-from bytes list k n = from_members bytes k (take n (members_from list k)) (all_taken (λ a. k ≤ a.start) n (members_from list k) (all_from list k))

-- those behind a member do not begin in front of its passage
pub behind-from : (bytes : List ℕ) (list : List Extent) (a : Extent) (n : ℕ) → BeginFrom (passage_of bytes a).from (passages_of bytes (take n (members_from list (a.start + 1))))
behind-from bytes list a n =
    lower (passage_of bytes a).from (place_of bytes (a.start + 1)).from (passages_of bytes (take n (members_from list (a.start + 1)))) (place-rises bytes a.start (a.start + 1) (omega arith)).starts (passages-from bytes list (a.start + 1) n)
  where
    lower : (low high : ℕ) (ps : List Passage) → low ≤ high → BeginFrom high ps → BeginFrom low ps
    lower low high [] le all = tt
    lower low high (p ∷ ps) le all = (omega (arith, all.0), lower low high ps le all.1)

-- one answer more
pub taken-next : (text : Text) (form : Form) (k n m : ℕ) (a : Extent) → first_start (concordance text form) k ≡ Some a → n ≡ suc m →
    take n (members_from (concordance text form) k) ≡ a ∷ take m (members_from (concordance text form) (a.start + 1))
taken-next text form k n m a is more =
    ap (λ (j : ℕ). take j (members_from (concordance text form) k)) more ∙ ap (take (suc m)) (next_member (concordance text form) (concordance_rises text form) k a is)

none_taken : (n : ℕ) → take n [] ≡ nothing
none_taken zero = refl
none_taken (suc n) = refl

pub taken-none : (list : List Extent) (k n : ℕ) → first_start list k ≡ None → take n (members_from list k) ≡ nothing
taken-none list k n is = ap (take n) (no_member list k is) ∙ none_taken n

-- the passage of a member begins before it ends, and ends within the file
pub passage-ordered : (bytes : List ℕ) (a : Extent) (p : Passage) → p ≡ passage_of bytes a → a.start ≤ a.end → p.from ≤ p.to
passage-ordered bytes a p is ordered =
    let here = place-rises bytes a.start a.end ordered in
    let le : (place_of bytes a.start).from ≤ (place_of bytes a.end).to = omega (arith, here.first, here.ends) in
    subst (λ (q : Passage). q.from ≤ q.to) (sym is) le

pub passage-within : (bytes : List ℕ) (a : Extent) (p : Passage) → p ≡ passage_of bytes a → a.start ≤ a.end → p.to ≤ length bytes
passage-within bytes a p is ordered = subst (λ (q : Passage). q.to ≤ length bytes) (sym is) (place-rises bytes a.start a.end ordered).within

pub passage-ahead : (bytes : List ℕ) (a : Extent) (p : Passage) (reached k : ℕ) → p ≡ passage_of bytes a → reached ≤ (place_of bytes k).from → k ≤ a.start → reached ≤ p.from
passage-ahead bytes a p reached k is ahead later =
    let here = place-rises bytes k a.start later in
    let le : reached ≤ (place_of bytes a.start).from = omega (arith, here.starts) in
    subst (λ (q : Passage). reached ≤ q.from) (sym is) le

pub passage-behind : (bytes : List ℕ) (a : Extent) (p : Passage) (reached next : ℕ) → p ≡ passage_of bytes a → reached ≤ p.from → next ≡ a.start + 1 → reached ≤ (place_of bytes next).from
passage-behind bytes a p reached next is ahead onward =
    let here = place-rises bytes a.start (a.start + 1) (omega arith) in
    let le : reached ≤ (place_of bytes a.start).from = subst (λ (q : Passage). reached ≤ q.from) is ahead in
    subst (λ (k : ℕ). reached ≤ (place_of bytes k).from) (sym onward) (omega (arith, here.starts))

-- the passages that are left are that of the next member, and those behind it
pub passages-next : (bytes : List ℕ) (text : Text) (form : Form) (k n m next : ℕ) (a : Extent) (p : Passage) → Some a ≡ first_start (concordance text form) k → n ≡ suc m → p ≡ passage_of bytes a → next ≡ a.start + 1 →
    passages_of bytes (take n (members_from (concordance text form) k)) ≡ p ∷ passages_of bytes (take m (members_from (concordance text form) next))
passages-next bytes text form k n m next a p found more is onward =
    ap (passages_of bytes) (taken-next text form k n m a (sym found) more)
    ∙ ap (λ q. q ∷ passages_of bytes (take m (members_from (concordance text form) (a.start + 1)))) (sym is)
    ∙ ap (λ (j : ℕ). p ∷ passages_of bytes (take m (members_from (concordance text form) j))) (sym onward)

pub passages-behind : (bytes : List ℕ) (list : List Extent) (m next : ℕ) (a : Extent) (p : Passage) → p ≡ passage_of bytes a → next ≡ a.start + 1 →
    BeginFrom p.from (passages_of bytes (take m (members_from list next)))
passages-behind bytes list m next a p is onward =
    subst (λ (q : Passage). BeginFrom q.from (passages_of bytes (take m (members_from list next)))) (sym is)
    (subst (λ (j : ℕ). BeginFrom (passage_of bytes a).from (passages_of bytes (take m (members_from list j)))) (sym onward) (behind-from bytes list a m))

pub count-next : (text : Text) (form : Form) (k n m next : ℕ) (a : Extent) → Some a ≡ first_start (concordance text form) k → n ≡ suc m → next ≡ a.start + 1 →
    length (take n (members_from (concordance text form) k)) ≡ suc (length (take m (members_from (concordance text form) next)))
count-next text form k n m next a found more onward =
    ap length (taken-next text form k n m a (sym found) more) ∙ ap (λ (j : ℕ). suc (length (take m (members_from (concordance text form) j)))) (sym onward)

-- readers that passed no member at or after an address answer from there as the whole list does
pub answer-of_all : (text : Text) (form : Form) (readers : List ReaderPlace) (k : ℕ) (o : Option Extent) → start_at readers ≤ k → o ≡ first_start (left_to text form readers) k → o ≡ first_start (concordance text form) k
answer-of_all text form readers k o behind is = is ∙ agrees_at (concordance text form) (start_at readers) k behind

pub start-of_some : (n : ℕ) (o : Option Extent) → n ≤ start_or_end o → IfSome o (λ a. n ≤ a.start)
start-of_some n None le = tt
start-of_some n (Some a) le = le

-- and those that are before all members have all of them
pub all-left : (text : Text) (form : Form) (readers : List ReaderPlace) → start_at readers ≡ 0 → members_from (left_to text form readers) 0 ≡ concordance text form
all-left text form readers new =
    all_members (left_to text form readers) ∙ ap (members_from (concordance text form)) new ∙ all_members (concordance text form)

-- there is a first member if the list has one
pub some-first : (list : List Extent) (most : ℕ) (o : Option Extent) → o ≡ first_start list 0 → 0 < most → is_some o ≡ nat_lt 0 (length (take most list))
some-first list zero o is more = absurd (omega (arith, more))
some-first [] (suc m) o is more = ap is_some is
some-first (a ∷ list) (suc m) o is more =
    ap is_some (is ∙ ap (λ t. cond t (Some a) (first_start list 0)) (le-leb 0 a.start (omega arith))) ∙ sym (lt-ltb 0 (suc (length (take m list))) (omega arith))
