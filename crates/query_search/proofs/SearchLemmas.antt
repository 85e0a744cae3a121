-- The members of a rising list at or after an address, and what is left of them after a page.
use Rattle.std.proofs.Common.{◌≡◌, ℕ, zero, suc, ◌+◌, ◌-◌, ◌<◌, ◌≤◌, min, leb, List, [], ◌∷◌, ◌++◌, length, take, drop, inl, inr, refl, sym, ap, ◌∙◌, subst, arith, append_assoc}
use Rattle.std.proofs.lemmas.Bool.{cases_Bool, cases_lt, lt-leb, le-leb, leb-true}
use Rattle.std.proofs.lemmas.List.{take_all, drop_all, take-append-drop, length-take-le}
use Rattle.std.specs.List.{AllByRecursion}
use Rattle.gcl_model.specs.Extents.{Extent, IsAhead, IsRising}
use Rattle.gcl_model.specs.Texts.{Text}
use Rattle.gcl_model.specs.Forms.{Form}
use Rattle.gcl_model.specs.Meaning.{concordance, denotes}
use Rattle.gcl_model.proofs.Lists.{all_weaker}
use Rattle.gcl_model.proofs.Covers.{Has, of_each}
use Rattle.gcl_model.proofs.Meanings.{IsOf, each_of_text, concordance_rises}
use Rattle.gcl_eval.specs.Members.{members_from}
use Rattle.gcl_readers.specs.Reading.{behind_page}
use Rattle.gcl_cursor.proofs.LeftLemmas.{from_later}

-- members that each have a property keep it
kept : (P : Extent → Type 0) (k : ℕ) (list : List Extent) → AllByRecursion P list → AllByRecursion P (members_from list k)
kept P k [] all = tt
kept P k (x ∷ list) all =
    elim (cases_Bool (leb k x.start)) [
      | inl t ↦ rw t (all.0, kept P k list all.1)
      | inr f ↦ rw f (kept P k list all.1)
    ]

-- those at or after an address rise as the whole does
rises_from : (k : ℕ) (list : List Extent) → IsRising list → IsRising (members_from list k)
rises_from k [] r = tt
rises_from k (x ∷ list) r =
    elim (cases_Bool (leb k x.start)) [
      | inl t ↦ rw t (kept (IsAhead x) k list r.0, rises_from k list r.1)
      | inr f ↦ rw f (rises_from k list r.1)
    ]

-- all start at the address or after it
start_from : (k : ℕ) (list : List Extent) → AllByRecursion (λ (a : Extent). k ≤ a.start) (members_from list k)
start_from k [] = tt
start_from k (x ∷ list) =
    elim (cases_Bool (leb k x.start)) [
      | inl t ↦ rw t (leb-true k x.start t, start_from k list)
      | inr f ↦ rw f (start_from k list)
    ]

-- from an address that all come before there is none
pub none_from : (n : ℕ) (list : List Extent) → AllByRecursion (λ (a : Extent). a.start < n) list → members_from list n ≡ []
none_from n [] all = refl
none_from n (x ∷ list) all = rw (lt-leb n x.start all.0) (none_from n list all.1)

-- if one member starts no earlier than just before an address, all later ones start at or after it
all_later : (k : ℕ) (x : Extent) (list : List Extent) → AllByRecursion (IsAhead x) list → k ≤ x.start + 1 → members_from list k ≡ list
all_later k x [] ahead le = refl
all_later k x (a ∷ list) ahead le =
    let later : x.start < a.start = ahead.0.0 in
    rw (le-leb k a.start (omega arith)) (ap (λ rest. a ∷ rest) (all_later k x list ahead.1 le))

-- what is between two lists is a member of both put together
has_between : (before rest : List Extent) (a : Extent) → Has (before ++ a ∷ rest) a
has_between [] rest a = inl refl
has_between (x ∷ before) rest a = inr (has_between before rest a)

-- of a rising list, those that start after the start of a member are those after it
from_behind : (before rest : List Extent) (a : Extent) → IsRising (before ++ a ∷ rest) → members_from (before ++ a ∷ rest) (a.start + 1) ≡ rest
from_behind [] rest a r = rw (lt-leb (a.start + 1) a.start (omega arith)) (all_later (a.start + 1) a rest r.0 (omega arith))
from_behind (x ∷ before) rest a r =
    let ahead : x.start < a.start = (of_each (IsAhead x) (before ++ a ∷ rest) a r.0 (has_between before rest a)).0 in
    rw (lt-leb (a.start + 1) x.start (omega arith)) (from_behind before rest a r.1)

-- a rising list has no more members than there are addresses for them
pub few_rise : (k n : ℕ) (list : List Extent) → IsRising list → AllByRecursion (λ (a : Extent). k ≤ a.start) list → AllByRecursion (λ (a : Extent). a.start < n) list → length list ≤ n - k
few_rise k n [] r from before = omega arith
few_rise k n (x ∷ list) r from before =
    let low : k ≤ x.start = from.0 in
    let high : x.start < n = before.0 in
    let rest : length list ≤ n - (x.start + 1) = few_rise (x.start + 1) n list r.1 (all_weaker (IsAhead x) (λ (a : Extent). x.start + 1 ≤ a.start) (λ a ahead. let lt : x.start < a.start = ahead.0 in omega arith) list r.0) before.1 in
    omega arith

-- the members of a form over a text start before its end
pub start_before : (text : Text) (form : Form) → AllByRecursion (λ (a : Extent). a.start < text.next) (concordance text form)
start_before text form =
    all_weaker (IsOf text) (λ (a : Extent). a.start < text.next) (λ a of. let proper = of.proper in let below = of.below in omega arith) (concordance text form) (each_of_text text (denotes text form))

-- and so those at or after an address
pub start_before_from : (text : Text) (form : Form) (k : ℕ) → AllByRecursion (λ (a : Extent). a.start < text.next) (members_from (concordance text form) k)
start_before_from text form k = kept (λ (a : Extent). a.start < text.next) k (concordance text form) (start_before text form)

-- there are no more than addresses of the text
pub few_members : (text : Text) (form : Form) → length (concordance text form) ≤ text.next
few_members text form =
    let few : length (concordance text form) ≤ text.next - 0 = few_rise 0 text.next (concordance text form) (concordance_rises text form) (all_weaker (IsOf text) (λ (a : Extent). 0 ≤ a.start) (λ a of. omega arith) (concordance text form) (each_of_text text (denotes text form))) (start_before text form) in
    omega arith

-- where the members after a page start: after the start of its last one, or at the end if it is not full
pub record IsStartAfter (page : List Extent) (most end next : ℕ) : Type 0 where
  pub full : (before : List Extent) (last : Extent) → page ≡ before ++ last ∷ [] → most ≤ length page → next ≡ last.start + 1
  pub short : length page < most → next ≡ end

-- a list that is not empty has a last member
last_of_some : (list : List Extent) → 0 < length list → (before : List Extent) × (last : Extent) × (list ≡ before ++ last ∷ [])
last_of_some [] some = absurd (omega arith)
last_of_some (x ∷ []) some = ([], x, refl)
last_of_some (x ∷ y ∷ list) some =
    let rest = last_of_some (y ∷ list) (omega arith) in
    (x ∷ rest.0, rest.1, ap (λ l. x ∷ l) rest.2)

-- behind a page is behind the start of its last member
behind_last : (k : ℕ) (before : List Extent) (last : Extent) → behind_page k (before ++ last ∷ []) ≡ last.start + 1
behind_last k [] last = refl
behind_last k (a ∷ before) last = behind_last (a.start + 1) before last

-- after a full page that is behind the start of its last member
pub start_behind : (page : List Extent) (k most end next : ℕ) → IsStartAfter page most end next → 0 < most → most ≤ length page → next ≡ behind_page k page
start_behind page k most end next after some enough =
    let parts = last_of_some page (omega arith) in
    after.full parts.0 parts.1 parts.2 enough ∙ sym (behind_last k parts.0 parts.1) ∙ sym (ap (behind_page k) parts.2)

-- what is taken of members that each have a property has it
taken : (P : Extent → Type 0) (n : ℕ) (list : List Extent) → AllByRecursion P list → AllByRecursion P (take n list)
taken P zero list all = tt
taken P (suc n) [] all = tt
taken P (suc n) (x ∷ list) all = (all.0, taken P n list all.1)

-- the members of a page start before the end
pub page_before : (text : Text) (form : Form) (k most end : ℕ) (page : List Extent) → end ≡ text.next → page ≡ take most (members_from (concordance text form) k)
    → AllByRecursion (λ (a : Extent). a.start < end) page
page_before text form k most end page is_end is =
    let all : AllByRecursion (λ (a : Extent). a.start < text.next) page =
    subst (AllByRecursion (λ (a : Extent). a.start < text.next)) (sym is) (taken (λ (a : Extent). a.start < text.next) most (members_from (concordance text form) k) (start_before_from text form k)) in
    subst (λ (n : ℕ). AllByRecursion (λ (a : Extent). a.start < n) page) (sym is_end) all

-- if the address is at the end no member is left
pub none_at_end : (text : Text) (form : Form) (end : ℕ) → end ≡ text.next → members_from (concordance text form) end ≡ []
none_at_end text form end is =
    none_from end (concordance text form) (subst (λ (n : ℕ). AllByRecursion (λ (a : Extent). a.start < n) (concordance text form)) (sym is) (start_before text form))

-- none starts past the end, so those at or after an address are those at or after it or the end
pub from_end : (text : Text) (form : Form) (k end from : ℕ) → end ≡ text.next → from ≡ min k end → members_from (concordance text form) from ≡ members_from (concordance text form) k
from_end text form k end from is_end is =
    elim (cases_lt k end) [
      | inl lt ↦ let same : from ≡ k = omega arith in ap (λ (n : ℕ). members_from (concordance text form) n) same
      | inr ge ↦
          let same : from ≡ end = omega arith in
          let before : AllByRecursion (λ (a : Extent). a.start < k) (concordance text form) =
          all_weaker (λ (a : Extent). a.start < text.next) (λ (a : Extent). a.start < k) (λ a lt. omega arith) (concordance text form) (start_before text form) in
          ap (λ (n : ℕ). members_from (concordance text form) n) same ∙ none_at_end text form end is_end ∙ sym (none_from k (concordance text form) before)
    ]

-- a page with fewer members than were asked for leaves none
short_page : (all : List Extent) (k most end next : ℕ) (page : List Extent) → members_from all end ≡ [] → page ≡ take most (members_from all k)
    → IsStartAfter page most end next → length (members_from all k) < most → members_from all next ≡ drop most (members_from all k)
short_page all k most end next page none is after less =
    let list : List Extent = members_from all k in
    let le : length list ≤ most = omega arith in
    let same : page ≡ list = is ∙ take_all most list le in
    let fewer : length page < most = subst (λ (l : List Extent). length l < most) (sym same) less in
    ap (λ (n : ℕ). members_from all n) (after.short fewer) ∙ none ∙ sym (drop_all most list le)

-- a full page leaves those that start after its last member
full_page : (all : List Extent) (k most end next : ℕ) (page : List Extent) → IsRising all → 0 < most → page ≡ take most (members_from all k)
    → IsStartAfter page most end next → most ≤ length (members_from all k) → members_from all next ≡ drop most (members_from all k)
full_page all k most end next page rises some is after enough =
    let list : List Extent = members_from all k in
    let count : length page ≡ most = ap length is ∙ length-take-le most list enough in
    let parts = last_of_some page (omega arith) in
    let before : List Extent = parts.0 in
    let last : Extent = parts.1 in
    let ends : page ≡ before ++ last ∷ [] = parts.2 in
    let rest : List Extent = drop most list in
    let whole : list ≡ before ++ last ∷ rest =
    sym (take-append-drop most list) ∙ ap (λ (l : List Extent). l ++ rest) (sym is ∙ ends) ∙ append_assoc before (last ∷ []) rest in
    let rising : IsRising (before ++ last ∷ rest) = subst IsRising whole (rises_from k all rises) in
    let within : AllByRecursion (λ (a : Extent). k ≤ a.start) (before ++ last ∷ rest) = subst (AllByRecursion (λ (a : Extent). k ≤ a.start)) whole (start_from k all) in
    let low : k ≤ last.start = of_each (λ (a : Extent). k ≤ a.start) (before ++ last ∷ rest) last within (has_between before rest last) in
    let full : most ≤ length page = omega arith in
    let later : k ≤ last.start + 1 = omega arith in
    ap (λ (n : ℕ). members_from all n) (after.full before last ends full)
    ∙ sym (from_later k (last.start + 1) all later)
    ∙ ap (λ (l : List Extent). members_from l (last.start + 1)) whole
    ∙ from_behind before rest last rising

-- after that the members are what a page of those at or after an address leaves
pub after_page : (text : Text) (form : Form) (k most end next : ℕ) (page : List Extent) → end ≡ text.next → 0 < most
    → page ≡ take most (members_from (concordance text form) k) → IsStartAfter page most end next
    → members_from (concordance text form) next ≡ drop most (members_from (concordance text form) k)
after_page text form k most end next page is_end some is after =
    elim (cases_lt (length (members_from (concordance text form) k)) most) [
      | inl less ↦ short_page (concordance text form) k most end next page (none_at_end text form end is_end) is after less
      | inr enough ↦ full_page (concordance text form) k most end next page (concordance_rises text form) some is after enough
    ]
