-- The terms that begin with a prefix are consecutive in a rising table.
use Rattle.std.proofs.Common.{nat_cmp, Ordering, ◌≡◌, ◌⊎◌, ℕ, zero, suc, ◌+◌, ◌-◌, ◌<◌, ◌≤◌, Bool, true, false, cond, map, List, [], ◌∷◌, length, bytes_eq, slice_get, Option, Some, None, inl, inr, refl, sym, ap, ◌∙◌, subst, arith}
use Rattle.std.specs.List.{AllByRecursion}
use Rattle.std.specs.Option.{option_map}
use Rattle.std.specs.Ordering.{ordering_then}
use Rattle.std.specs.Cmp.Lexicographic.{slice_cmp}
use Rattle.std.specs.declared.cmp.Ordering.TheVariants.{Less, Equal, Greater}
use Rattle.std.proofs.lemmas.Bool.{true≢false, and_parts, and_from, eqb-true, eq-eqb, cases_lt, false_from_ne_true}
use Rattle.std.proofs.lemmas.Slice.Eq.{bytes_eq-Decides}
use Rattle.std.proofs.lemmas.Cmp.{ranked}
use Rattle.std.proofs.lemmas.Option.{slice_get_within}
use Rattle.gcl_model.specs.Slots.{SlotRange}
use Rattle.gcl_model.specs.Wide.{begins_with}
use Rattle.index_shard.specs.Tables.{TermEntry, IsTable, Precedes, comes_from, least_term, place_of}
use Rattle.wide_terms.specs.Vocabulary.{ComesBefore, RiseInBytes}
use Rattle.wide_terms.proofs.Tokens.{before_trans}
use Rattle.prefix_terms.specs.Runs.{names, IsFirstAbove, IsRun}

-- what lies between a prefix and a token that begins with it begins with it, too
pub between_begins : (low s t : List ℕ) → (slice_cmp nat_cmp s low ≡ Less → ⊥) → ComesBefore s t → begins_with low t ≡ true → begins_with low s ≡ true
between_begins [] s t above less begins = refl
between_begins (l ∷ ls) [] t above less begins = absurd (above refl)
between_begins (l ∷ ls) (y ∷ ys) [] above less begins = absurd (true≢false (sym begins))
between_begins (l ∷ ls) (y ∷ ys) (x ∷ xs) above less begins =
    let p = and_parts _ _ begins in
    let same : x ≡ l = eqb-true x l p.0 in
    here (nat_cmp y l) refl above (subst (λ z. ordering_then (nat_cmp y z) (slice_cmp nat_cmp ys xs) ≡ Less) same less) (λ a b. between_begins ls ys xs a b p.1)
  where
    here : (o : Ordering) → nat_cmp y l ≡ o → (ordering_then o (slice_cmp nat_cmp ys ls) ≡ Less → ⊥) → ordering_then o (slice_cmp nat_cmp ys xs) ≡ Less →
        ((slice_cmp nat_cmp ys ls ≡ Less → ⊥) → slice_cmp nat_cmp ys xs ≡ Less → begins_with ls ys ≡ true) → begins_with (l ∷ ls) (y ∷ ys) ≡ true
    here Less is above less rest = absurd (above refl)
    here Greater is above less rest = absurd cc
    here Equal is above less rest =
        let same : y ≡ l = ranked y l Equal (sym is) in
        and_from _ _ (eq-eqb y l same) (rest above less)

-- a token that begins with a prefix does not come before it
pub begins_above : (low t : List ℕ) → begins_with low t ≡ true → slice_cmp nat_cmp t low ≡ Less → ⊥
begins_above [] [] begins less = absurd cc
begins_above [] (x ∷ xs) begins less = absurd cc
begins_above (l ∷ ls) [] begins less = true≢false (sym begins)
begins_above (l ∷ ls) (x ∷ xs) begins less =
    let p = and_parts _ _ begins in
    here (nat_cmp x l) refl (eqb-true x l p.0) less (begins_above ls xs p.1)
  where
    here : (o : Ordering) → nat_cmp x l ≡ o → x ≡ l → ordering_then o (slice_cmp nat_cmp xs ls) ≡ Less → (slice_cmp nat_cmp xs ls ≡ Less → ⊥) → ⊥
    here Less is same less rest = let lt : x < l = ranked x l Less (sym is) in absurd (omega arith)
    here Equal is same less rest = rest less
    here Greater is same less rest = absurd cc

-- tables
pub table_rises : (range : SlotRange) (es : List TermEntry) → IsTable range es → RiseInBytes (names es)
table_rises range [] table = tt
table_rises range (e ∷ es) table = (after es table.1, table_rises range es table.2)
  where
    after : (ds : List TermEntry) → AllByRecursion (Precedes e) ds → AllByRecursion (ComesBefore e.term) (names ds)
    after [] all = tt
    after (d ∷ ds) all = (all.0.terms, after ds all.1)

at_all : (P : List ℕ → Type 0) (tokens : List (List ℕ)) (k : ℕ) (t : List ℕ) → AllByRecursion P tokens → slice_get tokens k ≡ Some t → P t
at_all P [] k t all is = absurd cc
at_all P (x ∷ xs) zero t all is = let same : x ≡ t = cc in subst P same all.0
at_all P (x ∷ xs) (suc k) t all is = at_all P xs k t all.1 is

pub later_after : (tokens : List (List ℕ)) (i k : ℕ) (s t : List ℕ) → RiseInBytes tokens → slice_get tokens i ≡ Some s → slice_get tokens k ≡ Some t → i < k → ComesBefore s t
later_after [] i k s t rising at_i at_k lt = absurd cc
later_after (x ∷ xs) i zero s t rising at_i at_k lt = absurd (omega arith)
later_after (x ∷ xs) zero (suc k) s t rising at_i at_k lt = let same : x ≡ s = cc in subst (λ z. ComesBefore z t) same (at_all (ComesBefore x) xs k t rising.0 at_k)
later_after (x ∷ xs) (suc i) (suc k) s t rising at_i at_k lt = later_after xs i k s t rising.1 at_i at_k (omega arith)

-- the place of the first token that is not before the low one
not_from : (o : Ordering) → comes_from false o ≡ false → o ≡ Less
not_from Less is = refl
not_from Equal is = absurd (true≢false is)
not_from Greater is = absurd (true≢false is)

from_not : (o : Ordering) → comes_from false o ≡ true → o ≡ Less → ⊥
from_not Less is less = true≢false (sym is)
from_not Equal is less = absurd cc
from_not Greater is less = absurd cc

first_later : (x : List ℕ) (tokens : List (List ℕ)) (low : List ℕ) (i : ℕ) → slice_cmp nat_cmp x low ≡ Less → IsFirstAbove tokens low i → IsFirstAbove (x ∷ tokens) low (suc i)
first_later x tokens low i less first = record {
  within = let le = first.within in omega arith;
  before = before;
  behind = behind;
}
  where
    before : (k : ℕ) (token : List ℕ) → slice_get (x ∷ tokens) k ≡ Some token → k < suc i → slice_cmp nat_cmp token low ≡ Less
    before zero token is lt = let same : x ≡ token = cc in ap (λ t. slice_cmp nat_cmp t low) (sym same) ∙ less
    before (suc k) token is lt = first.before k token is (omega arith)

    behind : (k : ℕ) (token : List ℕ) → slice_get (x ∷ tokens) k ≡ Some token → suc i ≤ k → slice_cmp nat_cmp token low ≡ Less → ⊥
    behind zero token is le = absurd (omega arith)
    behind (suc k) token is le = first.behind k token is (omega arith)

first_here : (x : List ℕ) (tokens : List (List ℕ)) (low : List ℕ) → RiseInBytes (x ∷ tokens) → (slice_cmp nat_cmp x low ≡ Less → ⊥) → IsFirstAbove (x ∷ tokens) low 0
first_here x tokens low rising above = record { within = omega arith; before = λ k token is lt. absurd (omega arith); behind = behind }
  where
    behind : (k : ℕ) (token : List ℕ) → slice_get (x ∷ tokens) k ≡ Some token → 0 ≤ k → slice_cmp nat_cmp token low ≡ Less → ⊥
    behind zero token is le less = let same : x ≡ token = cc in above (ap (λ t. slice_cmp nat_cmp t low) same ∙ less)
    behind (suc k) token is le less = above (before_trans x token low (at_all (ComesBefore x) tokens k token rising.0 is) less)

option_suc : (o : Option ℕ) (i : ℕ) → option_map (λ n. n + 1) o ≡ Some i → (j : ℕ) × (o ≡ Some j) × (i ≡ suc j)
option_suc None i is = absurd cc
option_suc (Some j) i is = let e : j + 1 ≡ i = cc in (j, refl, omega arith)

-- at its place is the term
pub named_at : (es : List TermEntry) (term : List ℕ) (i : ℕ) → place_of es term ≡ Some i → slice_get (names es) i ≡ Some term
named_at [] term i is = absurd cc
named_at (e ∷ es) term i is = here (bytes_eq e.term term) refl is (named_at es term)
  where
    here : (b : Bool) → bytes_eq e.term term ≡ b → cond b (Some 0) (option_map (λ n. n + 1) (place_of es term)) ≡ Some i → ((j : ℕ) → place_of es term ≡ Some j → slice_get (names es) j ≡ Some term) →
        slice_get (names (e ∷ es)) i ≡ Some term
    here true same is rest = let zeroth : 0 ≡ i = cc in ap (slice_get (names (e ∷ es))) (sym zeroth) ∙ ap Some ((bytes_eq-Decides e.term term).0 same)
    here false other is rest = let r = option_suc (place_of es term) i is in ap (slice_get (names (e ∷ es))) r.2 ∙ rest r.0 r.1

pub record IsPlaced (es : List TermEntry) (low term : List ℕ) : Type 0 where
  pub place : ℕ
  pub is : place_of es term ≡ Some place
  pub first : IsFirstAbove (names es) low place

-- if a table has a least term at or after the low one, its place is the first
pub least_placed : (range : SlotRange) (es : List TermEntry) (low term : List ℕ) → IsTable range es → least_term es low false ≡ Some term → IsPlaced es low term
least_placed range [] low term table least = absurd cc
least_placed range (e ∷ es) low term table least =
    here (comes_from false (slice_cmp nat_cmp e.term low)) refl least (λ is. least_placed range es low term table.2 is)
  where
    later : IsPlaced es low term → slice_cmp nat_cmp e.term low ≡ Less → (b : Bool) → bytes_eq e.term term ≡ b → (i : ℕ) × (cond b (Some 0) (option_map (λ n. n + 1) (place_of es term)) ≡ Some i) × IsFirstAbove (names (e ∷ es)) low i
    later rest less true same =
        let is : e.term ≡ term = (bytes_eq-Decides e.term term).0 same in
        absurd (rest.first.behind rest.place term (named_at es term rest.place rest.is) (omega arith) (ap (λ t. slice_cmp nat_cmp t low) (sym is) ∙ less))
    later rest less false other = (suc rest.place, ap (option_map (λ n. n + 1)) rest.is ∙ ap Some (omega arith), first_later e.term (names es) low rest.place less rest.first)

    here : (b : Bool) → comes_from false (slice_cmp nat_cmp e.term low) ≡ b → cond b (Some e.term) (least_term es low false) ≡ Some term → (least_term es low false ≡ Some term → IsPlaced es low term) → IsPlaced (e ∷ es) low term
    here true from is rest =
        let same : e.term ≡ term = cc in
        record {
          place = 0;
          is = ap (λ b. cond b (Some 0) (option_map (λ n. n + 1) (place_of es term))) ((bytes_eq-Decides e.term term).1 same);
          first = first_here e.term (names es) low (table_rises range (e ∷ es) table) (from_not (slice_cmp nat_cmp e.term low) from);
        }
    here false from is rest =
        let r = later (rest is) (not_from (slice_cmp nat_cmp e.term low) from) (bytes_eq e.term term) refl in
        record { place = r.0; is = r.1; first = r.2 }

pub least_none : (es : List TermEntry) (low : List ℕ) → least_term es low false ≡ None → IsFirstAbove (names es) low (length es)
least_none [] low least = record { within = omega arith; before = λ k token is lt. absurd cc; behind = λ k token is le. absurd cc }
least_none (e ∷ es) low least = here (comes_from false (slice_cmp nat_cmp e.term low)) refl least (least_none es low)
  where
    here : (b : Bool) → comes_from false (slice_cmp nat_cmp e.term low) ≡ b → cond b (Some e.term) (least_term es low false) ≡ None → (least_term es low false ≡ None → IsFirstAbove (names es) low (length es)) →
        IsFirstAbove (names (e ∷ es)) low (length (e ∷ es))
    here true from is rest = absurd cc
    here false from is rest = first_later e.term (names es) low (length es) (not_from (slice_cmp nat_cmp e.term low) from) (rest is)

-- rows that begin at the first token that is not before the prefix
module _ (tokens : List (List ℕ)) (prefix : List ℕ) (start end : ℕ) (first : IsFirstAbove tokens prefix start) (ordered : start ≤ end) (within : end ≤ length tokens)
    (inside : (k : ℕ) (token : List ℕ) → slice_get tokens k ≡ Some token → start ≤ k → k < end → begins_with prefix token ≡ true) where
  before : (k : ℕ) (token : List ℕ) → slice_get tokens k ≡ Some token → k < start → begins_with prefix token ≡ false
  before k token is lt = false_from_ne_true (begins_with prefix token) (λ begins. begins_above prefix token begins (first.before k token is lt))

  -- the last token of all is in the row
  pub run_ends : length tokens ≤ end → IsRun tokens prefix start end
  run_ends all = record {
    ordered = ordered;
    within = within;
    before = before;
    inside = inside;
    behind = λ k token is le. let lt = slice_get_within tokens k token is in absurd (omega arith);
  }

  -- or one that does not begin with the prefix comes after it
  pub run_stops : (stop : List ℕ) → RiseInBytes tokens → slice_get tokens end ≡ Some stop → begins_with prefix stop ≡ false → IsRun tokens prefix start end
  run_stops stop rising at fails = record {
    ordered = ordered;
    within = within;
    before = before;
    inside = inside;
    behind = λ k token is le. false_from_ne_true (begins_with prefix token) (λ begins. true≢false (sym (stop_begins k token is begins (cases_lt end k) le) ∙ fails));
  }
    where
      stop_begins : (k : ℕ) (token : List ℕ) → slice_get tokens k ≡ Some token → begins_with prefix token ≡ true → (end < k) ⊎ (k ≤ end) → end ≤ k → begins_with prefix stop ≡ true
      stop_begins k token is begins (inl later) le = between_begins prefix stop token (first.behind end stop at ordered) (later_after tokens end k stop token rising at is later) begins
      stop_begins k token is begins (inr upto) le =
          let here : k ≡ end = omega arith in
          let same : token ≡ stop = let e : Some token ≡ Some stop = sym is ∙ ap (slice_get tokens) here ∙ at in cc in
          ap (begins_with prefix) (sym same) ∙ begins

-- a row of one token more
pub inside_more : (tokens : List (List ℕ)) (prefix : List ℕ) (start end : ℕ) (last : List ℕ) → slice_get tokens end ≡ Some last → begins_with prefix last ≡ true →
    ((k : ℕ) (token : List ℕ) → slice_get tokens k ≡ Some token → start ≤ k → k < end → begins_with prefix token ≡ true) →
    (k : ℕ) (token : List ℕ) → slice_get tokens k ≡ Some token → start ≤ k → k < end + 1 → begins_with prefix token ≡ true
inside_more tokens prefix start end last at begins inside k token is from upto = elim (cases_lt k end) [
  | inl lt ↦ inside k token is from lt
  | inr ge ↦
      let here : k ≡ end = omega arith in
      let same : token ≡ last = let e : Some token ≡ Some last = sym is ∙ ap (slice_get tokens) here ∙ at in cc in
      ap (begins_with prefix) same ∙ begins
]
