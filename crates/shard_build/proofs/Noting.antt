-- The names that were seen, noted anew by their numbers, and names that are put in another order while none was seen.
use Rattle.std.proofs.Common.{◌≡◌, ℕ, zero, suc, ◌+◌, ◌<◌, ◌≤◌, false, List, [], ◌∷◌, ◌++◌, length, bytes_eq, nat_eq, inl, inr, refl, sym, ap, ◌∙◌, subst, arith}
use Rattle.std.specs.List.{AllByRecursion, IsDistinct}
use Rattle.std.specs.List.Sorted.{IsPermutation}
use Rattle.std.specs.Map.{keys_of}
use Rattle.std.proofs.lemmas.Bool.{cases_Bool}
use Rattle.std.proofs.lemmas.Bool.Decides.{Decides-eqb}
use Rattle.std.proofs.lemmas.List.Elements.{All-from_recursion, recursion_from_All}
use Rattle.std.proofs.lemmas.List.Sorted.{All-permutation}
use Rattle.index_shard.proofs.TableLaws.{all_push}
use Rattle.shard_build.specs.Met.{AreNames, IsNoted, filled, list_at, names_of, times}
use Rattle.shard_build.specs.declared.seen.Seen.{Seen}
use Rattle.shard_build.proofs.NameLists.{Entries}
use Rattle.shard_build.proofs.SeenNames.{not_same, one, one_same, one_other, times_push}

-- the names starting at a number are noted once if they have addresses, and those before it are not
pub record AreFrom (es : Entries) (number : ℕ) (seen : List Seen) : Type 0 where
  pub before : (i : ℕ) → i < number → times i seen ≡ 0
  pub behind : (i : ℕ) → number ≤ i → times i seen ≡ filled (list_at es i)
  pub noted : AllByRecursion (IsNoted (keys_of es)) seen

-- what is not before a number and not that number is after it
behind_it : (number i next : ℕ) → number ≤ i → number + 1 ≡ next → (number ≡ i → ⊥) → next ≤ i
behind_it zero zero next le follows other = absurd (other refl)
behind_it zero (suc i) next le follows other = omega (arith, follows)
behind_it (suc number) zero next le follows other = absurd (omega (arith, le))
behind_it (suc number) (suc i) next le follows other =
    let rest = behind_it number i (number + 1) (omega (arith, le)) refl (λ same. other (ap suc same)) in
    omega (arith, rest, follows)

-- a name with addresses is noted
pub from_filled : (es : Entries) (number next : ℕ) (seen all : List Seen) (s : Seen) → all ≡ seen ++ s ∷ [] → s.number ≡ number → number + 1 ≡ next → filled (list_at es number) ≡ 1 → IsNoted (keys_of es) s →
    AreFrom es next seen → AreFrom es number all
from_filled es number next seen all s is numbered follows full noted names = record {
  before = λ i lt.
      let none = names.before i (omega (arith, lt, follows)) in
      elim (cases_Bool (nat_eq s.number i)) [
        | inl h ↦ let same = (Decides-eqb s.number i).0 h in absurd (omega (arith, same, numbered, lt))
        | inr h ↦ let here = one_other i s h in let m = more i in omega (arith, m, none, here)
      ];
  behind = λ i le.
      let m = more i in
      elim (cases_Bool (nat_eq s.number i)) [
        | inl h ↦
            let same : number ≡ i = sym numbered ∙ (Decides-eqb s.number i).0 h in
            let none = names.before i (omega (arith, same, follows)) in
            let here = one_same i s (numbered ∙ same) in
            let once : filled (list_at es i) ≡ 1 = ap (λ j. filled (list_at es j)) (sym same) ∙ full in
            omega (arith, m, none, here, once)
        | inr h ↦
            let here = one_other i s h in
            let was = names.behind i (later i le h) in
            omega (arith, m, here, was)
      ];
  noted = subst (AllByRecursion (IsNoted (keys_of es))) (sym is) (all_push (IsNoted (keys_of es)) seen s names.noted noted);
}
  where
    more : (i : ℕ) → times i all ≡ times i seen + one i s
    more i = ap (times i) is ∙ times_push i seen s

    later : (i : ℕ) → number ≤ i → nat_eq s.number i ≡ false → next ≤ i
    later i le other = behind_it number i next le follows (λ same. not_same s.number i other (numbered ∙ same))

-- a name without addresses is passed over
pub from_empty : (es : Entries) (number next : ℕ) (seen : List Seen) → number + 1 ≡ next → filled (list_at es number) ≡ 0 → AreFrom es next seen → AreFrom es number seen
from_empty es number next seen follows none names = record {
  before = λ i lt. names.before i (omega (arith, lt, follows));
  behind = λ i le.
      elim (cases_Bool (nat_eq number i)) [
        | inl h ↦
            let same : number ≡ i = (Decides-eqb number i).0 h in
            names.before i (omega (arith, same, follows)) ∙ sym none ∙ ap (λ j. filled (list_at es j)) same
        | inr h ↦ names.behind i (behind_it number i next le follows (not_same number i h))
      ];
  noted = names.noted;
}

-- ---- whether a list has addresses

-- a list of no length is empty
pub none_there : (list : List ℕ) → length list ≤ 0 → filled list ≡ 0
none_there [] none = refl
none_there (p ∷ ps) none = absurd (omega (arith, none))

-- and any other is not
pub some_there : (list : List ℕ) → 0 < length list → filled list ≡ 1
some_there [] some = absurd (omega (arith, some))
some_there (p ∷ ps) some = refl

-- ---- in another order

-- if no number has addresses, no name has
all_empty : (es : Entries) → ((i : ℕ) → filled (list_at es i) ≡ 0) → AllByRecursion (λ (e : List ℕ × List ℕ). filled e.1 ≡ 0) es
all_empty [] none = tt
all_empty (e ∷ es) none = (none zero, all_empty es (λ i. none (suc i)))

-- and the other way round
empty_at : (es : Entries) → AllByRecursion (λ (e : List ℕ × List ℕ). filled e.1 ≡ 0) es → (i : ℕ) → filled (list_at es i) ≡ 0
empty_at [] all i = refl
empty_at (e ∷ es) all zero = all.0
empty_at (e ∷ es) all (suc i) = empty_at es all.1 i

-- while none was seen the names may change their numbers
pub names_reordered : (es fs : Entries) → IsPermutation es fs → IsDistinct bytes_eq (keys_of fs) → AreNames (names_of es []) → AreNames (names_of fs [])
names_reordered es fs permutation distinct names =
    let IsEmpty : List ℕ × List ℕ → Type 0 = λ e. filled e.1 ≡ 0 in
    let all = all_empty es (λ i. sym (names.once i)) in
    let moved = recursion_from_All IsEmpty fs (All-permutation IsEmpty es fs permutation (All-from_recursion IsEmpty es all)) in
    record {
      distinct = distinct;
      once = λ i. sym (empty_at fs moved i);
      noted = tt;
    }
