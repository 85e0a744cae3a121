-- The names that were seen: one more, one less, and in another order.
use Rattle.std.proofs.Common.{◌≡◌, ℕ, zero, suc, ◌+◌, ◌<◌, false, cond, List, [], ◌∷◌, ◌++◌, length, bytes_eq, nat_eq, inl, inr, refl, sym, ap, ◌∙◌, subst, arith}
use Rattle.std.specs.List.{AllByRecursion, IsDistinct}
use Rattle.std.specs.List.Sorted.{IsPermutation}
use Rattle.std.specs.Map.{keys_of}
use Rattle.std.proofs.lemmas.Bool.{cases_Bool}
use Rattle.std.proofs.lemmas.Bool.Decides.{Decides-eqb}
use Rattle.std.proofs.lemmas.List.{length-map, length_push}
use Rattle.std.proofs.lemmas.List.Elements.{All-from_recursion, recursion_from_All}
use Rattle.std.proofs.lemmas.List.Sorted.{All-permutation, sum_by-IsPermutation}
use Rattle.std.proofs.lemmas.List.Sums.{sum_by-cons, sum_by_push}
use Rattle.index_shard.specs.Kept.{leading}
use Rattle.index_shard.proofs.TableLaws.{all_push}
use Rattle.shard_build.specs.Met.{AreNames, IsNoted, AreBytes, filled, list_at, names_of, times, with_list}
use Rattle.shard_build.specs.declared.seen.Seen.{Seen}
use Rattle.shard_build.proofs.NameLists.{Entries, keys_set, list_set_same, list_set_other, filled_le, list_pushed, name_pushed}

-- 1 if it has this number, and else 0
abbrev pub one : ℕ → Seen → ℕ
one number s = cond (nat_eq s.number number) 1 0

pub one_same : (number : ℕ) (s : Seen) → s.number ≡ number → one number s ≡ 1
one_same number s same = ap (λ b. cond b 1 0) ((Decides-eqb s.number number).1 same)

pub one_other : (number : ℕ) (s : Seen) → nat_eq s.number number ≡ false → one number s ≡ 0
one_other number s other = ap (λ b. cond b 1 0) other

pub times_push : (number : ℕ) (seen : List Seen) (s : Seen) → times number (seen ++ s ∷ []) ≡ times number seen + one number s
times_push number seen s = sum_by_push (one number) seen s

pub times_cons : (number : ℕ) (s : Seen) (seen : List Seen) → times number (s ∷ seen) ≡ one number s + times number seen
times_cons number s seen = sum_by-cons (one number) s seen

pub not_same : (a b : ℕ) → nat_eq a b ≡ false → a ≡ b → ⊥
not_same a b differs same = let yes = sym ((Decides-eqb a b).1 same) ∙ differs in absurd cc

pub all_front : {X : Type 0} (P : X → Type 0) (xs : List X) (x : X) → AllByRecursion P (xs ++ x ∷ []) → AllByRecursion P xs
all_front P [] x all = tt
all_front P (y ∷ ys) x all = (all.0, all_front P ys x all.1)

all_last : {X : Type 0} (P : X → Type 0) (xs : List X) (x : X) → AllByRecursion P (xs ++ x ∷ []) → P x
all_last P [] x all = all.0
all_last P (y ∷ ys) x all = all_last P ys x all.1

-- what is noted of the last that was seen is right
pub last_noted : (es : Entries) (seen all : List Seen) (s : Seen) → all ≡ seen ++ s ∷ [] → AreNames (names_of es all) → IsNoted (keys_of es) s
last_noted es seen all s is names = all_last (IsNoted (keys_of es)) seen s (subst (AllByRecursion (IsNoted (keys_of es))) is names.noted)

-- so it is one of the names
pub last_within : (es : Entries) (seen all : List Seen) (s : Seen) → all ≡ seen ++ s ∷ [] → AreNames (names_of es all) → s.number < length es
last_within es seen all s is names =
    let last = last_noted es seen all s is names in
    let long = length-map es (λ e. e.0) in
    omega (arith, last.within, long)

-- one less is seen, and its list is empty
pub names_less : (es fs : Entries) (seen all : List Seen) (s : Seen) → all ≡ seen ++ s ∷ [] → fs ≡ with_list es s.number [] → AreNames (names_of es all) → AreNames (names_of fs seen)
names_less es fs seen all s is set names = record {
  distinct = subst (IsDistinct bytes_eq) (sym keys) names.distinct;
  once = counted;
  noted = subst (λ ks. AllByRecursion (IsNoted ks) seen) (sym keys) (all_front (IsNoted (keys_of es)) seen s (subst (AllByRecursion (IsNoted (keys_of es))) is names.noted));
}
  where
    keys : keys_of fs ≡ keys_of es
    keys = ap keys_of set ∙ keys_set es s.number []

    lt : s.number < length es
    lt = last_within es seen all s is names

    counted : (number : ℕ) → times number seen ≡ filled (list_at fs number)
    counted number =
        let was : times number all ≡ filled (list_at es number) = names.once number in
        let more : times number all ≡ times number seen + one number s = ap (times number) is ∙ times_push number seen s in
        let most = filled_le (list_at es number) in
        elim (cases_Bool (nat_eq s.number number)) [
          | inl h ↦
              let same : s.number ≡ number = (Decides-eqb s.number number).0 h in
              let here = one_same number s same in
              let none : times number seen ≡ 0 = omega (arith, was, more, most, here) in
              let empty : list_at fs number ≡ [] = ap (λ l. list_at l number) set ∙ ap (list_at (with_list es s.number [])) (sym same) ∙ list_set_same es s.number [] lt in
              none ∙ sym (ap filled empty)
          | inr h ↦
              let here = one_other number s h in
              let same : times number seen ≡ filled (list_at es number) = omega (arith, was, more, here) in
              let kept : list_at fs number ≡ list_at es number = ap (λ l. list_at l number) set ∙ list_set_other es s.number number [] (not_same s.number number h) in
              same ∙ sym (ap filled kept)
        ]

-- one more is seen: it had no addresses, and has one
pub names_more : (es fs : Entries) (seen all : List Seen) (s : Seen) (i : ℕ) (w : List ℕ) → all ≡ seen ++ s ∷ [] → s.number ≡ i → fs ≡ with_list es i w → i < length es → list_at es i ≡ [] → filled w ≡ 1 →
    IsNoted (keys_of fs) s → AreNames (names_of es seen) → AreNames (names_of fs all)
names_more es fs seen all s i w is numbered set lt empty full noted names = record {
  distinct = subst (IsDistinct bytes_eq) (sym keys) names.distinct;
  once = counted;
  noted = subst (AllByRecursion (IsNoted (keys_of fs))) (sym is) (all_push (IsNoted (keys_of fs)) seen s (subst (λ ks. AllByRecursion (IsNoted ks) seen) (sym keys) names.noted) noted);
}
  where
    keys : keys_of fs ≡ keys_of es
    keys = ap keys_of set ∙ keys_set es i w

    counted : (number : ℕ) → times number all ≡ filled (list_at fs number)
    counted number =
        let was : times number seen ≡ filled (list_at es number) = names.once number in
        let more : times number all ≡ times number seen + one number s = ap (times number) is ∙ times_push number seen s in
        elim (cases_Bool (nat_eq s.number number)) [
          | inl h ↦
              let same : i ≡ number = sym numbered ∙ (Decides-eqb s.number number).0 h in
              let here = one_same number s (numbered ∙ same) in
              let none : filled (list_at es number) ≡ 0 = ap (λ j. filled (list_at es j)) (sym same) ∙ ap filled empty in
              let now : filled (list_at fs number) ≡ 1 = ap (λ l. filled (list_at l number)) set ∙ ap (λ j. filled (list_at (with_list es i w) j)) (sym same) ∙ ap filled (list_set_same es i w lt) ∙ full in
              omega (arith, was, more, here, none, now)
          | inr h ↦
              let here = one_other number s h in
              let kept : filled (list_at fs number) ≡ filled (list_at es number) = ap (λ l. filled (list_at l number)) set ∙ ap filled (list_set_other es i number w (λ same. not_same s.number number h (numbered ∙ same))) in
              omega (arith, was, more, here, kept)
        ]

-- a list that had addresses has one more
pub names_grown : (es fs : Entries) (seen : List Seen) (i : ℕ) (w : List ℕ) → fs ≡ with_list es i w → i < length es → filled (list_at es i) ≡ 1 → filled w ≡ 1 → AreNames (names_of es seen) → AreNames (names_of fs seen)
names_grown es fs seen i w set lt some full names = record {
  distinct = subst (IsDistinct bytes_eq) (sym keys) names.distinct;
  once = λ number. names.once number ∙ same number;
  noted = subst (λ ks. AllByRecursion (IsNoted ks) seen) (sym keys) names.noted;
}
  where
    keys : keys_of fs ≡ keys_of es
    keys = ap keys_of set ∙ keys_set es i w

    same : (number : ℕ) → filled (list_at es number) ≡ filled (list_at fs number)
    same number =
        elim (cases_Bool (nat_eq i number)) [
          | inl h ↦
              let it : i ≡ number = (Decides-eqb i number).0 h in
              let now : filled (list_at fs number) ≡ 1 = ap (λ l. filled (list_at l number)) set ∙ ap (λ j. filled (list_at (with_list es i w) j)) (sym it) ∙ ap filled (list_set_same es i w lt) ∙ full in
              ap (λ j. filled (list_at es j)) (sym it) ∙ some ∙ sym now
          | inr h ↦ sym (ap (λ l. filled (list_at l number)) set ∙ ap filled (list_set_other es i number w (not_same i number h)))
        ]

-- a new name goes last
noted_pushed : (es : Entries) (name : List ℕ) (seen : List Seen) → AllByRecursion (IsNoted (keys_of es)) seen → AllByRecursion (IsNoted (keys_of (es ++ (name, []) ∷ []))) seen
noted_pushed es name [] noted = tt
noted_pushed es name (s ∷ seen) noted =
    let long = length-map es (λ e. e.0) in
    let more = length-map (es ++ (name, []) ∷ []) (λ e. e.0) in
    let last = length_push es (name, []) in
    let within = noted.0.within in
    let same = name_pushed es name s.number (omega (arith, within, long)) in (
      record {
        within = omega (arith, within, long, more, last);
        head = noted.0.head ∙ ap (leading 8 0) (sym same);
        bytes = subst AreBytes (sym same) noted.0.bytes;
      },
      noted_pushed es name seen noted.1,
    )

pub names_new : (es fs : Entries) (name : List ℕ) (seen : List Seen) → fs ≡ es ++ (name, []) ∷ [] → IsDistinct bytes_eq (keys_of fs) → AreNames (names_of es seen) → AreNames (names_of fs seen)
names_new es fs name seen pushed distinct names = record {
  distinct = distinct;
  once = λ number. names.once number ∙ sym (ap filled (ap (λ l. list_at l number) pushed ∙ list_pushed es name number));
  noted = subst (λ l. AllByRecursion (IsNoted (keys_of l)) seen) (sym pushed) (noted_pushed es name seen names.noted);
}

-- the order of what was seen does not matter
pub names_moved : (es : Entries) (seen moved : List Seen) → IsPermutation seen moved → AreNames (names_of es seen) → AreNames (names_of es moved)
names_moved es seen moved permutation names = record {
  distinct = names.distinct;
  once = λ number. sum_by-IsPermutation (one number) seen moved permutation ∙ names.once number;
  noted = recursion_from_All (IsNoted (keys_of es)) moved (All-permutation (IsNoted (keys_of es)) seen moved permutation (All-from_recursion (IsNoted (keys_of es)) seen names.noted));
}

-- no lists are left if none was seen, so the last name may be forgotten
list_front : (fs : Entries) (e : List ℕ × List ℕ) (i : ℕ) → filled (list_at (fs ++ e ∷ []) i) ≡ 0 → filled (list_at fs i) ≡ 0
list_front [] e i none = refl
list_front (d ∷ fs) e zero none = none
list_front (d ∷ fs) e (suc i) none = list_front fs e i none

pub names_fewer : (es fs : Entries) (e : List ℕ × List ℕ) → es ≡ fs ++ e ∷ [] → IsDistinct bytes_eq (keys_of fs) → AreNames (names_of es []) → AreNames (names_of fs [])
names_fewer es fs e is distinct names = record {
  distinct = distinct;
  once = λ number. sym (list_front fs e number (ap (λ l. filled (list_at l number)) (sym is) ∙ sym (names.once number)));
  noted = tt;
}

pub names_same : (es fs : Entries) (seen all : List Seen) → fs ≡ es → all ≡ seen → AreNames (names_of es seen) → AreNames (names_of fs all)
names_same es fs seen all same those names = subst (λ l. AreNames (names_of l all)) (sym same) (subst (λ l. AreNames (names_of es l)) (sym those) names)
