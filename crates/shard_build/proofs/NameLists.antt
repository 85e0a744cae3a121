-- The lists of names by their numbers: one is written, and a name goes last.
use Rattle.std.proofs.Common.{◌≡◌, ℕ, zero, suc, ◌<◌, ◌≤◌, true, false, cond, List, [], ◌∷◌, ◌++◌, length, slice_set, get_or, bytes_eq, nat_eq, Option, Some, None, inl, inr, refl, sym, ap, ◌∙◌, arith}
use Rattle.std.specs.List.{AllByRecursion, IsDistinct, list_any}
use Rattle.std.specs.List.Sorted.{IsPermutation}
use Rattle.std.specs.Option.{unwrap_or}
use Rattle.std.specs.Map.{keys_of, lookup}
use Rattle.std.proofs.lemmas.Bool.{cases_Bool, or_parts}
use Rattle.std.proofs.lemmas.Bool.Decides.{Decides-eqb}
use Rattle.std.proofs.lemmas.Cmp.{nat_list_eq_equiv}
use Rattle.std.proofs.lemmas.List.{length-map}
use Rattle.std.proofs.lemmas.List.Sorted.{IsPermutation-map}
use Rattle.std.proofs.lemmas.Map.Keys.{IsDistinct-IsPermutation}
use Rattle.std.proofs.lemmas.Slice.Eq.{bytes_eq-Decides}
use Rattle.index_shard.proofs.TableLaws.{all_at}
use Rattle.shard_build.specs.Groups.{unless_empty}
use Rattle.shard_build.specs.Met.{filled, list_at, name_at, with_list}
use Rattle.shard_build.proofs.Places.{unless_empty-push}

abbrev pub Entries : Type 0
Entries = List (List ℕ × List ℕ)

abbrev pub found : Entries → List ℕ → Option (List ℕ)
found es token = lookup (λ name. bytes_eq token name) es

pub keys_set : (es : Entries) (i : ℕ) (w : List ℕ) → keys_of (with_list es i w) ≡ keys_of es
keys_set [] i w = refl
keys_set (e ∷ es) zero w = refl
keys_set (e ∷ es) (suc i) w = ap (λ ks. e.0 ∷ ks) (keys_set es i w)

-- to write a list makes no names
pub length_set : (es : Entries) (i : ℕ) (w : List ℕ) → length (with_list es i w) ≡ length es
length_set [] i w = refl
length_set (e ∷ es) zero w = refl
length_set (e ∷ es) (suc i) w = ap suc (length_set es i w)

pub list_set_same : (es : Entries) (i : ℕ) (w : List ℕ) → i < length es → list_at (with_list es i w) i ≡ w
list_set_same [] i w lt = absurd (omega (arith, lt))
list_set_same (e ∷ es) zero w lt = refl
list_set_same (e ∷ es) (suc i) w lt = list_set_same es i w (omega (arith, lt))

pub list_set_other : (es : Entries) (i j : ℕ) (w : List ℕ) → (i ≡ j → ⊥) → list_at (with_list es i w) j ≡ list_at es j
list_set_other [] i j w other = refl
list_set_other (e ∷ es) zero zero w other = absurd (other refl)
list_set_other (e ∷ es) zero (suc j) w other = refl
list_set_other (e ∷ es) (suc i) zero w other = refl
list_set_other (e ∷ es) (suc i) (suc j) w other = list_set_other es i j w (λ same. other (ap suc same))

pub filled_le : (list : List ℕ) → filled list ≤ 1
filled_le [] = omega arith
filled_le (p ∷ ps) = omega arith

pub filled_push : (list : List ℕ) (p : ℕ) → filled (list ++ p ∷ []) ≡ 1
filled_push [] p = refl
filled_push (q ∷ qs) p = refl

-- a name that goes last has no addresses yet, and changes no other
pub list_pushed : (es : Entries) (name : List ℕ) (i : ℕ) → list_at (es ++ (name, []) ∷ []) i ≡ list_at es i
list_pushed [] name zero = refl
list_pushed [] name (suc i) = refl
list_pushed (e ∷ es) name zero = refl
list_pushed (e ∷ es) name (suc i) = list_pushed es name i

pub name_pushed : (es : Entries) (name : List ℕ) (i : ℕ) → i < length es → name_at (es ++ (name, []) ∷ []) i ≡ name_at es i
name_pushed [] name i lt = absurd (omega (arith, lt))
name_pushed (e ∷ es) name zero lt = refl
name_pushed (e ∷ es) name (suc i) lt = name_pushed es name i (omega (arith, lt))

pub found_pushed : (es : Entries) (name token : List ℕ) → unwrap_or (found (es ++ (name, []) ∷ []) token) [] ≡ unwrap_or (found es token) []
found_pushed [] name token = elim (cases_Bool (bytes_eq token name)) [ inl h ↦ rw h refl | inr h ↦ rw h refl ]
found_pushed (e ∷ es) name token = elim (cases_Bool (bytes_eq token e.0)) [ inl h ↦ rw h refl | inr h ↦ rw h (found_pushed es name token) ]

-- a name is met by its own number alone
later_name : (e : List ℕ × List ℕ) (es : Entries) (i : ℕ) (token : List ℕ) → AllByRecursion (λ y. bytes_eq e.0 y ≡ false) (keys_of es) → i < length es → name_at es i ≡ token → bytes_eq e.0 token ≡ false
later_name e es i token apart lt is =
    let long = length-map es (λ d. d.0) in
    ap (bytes_eq e.0) (sym is) ∙ all_at (λ y. bytes_eq e.0 y ≡ false) (keys_of es) i [] apart (omega (arith, lt, long))

pub found_at : (es : Entries) (i : ℕ) (token : List ℕ) → IsDistinct bytes_eq (keys_of es) → i < length es → name_at es i ≡ token → found es token ≡ Some (list_at es i)
unfolding IsDistinct
found_at [] i token distinct lt is = absurd (omega (arith, lt))
found_at (e ∷ es) zero token distinct lt is = let h : bytes_eq token e.0 ≡ true = (bytes_eq-Decides token e.0).1 (sym is) in rw h refl
found_at (e ∷ es) (suc i) token distinct lt is =
    let h : bytes_eq token e.0 ≡ false = nat_list_eq_equiv.symm token e.0 ∙ later_name e es i token distinct.0 (omega (arith, lt)) is in
    rw h (found_at es i token distinct.1 (omega (arith, lt)) is)

-- what is found once the list of a name was written
pub found_set : (es : Entries) (i : ℕ) (token w cs : List ℕ) → IsDistinct bytes_eq (keys_of es) → i < length es → name_at es i ≡ token → found (with_list es i w) cs ≡ cond (bytes_eq token cs) (Some w) (found es cs)
unfolding IsDistinct
found_set [] i token w cs distinct lt is = absurd (omega (arith, lt))
found_set (e ∷ es) zero token w cs distinct lt is =
    let turned : bytes_eq token cs ≡ bytes_eq cs e.0 = nat_list_eq_equiv.symm token cs ∙ ap (bytes_eq cs) (sym is) in
    elim (cases_Bool (bytes_eq cs e.0)) [
      | inl h ↦ let t = turned ∙ h in rw (h, t) refl
      | inr h ↦ let t = turned ∙ h in rw (h, t) refl
    ]
found_set (e ∷ es) (suc i) token w cs distinct lt is =
    let rest = found_set es i token w cs distinct.1 (omega (arith, lt)) is in
    elim (cases_Bool (bytes_eq cs e.0)) [
      | inl h ↦
          let same : cs ≡ e.0 = (bytes_eq-Decides cs e.0).0 h in
          let t : bytes_eq token cs ≡ false = ap (bytes_eq token) same ∙ nat_list_eq_equiv.symm token e.0 ∙ later_name e es i token distinct.0 (omega (arith, lt)) is in
          rw (h, t) refl
      | inr h ↦ rw h rest
    ]

grown_cases : (es : Entries) (i : ℕ) (token : List ℕ) (address : ℕ) (cs : List ℕ) → IsDistinct bytes_eq (keys_of es) → i < length es → name_at es i ≡ token →
    unless_empty (unwrap_or (cond (bytes_eq token cs) (Some (list_at es i ++ address ∷ [])) (found es cs)) [])
    ≡ cond (bytes_eq token cs) (Some (unwrap_or (unless_empty (unwrap_or (found es cs) [])) [] ++ address ∷ [])) (unless_empty (unwrap_or (found es cs) []))
grown_cases es i token address cs distinct lt is =
    elim (cases_Bool (bytes_eq token cs)) [
      | inl h ↦
          let here : found es cs ≡ Some (list_at es i) = found_at es i cs distinct lt (is ∙ (bytes_eq-Decides token cs).0 h) in
          rw h (unless_empty-push (list_at es i) address ∙ ap (λ o. Some (unwrap_or (unless_empty (unwrap_or o [])) [] ++ address ∷ [])) (sym here))
      | inr h ↦ rw h refl
    ]

-- the addresses of each token after one more of one token
pub list_grown : (es : Entries) (i : ℕ) (token : List ℕ) (address : ℕ) (cs : List ℕ) → IsDistinct bytes_eq (keys_of es) → i < length es → name_at es i ≡ token →
    unless_empty (unwrap_or (found (with_list es i (list_at es i ++ address ∷ [])) cs) [])
    ≡ cond (bytes_eq token cs) (Some (unwrap_or (unless_empty (unwrap_or (found es cs) [])) [] ++ address ∷ [])) (unless_empty (unwrap_or (found es cs) []))
list_grown es i token address cs distinct lt is =
    ap (λ o. unless_empty (unwrap_or o [])) (found_set es i token (list_at es i ++ address ∷ []) cs distinct lt is) ∙ grown_cases es i token address cs distinct lt is

-- ---- whether a list is empty

pub first_empty : (list : List ℕ) → nat_eq (length list) 0 ≡ true → list ≡ []
first_empty [] is = refl
first_empty (p ∷ ps) is = let none = (Decides-eqb (length (p ∷ ps)) 0).0 is in absurd (omega (arith, none))

pub later_filled : (list : List ℕ) → nat_eq (length list) 0 ≡ false → filled list ≡ 1
later_filled [] is = let yes = sym ((Decides-eqb 0 0).1 refl) ∙ is in absurd cc
later_filled (p ∷ ps) is = refl

pub unless_back : (list : List ℕ) → unwrap_or (unless_empty list) [] ≡ list
unless_back [] = refl
unless_back (p ∷ ps) = refl

-- ---- the number of a name

-- of a name that was met before
pub met_list : (es : Entries) (token : List ℕ) (i : ℕ) → IsDistinct bytes_eq (keys_of es) → i < length es → name_at es i ≡ token → list_at es i ≡ unwrap_or (unless_empty (unwrap_or (found es token) [])) []
met_list es token i distinct lt is = sym (ap (λ o. unwrap_or (unless_empty (unwrap_or o [])) []) (found_at es i token distinct lt is) ∙ unless_back (list_at es i))

-- of a new one
pub not_found : (es : Entries) (token : List ℕ) → list_any (bytes_eq token) (keys_of es) ≡ false → None ≡ found es token
not_found [] token none = refl
not_found (e ∷ es) token none =
    let parts = or_parts (bytes_eq token e.0) (list_any (bytes_eq token) (keys_of es)) none in
    let h = parts.0 in
    rw h (not_found es token parts.1)

list_past : (es : Entries) → list_at es (length es) ≡ []
list_past [] = refl
list_past (e ∷ es) = list_past es

pub new_list : (es fs : Entries) (name token : List ℕ) (i : ℕ) → fs ≡ es ++ (name, []) ∷ [] → i ≡ length es → None ≡ found es token → list_at fs i ≡ unwrap_or (unless_empty (unwrap_or (found es token) [])) []
new_list es fs name token i pushed last none =
    ap (λ l. list_at l i) pushed ∙ list_pushed es name i ∙ ap (list_at es) last ∙ list_past es
    ∙ ap (λ o. unwrap_or (unless_empty (unwrap_or o [])) []) none

pub new_lists : (es fs : Entries) (name cs : List ℕ) → fs ≡ es ++ (name, []) ∷ [] → unless_empty (unwrap_or (found fs cs) []) ≡ unless_empty (unwrap_or (found es cs) [])
new_lists es fs name cs pushed = ap (λ l. unless_empty (unwrap_or (found l cs) [])) pushed ∙ ap unless_empty (found_pushed es name cs)

-- ---- what is read at a place

name_read : (es : Entries) (i : ℕ) (e : List ℕ × List ℕ) → e ≡ get_or es i e → i < length es → name_at es i ≡ e.0
name_read [] i e is lt = absurd (omega (arith, lt))
name_read (d ∷ es) zero e is lt = ap (λ (p : List ℕ × List ℕ). p.0) (sym is)
name_read (d ∷ es) (suc i) e is lt = name_read es i e is (omega (arith, lt))

pub list_read : (es : Entries) (i : ℕ) (e : List ℕ × List ℕ) → e ≡ get_or es i e → i < length es → list_at es i ≡ e.1
list_read [] i e is lt = absurd (omega (arith, lt))
list_read (d ∷ es) zero e is lt = ap (λ (p : List ℕ × List ℕ). p.1) (sym is)
list_read (d ∷ es) (suc i) e is lt = list_read es i e is (omega (arith, lt))

-- to write a list next to the name that was read writes it at that name
pub list_written : (es : Entries) (i : ℕ) (e : List ℕ × List ℕ) (w : List ℕ) → e ≡ get_or es i e → i < length es → slice_set es i (e.0, w) ≡ with_list es i w
list_written es i e w is lt = ap (λ name. slice_set es i (name, w)) (sym (name_read es i e is lt))

-- to write what is there changes nothing
pub same_written : (es : Entries) (i : ℕ) (w : List ℕ) → list_at es i ≡ w → i < length es → with_list es i w ≡ es
same_written [] i w is lt = absurd (omega (arith, lt))
same_written (e ∷ es) zero w is lt = ap (λ v. (e.0, v) ∷ es) (sym is)
same_written (e ∷ es) (suc i) w is lt = ap (λ l. e ∷ l) (same_written es i w is (omega (arith, lt)))

-- ---- in another order

pub keys_moved : (es fs : Entries) → IsPermutation es fs → IsPermutation (keys_of es) (keys_of fs)
keys_moved es fs permutation = IsPermutation-map (λ (e : List ℕ × List ℕ). e.0) es fs permutation

pub distinct_moved : (es fs : Entries) → IsPermutation es fs → IsDistinct bytes_eq (keys_of es) → IsDistinct bytes_eq (keys_of fs)
distinct_moved es fs permutation distinct = IsDistinct-IsPermutation bytes_eq nat_list_eq_equiv.symm (keys_of es) (keys_of fs) (keys_moved es fs permutation) distinct
