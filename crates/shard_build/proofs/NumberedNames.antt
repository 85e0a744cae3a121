-- The names with their numbers: one name more, one less, and the same names.
use Rattle.std.proofs.Common.{◌≡◌, ℕ, ◌<◌, List, [], ◌∷◌, ◌++◌, length, false, bytes_eq, None, Some, is_some, refl, sym, ap, ◌∙◌, subst, arith}
use Rattle.std.specs.List.{IsDistinct, list_any, position_from}
use Rattle.std.specs.Map.{keys_of}
use Rattle.std.proofs.lemmas.Cmp.{nat_list_eq_equiv}
use Rattle.std.proofs.lemmas.List.{length-map, map-append}
use Rattle.std.proofs.lemmas.Map.Keys.{IsDistinct-push}
use Rattle.std.proofs.lemmas.Slice.Eq.{bytes_eq-Decides}
use Rattle.shard_build.specs.Met.{AreNumbered, AreNumbersOf, AreNames, first_with, hash_by, name_at, names_of, told_by}
use Rattle.shard_build.specs.declared.numbers.Numbers.{Numbers}
use Rattle.shard_build.specs.declared.seen.Seen.{Seen}
use Rattle.shard_build.proofs.NameLists.{Entries, found, not_found}
use Rattle.shard_build.proofs.Numbering.{first_stands, some_first}
use Rattle.shard_build.proofs.SeenNames.{all_front, names_fewer, names_new, names_same}

keys_pushed : (es : Entries) (e : List ℕ × List ℕ) → keys_of (es ++ e ∷ []) ≡ keys_of es ++ e.0 ∷ []
keys_pushed es e = map-append (λ (d : List ℕ × List ℕ). d.0) es (e ∷ [])

-- no names
pub no_names : (numbers : Numbers) (es : Entries) (seen : List Seen) → AreNumbersOf numbers [] → es ≡ [] → seen ≡ [] → AreNumbered numbers (names_of es seen)
unfolding IsDistinct
no_names numbers es seen none no_entries no_seen =
    subst (λ l. AreNumbered numbers (names_of l seen)) (sym no_entries)
    (subst (λ l. AreNumbered numbers (names_of [] l)) (sym no_seen) (record { names = record { distinct = tt; once = λ number. refl; noted = tt }; numbers = none }))

-- the same names with the same numbers
pub numbered_same : (old new : Numbers) (es fs : Entries) (seen all : List Seen) → new.initial ≡ old.initial → ((hash : ℕ) → told_by new hash ≡ told_by old hash) → fs ≡ es → all ≡ seen →
    AreNumbered old (names_of es seen) → AreNumbered new (names_of fs all)
numbered_same old new es fs seen all initial same is those numbered = record {
  names = names_same es fs seen all is those numbered.names;
  numbers =
      subst (AreNumbersOf new) (sym (ap keys_of is))
      (λ hash. same hash ∙ numbered.numbers hash ∙ ap (λ i. first_with (hash_by i) hash 0 (keys_of es)) (sym initial));
}

-- other lists of the same names
pub numbered_kept : (numbers : Numbers) (es fs : Entries) (seen : List Seen) → keys_of fs ≡ keys_of es → AreNumbersOf numbers (keys_of es) → AreNames (names_of fs seen) → AreNumbered numbers (names_of fs seen)
numbered_kept numbers es fs seen kept told names = record { names = names; numbers = subst (AreNumbersOf numbers) (sym kept) told }

-- the entry that is pushed, by the name's bytes
pub entry_pushed : (es fs : Entries) (name token list : List ℕ) → fs ≡ es ++ (name, list) ∷ [] → name ≡ token → list ≡ [] → fs ≡ es ++ (token, []) ∷ []
entry_pushed es fs name token list is named empty = is ∙ ap (λ n. es ++ (n, list) ∷ []) named ∙ ap (λ l. es ++ (token, l) ∷ []) empty

-- a token that is none of the names
not_among : (es : Entries) (token : List ℕ) → None ≡ position_from (bytes_eq token) 0 (keys_of es) → list_any (bytes_eq token) (keys_of es) ≡ false
not_among es token none = sym (some_first (bytes_eq token) 0 (keys_of es)) ∙ ap is_some (sym none)

-- has no list
pub no_list : (es : Entries) (token : List ℕ) → None ≡ position_from (bytes_eq token) 0 (keys_of es) → None ≡ found es token
no_list es token none = not_found es token (not_among es token none)

-- and goes last
pub numbered_new : (now : Numbers) (es fs : Entries) (token : List ℕ) (seen : List Seen) → fs ≡ es ++ (token, []) ∷ [] → AreNumbersOf now (keys_of es ++ token ∷ []) → None ≡ position_from (bytes_eq token) 0 (keys_of es) →
    AreNames (names_of es seen) → AreNumbered now (names_of fs seen)
numbered_new now es fs token seen is numbers none names =
    let keys = ap keys_of is ∙ keys_pushed es (token, []) in
    record {
      names = names_new es fs token seen is (subst (IsDistinct bytes_eq) (sym keys) (IsDistinct-push nat_list_eq_equiv (keys_of es) token names.distinct (not_among es token none))) names;
      numbers = subst (AreNumbersOf now) (sym keys) numbers;
    }

distinct_front : (names : List (List ℕ)) (name : List ℕ) → IsDistinct bytes_eq (names ++ name ∷ []) → IsDistinct bytes_eq names
unfolding IsDistinct
distinct_front [] name distinct = tt
distinct_front (x ∷ xs) name distinct = (all_front (λ y. bytes_eq x y ≡ false) xs name distinct.0, distinct_front xs name distinct.1)

-- the names with the last one by its bytes
pub last_numbered : (numbers : Numbers) (es fs : Entries) (e : List ℕ × List ℕ) (name : List ℕ) → es ≡ fs ++ e ∷ [] → name ≡ e.0 → AreNumbersOf numbers (keys_of es) → AreNumbersOf numbers (keys_of fs ++ name ∷ [])
last_numbered numbers es fs e name is named numbered = subst (AreNumbersOf numbers) (ap keys_of is ∙ keys_pushed fs e ∙ ap (λ n. keys_of fs ++ n ∷ []) (sym named)) numbered

-- the last name is forgotten, while no list has addresses
pub numbered_less : (now : Numbers) (es fs : Entries) (e : List ℕ × List ℕ) → es ≡ fs ++ e ∷ [] → AreNumbersOf now (keys_of fs) → AreNames (names_of es []) → AreNumbered now (names_of fs [])
numbered_less now es fs e is numbers names = record {
  names = names_fewer es fs e is (distinct_front (keys_of fs) e.0 (subst (IsDistinct bytes_eq) (ap keys_of is ∙ keys_pushed fs e) names.distinct)) names;
  numbers = numbers;
}

-- the number that is found is that of the name
pub number_found : (es : Entries) (token : List ℕ) (number : ℕ) → Some number ≡ position_from (bytes_eq token) 0 (keys_of es) → (number < length es) × (name_at es number ≡ token)
number_found es token number is =
    let stands = first_stands (bytes_eq token) (keys_of es) number [] (sym is) in
    let long = length-map es (λ e. e.0) in
    (omega (arith, stands.0, long), sym ((bytes_eq-Decides token (name_at es number)).0 stands.1))
