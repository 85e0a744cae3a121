-- Look-ups, computed.
use Rattle.std.proofs.Common.{◌≡◌, ◌≤◌, [], ◌∷◌, Some, None, refl}
use Rattle.posting_access.specs.Search.{least_from, greatest_to, count_below, HasDigits}

-- between two members, at a member, and past the last
least_from-between : least_from (2 ∷ 5 ∷ 9 ∷ []) 3 ≡ Some 5
least_from-between = refl

least_from-met : least_from (2 ∷ 5 ∷ 9 ∷ []) 9 ≡ Some 9
least_from-met = refl

least_from-past : least_from (2 ∷ 5 ∷ 9 ∷ []) 10 ≡ None
least_from-past = refl

greatest_to-between : greatest_to (2 ∷ 5 ∷ 9 ∷ []) 3 ≡ Some 2
greatest_to-between = refl

greatest_to-met : greatest_to (2 ∷ 5 ∷ 9 ∷ []) 5 ≡ Some 5
greatest_to-met = refl

greatest_to-before : greatest_to (2 ∷ 5 ∷ 9 ∷ []) 1 ≡ None
greatest_to-before = refl

-- below a number between two members, a member, and the first
count_below-between : count_below (2 ∷ 5 ∷ 9 ∷ []) 6 ≡ 2
count_below-between = refl

count_below-met : count_below (2 ∷ 5 ∷ 9 ∷ []) 5 ≡ 1
count_below-met = refl

count_below-first : count_below (2 ∷ 5 ∷ 9 ∷ []) 2 ≡ 0
count_below-first = refl

-- 5 has three binary digits, and 0 has none
digits-of_five : HasDigits 5 3 ≡ (8 ≤ 11)
digits-of_five = refl

digits-of_five_not_four : HasDigits 5 4 ≡ (16 ≤ 11)
digits-of_five_not_four = refl

digits-of_none : HasDigits 0 0 ≡ (1 ≤ 1)
digits-of_none = refl
