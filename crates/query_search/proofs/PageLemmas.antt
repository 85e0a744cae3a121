-- Pages of a list.
use Rattle.std.proofs.Common.{◌≡◌, ℕ, zero, suc, ◌+◌, ◌-◌, ◌≤◌, List, [], ◌∷◌, ◌++◌, length, take, drop, refl, sym, ap, ◌∙◌, arith, length-append}
use Rattle.std.proofs.Math.Seq.{take-add}

-- a page, and the first members of what it leaves, are the first members of all
pub page_and_more : {X : Type 0} (most size : ℕ) (list page rest : List X) → size ≤ most → page ≡ take size list → rest ≡ drop size list → page ++ take (most - size) rest ≡ take most list
page_and_more most size list page rest le is left =
    let both : size + (most - size) ≡ most = omega arith in
    ap (λ l. l ++ take (most - size) rest) is
    ∙ ap (λ l. take size list ++ take (most - size) l) left
    ∙ sym (take-add size (most - size) list)
    ∙ ap (λ (n : ℕ). take n list) both

-- with nothing found before, the next page and what may be given after it are what might be given
pub next_and_more : {X : Type 0} (limit size : ℕ) (found list page rest : List X) → found ≡ [] → size ≤ limit → page ≡ take size list → rest ≡ drop size list
    → found ++ take limit list ≡ page ++ (found ++ take (limit - size) rest)
next_and_more limit size found list page rest none le is left =
    ap (λ l. l ++ take limit list) none
    ∙ sym (page_and_more limit size list page rest le is left)
    ∙ sym (ap (λ l. page ++ (l ++ take (limit - size) rest)) none)

-- a list of length 0 has no member
pub no_member : {X : Type 0} (list : List X) → length list ≤ 0 → list ≡ []
no_member [] few = refl
no_member (x ∷ list) few = absurd (omega arith)

few_taken : {X : Type 0} (n : ℕ) (list : List X) → length (take n list) ≤ length list
few_taken zero list = omega arith
few_taken (suc n) [] = omega arith
few_taken (suc n) (x ∷ list) = let rest = few_taken n list in omega (arith, rest)

-- a listing has no more members than were found and are left
pub few_in_listing : {X : Type 0} (found rest : List X) (limit most : ℕ) → length found + length rest ≤ most → length (found ++ take limit rest) ≤ most
few_in_listing found rest limit most few = omega (arith, few, length-append found (take limit rest), few_taken limit rest)
