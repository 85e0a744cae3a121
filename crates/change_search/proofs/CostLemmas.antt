-- What a page costs, and what is left for the next one.
use Rattle.std.proofs.Common.{◌≡◌, ℕ, Bool, zero, suc, ◌+◌, ◌*◌, ◌-◌, ◌<◌, ◌≤◌, ◌⊎◌, inl, inr, true, false, refl, sym, ap, subst, arith}
use Rattle.std.proofs.lemmas.Bool.{true≢false}
use Rattle.std.proofs.Math.Nat.{mul-le-mul_right}
use Rattle.query_search.specs.Pages.{Way, leaping, reading, ended, left_of, leap_cost, IsAfter}
use Rattle.change_search.specs.inner.Sides.{accesses_left, look_ups_by}

abbrev each_of : Way → ℕ
each_of (leaping each) = each
each_of (reading left) = 0
each_of ended = 1

abbrev leaps : Way → Bool
leaps (leaping each) = true
leaps (reading left) = false
leaps ended = false

-- accesses that are made and accesses that are left are no more than there were
leaps_paid : (each n left all : ℕ) → n + 1 + left ≤ all → (n + 1) * each + left * each ≤ all * each
leaps_paid each n left all le =
    let more : (n + 1 + left) * each ≤ all * each = mul-le-mul_right each le in
    omega (arith, more)

-- the same if the number of look-ups that each may make is known by another name
leaps_paid_by : (each other members left all steps steps' : ℕ) → each ≡ other → members + 1 + left ≤ all → steps' ≤ steps + (members + 1) * each → steps' + left * other ≤ steps + all * each
leaps_paid_by each other members left all steps steps' same le cost =
    let paid : (members + 1) * each + left * each ≤ all * each = leaps_paid each members left all le in
    let left_same : left * each ≡ left * other = ap (λ (e : ℕ). left * e) same in
    omega (arith, paid, left_same, cost)

-- a page is paid by the accesses that it makes, if as many as it could make were left in addition to those that are left after it
pub page_paid : (before after : Way) (steps steps' members most left all : ℕ) → IsAfter after before → steps' + left_of after ≤ steps + left_of before + leap_cost before members
    → members ≤ most → most + 1 + left ≤ all → steps' + look_ups_by after left ≤ steps + look_ups_by before all
page_paid (leaping each) (leaping other) steps steps' members most left all is cost few le =
    let enough : members + 1 + left ≤ all = omega (arith, few, le) in
    let paid : steps' ≤ steps + (members + 1) * each = omega (arith, cost) in
    leaps_paid_by each other members left all steps steps' (ap each_of is) enough paid
page_paid (leaping each) (reading more) steps steps' members most left all is cost few le = absurd (true≢false (sym is))
page_paid (leaping each) ended steps steps' members most left all is cost few le =
    let enough : members + 1 + left ≤ all = omega (arith, few, le) in
    let paid : (members + 1) * each + left * each ≤ all * each = leaps_paid each members left all enough in
    omega (arith, paid, cost)
page_paid (reading more) (leaping other) steps steps' members most left all is cost few le = absurd (true≢false (sym (ap leaps is)))
page_paid (reading more) (reading less) steps steps' members most left all is cost few le = omega (arith, cost)
page_paid (reading more) ended steps steps' members most left all is cost few le = omega (arith, cost)
page_paid ended (leaping other) steps steps' members most left all is cost few le = absurd (true≢false (sym (ap leaps is)))
page_paid ended (reading less) steps steps' members most left all is cost few le = absurd (true≢false (sym is))
page_paid ended ended steps steps' members most left all is cost few le = omega (arith, cost)

-- a page that was refused is paid by the same
pub refusal_paid : (before : Way) (steps steps' members most left all : ℕ) → steps' ≤ steps + left_of before + leap_cost before members
    → members ≤ most → most + 1 + left ≤ all → steps' ≤ steps + look_ups_by before all
refusal_paid (leaping each) steps steps' members most left all cost few le =
    let enough : members + 1 + left ≤ all = omega (arith, few, le) in
    let paid : (members + 1) * each + left * each ≤ all * each = leaps_paid each members left all enough in
    omega (arith, paid, cost)
refusal_paid (reading more) steps steps' members most left all cost few le = omega (arith, cost)
refusal_paid ended steps steps' members most left all cost few le = omega (arith, cost)

-- at the end nothing is paid, and nothing is left
pub nothing_paid : (after : Way) (steps steps' left : ℕ) → after ≡ ended → steps' ≡ steps → steps' + look_ups_by after left ≤ steps
nothing_paid after steps steps' left is same = subst (λ (w : Way). steps' + look_ups_by w left ≤ steps) (sym is) (omega (arith, same))

-- a page whose members were passed pays for the next one, which is at most twice as large, and the first page is paid at first
pub next_accesses : (left at size next : ℕ) → (size ≡ 0) ⊎ (2 ≤ size) → (size ≡ 0 → next ≡ 2) → (2 ≤ size → next ≤ 2 * size) → size ≤ at → 2 ≤ next
    → next + 1 + accesses_left left 0 next ≤ accesses_left left at size
next_accesses left at size zero sized first later over some = absurd (omega arith)
next_accesses left at zero (suc n) sized first later over some = let is : suc n ≡ 2 = first refl in omega (arith, is)
next_accesses left at (suc s) (suc n) (inl none) first later over some = absurd (omega (arith, none))
next_accesses left at (suc s) (suc n) (inr large) first later over some = let twice : suc n ≤ 2 * suc s = later large in omega (arith, twice, over, large)

-- a member that is passed leaves as many
pub same_accesses : (left at size : ℕ) → 0 < left → accesses_left (left - 1) (at + 1) size ≡ accesses_left left at size
same_accesses left at zero some = omega (arith, some)
same_accesses left at (suc size) some = omega (arith, some)
