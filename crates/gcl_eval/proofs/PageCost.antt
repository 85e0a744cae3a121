-- The bound of the look-ups of a page, by how many members it has.
use Rattle.std.proofs.Common.{◌≡◌, ℕ, ◌+◌, ◌*◌, ◌≤◌, List, ◌++◌, length, take, sym, ap, ◌∙◌, arith}
use Rattle.std.proofs.Math.Nat.{mul-le-mul_right}
use Rattle.std.proofs.lemmas.List.{length-append, length-take}
use Rattle.gcl_model.specs.Extents.{Extent}

-- what an access for each member found and one more may cost is within what one for each member of the page and one more may
pub within_page : (members rest all : List Extent) → members ++ rest ≡ all → (most : ℕ) → length members ≤ most → (old new cost : ℕ) → new ≤ old + (length members + 1) * cost →
    new ≤ old + (length (take most all) + 1) * cost
within_page members rest all kept most few old new cost le =
    let whole : length members + length rest ≡ length all = sym (length-append members rest) ∙ ap length kept in
    let put : length members ≤ length (take most all) = rw (length-take most all) (omega arith) in
    let more : (length members + 1) * cost ≤ (length (take most all) + 1) * cost = mul-le-mul_right cost (omega (arith, put)) in
    omega (arith, le, more)
