-- What an add and a removal leave of the order of watches, and of their number.
use Rattle.std.proofs.Common.{ℕ, ◌+◌, ◌≤◌, Bool, cond, true, false, List, [], ◌∷◌, ◌++◌, length, arith, zero-le}
use Rattle.std.specs.List.{filter}
use Rattle.gcl_model.specs.declared.expr.Expr.{Expr}
use Rattle.standing_query.specs.declared.watch.Watch.{Watch}
use Rattle.standing_query.specs.Watches.{watch, RiseWithin}

-- the next number comes after all that were given
pub RiseWithin-push : (low next : ℕ) (live : List Watch) (expr : Expr) → low ≤ next → RiseWithin low next live → RiseWithin low (next + 1) (live ++ watch next expr ∷ [])
RiseWithin-push low next [] expr below rising = (below, omega arith, tt)
RiseWithin-push low next (w ∷ live) expr below rising =
    (rising.0, omega (arith, rising.1), RiseWithin-push (w.id + 1) next live expr (omega (arith, rising.1)) rising.2)

-- what rises starting at a number rises starting at a lesser one
pub RiseWithin-lower : (low lower next : ℕ) (live : List Watch) → lower ≤ low → RiseWithin low next live → RiseWithin lower next live
RiseWithin-lower low lower next [] below rising = tt
RiseWithin-lower low lower next (w ∷ live) below rising = (omega (arith, rising.0, below), rising.1, rising.2)

-- what is left of rising numbers rises
pub RiseWithin-filter : (test : Watch → Bool) (low next : ℕ) (live : List Watch) → RiseWithin low next live → RiseWithin low next (filter test live)
RiseWithin-filter test low next [] rising = tt
RiseWithin-filter test low next (w ∷ live) rising =
    let rest = RiseWithin-filter test (w.id + 1) next live rising.2 in
    elim (test w) as (λ b. RiseWithin low next (cond b (w ∷ filter test live) (filter test live))) [ true ↦ (rising.0, rising.1, rest) | false ↦ RiseWithin-lower (w.id + 1) low next (filter test live) (omega (arith, rising.0)) rest ]

-- and there are no more of them
pub length-kept : (test : Watch → Bool) (live : List Watch) → length (filter test live) ≤ length live
length-kept test [] = zero-le
length-kept test (w ∷ live) =
    let rest = length-kept test live in
    elim (test w) as (λ b. length (cond b (w ∷ filter test live) (filter test live)) ≤ length (w ∷ live)) [ true ↦ omega (arith, rest) | false ↦ omega (arith, rest) ]
