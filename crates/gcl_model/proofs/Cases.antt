-- Small facts on tests, options and results.
use Rattle.std.proofs.Common.{◌≡◌, Bool, true, false, ◌||◌, Option, Some, IfSome, refl, subst}
use Rattle.std.specs.Prelude.{Result, Ok, Err, OnErr}

-- of three tests the first two change places
pub or_swap : (x y z : Bool) → (x || (y || z)) ≡ (y || (x || z))
or_swap true true z = refl
or_swap true false z = refl
or_swap false y z = refl

-- what holds of the value in an option holds of the value that it is
pub IfSome-at : {T : Type 0} (P : T → Type 0) (o : Option T) (x : T) → o ≡ Some x → IfSome o P → P x
IfSome-at {T} P o x is h = let Q : Option T → Type 0 = λ v. IfSome v P in subst Q is h

-- what holds anyhow holds of an error
pub on_err : {T E : Type 0} (P : Type 0) (result : Result T E) → P → OnErr result P
on_err P (Ok value) p = tt
on_err P (Err fault) p = p
