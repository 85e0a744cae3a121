-- Lists that are put one after another, for this crate alone.
use Rattle.std.specs.Prelude.{ℕ, ◌-◌, List, [], ◌∷◌, Option, None, Some}
use Rattle.posting_code.specs.Numbers.{spelling}
use Rattle.posting_code.specs.Packed.{last_of}

-- the last member, if there is one
abbrev pub last_in : List ℕ → Option ℕ
last_in [] = None
last_in (p ∷ ps) = Some (last_of (p ∷ ps))

-- the packed difference between two lists: nothing if no list is before
abbrev pub step_from : Option ℕ → ℕ → List ℕ
step_from None first = []
step_from (Some last) first = spelling (first - last)
