-- Which intervals of one width a containment with those of another keeps.
use Rattle.std.specs.Prelude.{ℕ, Bool, not, ◌&&◌, nat_le}
use Rattle.gcl_model.specs.declared.containment.Containment.{Containment}
use Rattle.gcl_model.specs.declared.containment.Containment.TheVariants.{Containing, ContainedIn, NotContaining, NotContainedIn}

-- in a text of `room` addresses every interval of n of them is kept, or else none is: [3] > [2] keeps all, and [3] < [2] none
abbrev pub keeps_all : Containment → (n m room : ℕ) → Bool
keeps_all Containing n m room = nat_le m n
keeps_all ContainedIn n m room = nat_le n m && nat_le m room
keeps_all NotContaining n m room = not (nat_le m n)
keeps_all NotContainedIn n m room = not (nat_le n m && nat_le m room)
