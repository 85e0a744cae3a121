-- Where files lie, for this crate alone.
use Rattle.std.specs.Prelude.{ℕ, ◌+◌, ◌-◌, ◌==◌, Bool, nat_lt, List, [], ◌∷◌, if◌then◌else◌}
use Rattle.std.specs.List.Sorted.{IsNonDecreasingBy}
use Rattle.address_space.specs.Runs.{FileEntry}
use Rattle.image_read.specs.declared.places.Role.{Role}
use Rattle.image_read.specs.declared.places.Role.TheVariants.{Start, Inner, End}
use Rattle.image_read.specs.declared.places.Stretch.{Stretch}

-- where a file lies that comes after `before` addresses of files: one of three addresses starting at 7, after 5, from 7 to 9
abbrev pub stretch_of : FileEntry → ℕ → Stretch
stretch_of file before = record { first = file.base; last = file.base + (file.len - 1); before = before }

-- where each of some files lies
abbrev pub stretches_from : ℕ → List FileEntry → List Stretch
stretches_from before [] = []
stretches_from before (file ∷ files) = stretch_of file before ∷ stretches_from (before + file.len) files

-- whether the stretch ends before an address
abbrev pub ends_before : ℕ → Stretch → Bool
ends_before p stretch = nat_lt stretch.last p

-- the stretches end one after the other
abbrev pub AreInRow : List Stretch → Type 0
AreInRow stretches = IsNonDecreasingBy (λ (s : Stretch). s.last) stretches

-- what an address of the stretch is to hold
abbrev pub role_of_stretch : ℕ → Stretch → Role
role_of_stretch p stretch = if p == stretch.first then Start else if p == stretch.last then End else Inner
