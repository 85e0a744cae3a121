-- Worked accesses, computed.
use Rattle.std.proofs.Common.{◌≡◌, Some, None, refl, [], ◌∷◌}
use Rattle.gcl_model.specs.Extents.{extent}
use Rattle.gcl_model.specs.Access.{first_end, last_start}
use Rattle.gcl_model.specs.Texts.{Text}
use Rattle.fixed_width.specs.Widths.{width_list}

-- the addresses 2 to 7, without words
abbrev bare : Text
bare = record { first = 2; next = 8; words = [] }

three_of_four : width_list bare 4 ≡ extent 2 5 ∷ extent 3 6 ∷ extent 4 7 ∷ []
three_of_four = refl

first_that_ends_from_six : first_end (width_list bare 4) 6 ≡ Some (extent 3 6)
first_that_ends_from_six = refl

last_that_starts_up_to_one : last_start (width_list bare 4) 1 ≡ None
last_that_starts_up_to_one = refl
