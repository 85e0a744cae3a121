-- The places of readers that have been asked nothing yet.
use Rattle.std.specs.Prelude.{ℕ, List, [], ◌∷◌, ◌++◌}
use Rattle.gcl_model.specs.Forms.{Form, Forms, term, phrase, width, both, one, seq, containing, contained_in, not_containing, not_contained_in, no_forms, more_forms}
use Rattle.gcl_readers.specs.declared.front.Front.TheVariants.{Before}
use Rattle.gcl_readers.specs.declared.front.Place.{Place}
use Rattle.gcl_readers.specs.Standing.{nodes}

-- a place before all members
abbrev pub place_before : ℕ → Place
place_before size = record { size = size; front = Before }

abbrev mutual
  -- those of the operands of a node, one operand after the other
  pub new_places_below : Form → List Place
  new_places_below (term token) = []
  new_places_below (phrase tokens) = []
  new_places_below (width n) = []
  new_places_below (both forms) = new_places_of forms
  new_places_below (one forms) = new_places_of forms
  new_places_below (seq forms) = new_places_of forms
  new_places_below (containing a b) = (place_before (nodes a) ∷ new_places_below a) ++ (place_before (nodes b) ∷ new_places_below b)
  new_places_below (contained_in a b) = (place_before (nodes a) ∷ new_places_below a) ++ (place_before (nodes b) ∷ new_places_below b)
  new_places_below (not_containing a b) = (place_before (nodes a) ∷ new_places_below a) ++ (place_before (nodes b) ∷ new_places_below b)
  new_places_below (not_contained_in a b) = (place_before (nodes a) ∷ new_places_below a) ++ (place_before (nodes b) ∷ new_places_below b)

  pub new_places_of : Forms → List Place
  new_places_of no_forms = []
  new_places_of (more_forms form forms) = (place_before (nodes form) ∷ new_places_below form) ++ new_places_of forms

-- that of the node, and those of its operands
abbrev pub new_places : Form → List Place
new_places form = place_before (nodes form) ∷ new_places_below form
