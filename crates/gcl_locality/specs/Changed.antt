-- From where up to where the list of an expression may differ over two texts that are the same outside a range of addresses.
use Rattle.std.specs.Prelude.{ℕ, List, Option, None, Some, min, max, Bool, true, false, not, ◌&&◌, ◌||◌, nat_le}
use Rattle.gcl_model.specs.Extents.{Extent, contains_extent}
use Rattle.gcl_model.specs.Access.{first_end, last_start}
use Rattle.gcl_model.specs.Texts.{Text}
use Rattle.gcl_model.specs.Forms.{Form, Forms, term, phrase, width, both, one, seq, containing, contained_in, not_containing, not_contained_in, no_forms, more_forms}
use Rattle.gcl_model.specs.Wide.{wide}

-- the lesser of p and the start of an interval: of 8 and (5, 9) it is 5, and p if there is none
abbrev pub earlier_start : ℕ → Option Extent → ℕ
earlier_start p None = p
earlier_start p (Some a) = min p a.start

-- the greater of p and the end of an interval: of 8 and (5, 9) it is 9, and p if there is none
abbrev pub later_end : ℕ → Option Extent → ℕ
later_end p None = p
later_end p (Some a) = max p a.end

-- the least of p and of the starts of the members that end at k or later, of which the first one has the least
abbrev pub back_to : ℕ → List Extent → ℕ → ℕ
back_to p list k = earlier_start p (first_end list k)

-- the greatest of p and of the ends of the members that start at k or before, of which the last one has the greatest
abbrev pub on_to : ℕ → List Extent → ℕ → ℕ
on_to p list k = later_end p (last_start list k)

abbrev mutual
  -- what differs ends here or later: at `from`, except for `<` and `/<`, whose second operand may contain what is before
  pub changed_from : Text → Text → ℕ → Form → ℕ
  changed_from old new from (term token) = from
  changed_from old new from (phrase tokens) = from
  changed_from old new from (width n) = from
  changed_from old new from (both forms) = least_changed old new from forms
  changed_from old new from (one forms) = least_changed old new from forms
  changed_from old new from (seq forms) = least_changed old new from forms
  changed_from old new from (containing a b) = min (changed_from old new from a) (changed_from old new from b)
  changed_from old new from (contained_in a b) =
      back_to (back_to (changed_from old new from a) (wide old b) (changed_from old new from b)) (wide new b) (changed_from old new from b)
  changed_from old new from (not_containing a b) = min (changed_from old new from a) (changed_from old new from b)
  changed_from old new from (not_contained_in a b) =
      back_to (back_to (changed_from old new from a) (wide old b) (changed_from old new from b)) (wide new b) (changed_from old new from b)

  -- the least of the operands' addresses
  pub least_changed : Text → Text → ℕ → Forms → ℕ
  least_changed old new from no_forms = from
  least_changed old new from (more_forms form forms) = min (changed_from old new from form) (least_changed old new from forms)

abbrev mutual
  -- what differs starts here or before: at `upto`, except for `<` and `/<`, whose second operand may contain what is after
  pub changed_upto : Text → Text → ℕ → Form → ℕ
  changed_upto old new upto (term token) = upto
  changed_upto old new upto (phrase tokens) = upto
  changed_upto old new upto (width n) = upto
  changed_upto old new upto (both forms) = greatest_changed old new upto forms
  changed_upto old new upto (one forms) = greatest_changed old new upto forms
  changed_upto old new upto (seq forms) = greatest_changed old new upto forms
  changed_upto old new upto (containing a b) = max (changed_upto old new upto a) (changed_upto old new upto b)
  changed_upto old new upto (contained_in a b) =
      on_to (on_to (changed_upto old new upto a) (wide old b) (changed_upto old new upto b)) (wide new b) (changed_upto old new upto b)
  changed_upto old new upto (not_containing a b) = max (changed_upto old new upto a) (changed_upto old new upto b)
  changed_upto old new upto (not_contained_in a b) =
      on_to (on_to (changed_upto old new upto a) (wide old b) (changed_upto old new upto b)) (wide new b) (changed_upto old new upto b)

  -- the greatest of the operands' addresses
  pub greatest_changed : Text → Text → ℕ → Forms → ℕ
  greatest_changed old new upto no_forms = upto
  greatest_changed old new upto (more_forms form forms) = max (changed_upto old new upto form) (greatest_changed old new upto forms)

-- c is a member of the first list and not of the second
abbrev pub is_lost : List Extent → List Extent → Extent → Bool
is_lost old new c = contains_extent old c && not (contains_extent new c)

-- c is a member of one list and not of the other
abbrev pub differs : List Extent → List Extent → Extent → Bool
differs old new c = is_lost old new c || is_lost new old c

-- c ends at `low` or later, and starts at `high` or before: it has an address between them, or reaches over one of them
abbrev pub touches : ℕ → ℕ → Extent → Bool
touches low high c = nat_le low c.end && nat_le c.start high

abbrev mutual
  -- whether some operator of the expression asks what its members lie in, as `<` and `/<` do
  pub looks_around : Form → Bool
  looks_around (term token) = false
  looks_around (phrase tokens) = false
  looks_around (width n) = false
  looks_around (both forms) = some_look_around forms
  looks_around (one forms) = some_look_around forms
  looks_around (seq forms) = some_look_around forms
  looks_around (containing a b) = looks_around a || looks_around b
  looks_around (contained_in a b) = true
  looks_around (not_containing a b) = looks_around a || looks_around b
  looks_around (not_contained_in a b) = true

  pub some_look_around : Forms → Bool
  some_look_around no_forms = false
  some_look_around (more_forms form forms) = looks_around form || some_look_around forms
