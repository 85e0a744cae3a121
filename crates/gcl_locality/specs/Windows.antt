-- Which part of a text determines the members of an expression that touch two addresses.
use Rattle.std.specs.Prelude.{◌≡◌, ℕ, ◌+◌, ◌-◌, ◌≤◌, Bool, true, false, List, Option, None, Some, min, max, filter, length, if◌then◌else◌}
use Rattle.gcl_model.specs.Extents.{Extent}
use Rattle.gcl_model.specs.Access.{first_start, last_end}
use Rattle.gcl_model.specs.Texts.{Text}
use Rattle.gcl_model.specs.Forms.{Form, Forms, term, phrase, width, both, one, seq, containing, contained_in, not_containing, not_contained_in, no_forms, more_forms}
use Rattle.gcl_model.specs.Meaning.{concordance}
use Rattle.gcl_locality.specs.Agreement.{AgreeWithin}
use Rattle.gcl_locality.specs.Changed.{touches}

-- a part of a text: it has the same words from `low` to `high`, and no address that the text lacks
pub record IsPart (part text : Text) (low high : ℕ) : Type 0 where
  pub same : AgreeWithin text part low high
  pub first : text.first ≤ part.first
  pub next : part.next ≤ text.next

-- where an interval starts, and p if there is none
abbrev pub start_or : ℕ → Option Extent → ℕ
start_or p None = p
start_or p (Some a) = a.start

-- where it ends
abbrev pub end_or : ℕ → Option Extent → ℕ
end_or p None = p
end_or p (Some a) = a.end

-- where the last member that ends before x starts: each member that reaches x starts after it. If there is none, it is the first address.
-- Of (1, 2) and (5, 6) it is 1 for 5
abbrev pub start_before : Text → List Extent → ℕ → ℕ
start_before text list x = min x (start_or text.first (last_end list (x - 1)))

-- where the first member that starts after y ends, or the end of the addresses. Of (1, 2) and (5, 6) it is 6 for 2
abbrev pub end_behind : Text → List Extent → ℕ → ℕ
end_behind text list y = max y (end_or text.next (first_start list (y + 1)))

-- whether all members have the same width, as those of `[5]`
abbrev pub has_width : Form → Bool
has_width (width n) = true
has_width _ = false

abbrev mutual
  -- each member that ends at x or later starts here or later. A term's start where they end, a phrase's are as long as it is, those within a
  -- width are no longer, and those of another containment are members of its first operand: so no search goes far. Of the phrase `to be`
  -- it is 4 for 5
  pub reach_from : Text → ℕ → Form → ℕ
  reach_from text x (term token) = x
  reach_from text x (phrase tokens) = x - (length tokens - 1)
  reach_from text x (width n) = start_before text (concordance text (width n)) x
  reach_from text x (both forms) = start_before text (concordance text (both forms)) x
  reach_from text x (one forms) = all_reach_from text x forms
  reach_from text x (seq forms) = start_before text (concordance text (seq forms)) x
  reach_from text x (containing a b) = reach_from text x a
  reach_from text x (contained_in a b) = if has_width b then reach_from text x b else reach_from text x a
  reach_from text x (not_containing a b) = reach_from text x a
  reach_from text x (not_contained_in a b) = reach_from text x a

  -- the least of the operands' addresses
  pub all_reach_from : Text → ℕ → Forms → ℕ
  all_reach_from text x no_forms = x
  all_reach_from text x (more_forms form forms) = min (reach_from text x form) (all_reach_from text x forms)

abbrev mutual
  -- each member that starts at y or before ends here or before
  pub reach_upto : Text → ℕ → Form → ℕ
  reach_upto text y (term token) = y
  reach_upto text y (phrase tokens) = max y (min text.next (y + (length tokens - 1)))
  reach_upto text y (width n) = end_behind text (concordance text (width n)) y
  reach_upto text y (both forms) = end_behind text (concordance text (both forms)) y
  reach_upto text y (one forms) = all_reach_upto text y forms
  reach_upto text y (seq forms) = end_behind text (concordance text (seq forms)) y
  reach_upto text y (containing a b) = reach_upto text y a
  reach_upto text y (contained_in a b) = if has_width b then reach_upto text y b else reach_upto text y a
  reach_upto text y (not_containing a b) = reach_upto text y a
  reach_upto text y (not_contained_in a b) = reach_upto text y a

  -- the greatest of the operands' addresses
  pub all_reach_upto : Text → ℕ → Forms → ℕ
  all_reach_upto text y no_forms = y
  all_reach_upto text y (more_forms form forms) = max (reach_upto text y form) (all_reach_upto text y forms)

abbrev mutual
  -- from where a part of the text must have its words to determine the members that lie from x to y: from x, except for `<` and `/<`, for
  -- which it must also determine what contains these members
  pub told_from : Text → (x y : ℕ) → Form → ℕ
  told_from text x y (term token) = x
  told_from text x y (phrase tokens) = x
  told_from text x y (width n) = x
  told_from text x y (both forms) = all_told_from text x y forms
  told_from text x y (one forms) = all_told_from text x y forms
  told_from text x y (seq forms) = all_told_from text x y forms
  told_from text x y (containing a b) = min (told_from text x y a) (told_from text x y b)
  told_from text x y (contained_in a b) =
      min (told_from text x y a) (told_from text (reach_from text x b) (reach_upto text y b) b)
  told_from text x y (not_containing a b) = min (told_from text x y a) (told_from text x y b)
  told_from text x y (not_contained_in a b) =
      min (told_from text x y a) (told_from text (reach_from text x b) (reach_upto text y b) b)

  -- the least of the operands' addresses
  pub all_told_from : Text → (x y : ℕ) → Forms → ℕ
  all_told_from text x y no_forms = x
  all_told_from text x y (more_forms form forms) = min (told_from text x y form) (all_told_from text x y forms)

abbrev mutual
  -- up to where it must have them
  pub told_upto : Text → (x y : ℕ) → Form → ℕ
  told_upto text x y (term token) = y
  told_upto text x y (phrase tokens) = y
  told_upto text x y (width n) = y
  told_upto text x y (both forms) = all_told_upto text x y forms
  told_upto text x y (one forms) = all_told_upto text x y forms
  told_upto text x y (seq forms) = all_told_upto text x y forms
  told_upto text x y (containing a b) = max (told_upto text x y a) (told_upto text x y b)
  told_upto text x y (contained_in a b) =
      max (told_upto text x y a) (told_upto text (reach_from text x b) (reach_upto text y b) b)
  told_upto text x y (not_containing a b) = max (told_upto text x y a) (told_upto text x y b)
  told_upto text x y (not_contained_in a b) =
      max (told_upto text x y a) (told_upto text (reach_from text x b) (reach_upto text y b) b)

  -- the greatest of the operands' addresses
  pub all_told_upto : Text → (x y : ℕ) → Forms → ℕ
  all_told_upto text x y no_forms = y
  all_told_upto text x y (more_forms form forms) = max (told_upto text x y form) (all_told_upto text x y forms)

-- the window of an expression at two addresses: the part of a text from here
abbrev pub window_from : Text → (low high : ℕ) → Form → ℕ
window_from text low high form = told_from text (reach_from text low form) (reach_upto text high form) form

-- up to here
abbrev pub window_upto : Text → (low high : ℕ) → Form → ℕ
window_upto text low high form = told_upto text (reach_from text low form) (reach_upto text high form) form

-- what has the words of the window determines the members that touch the two addresses. The first is at most one after the second, as 5
-- and 4, between which there is no address: with 12 and 2, (1, 12) would touch both, and the window might have none of its words
abbrev pub WindowsTell : Type 0
WindowsTell = (text part : Text) (form : Form) (low high : ℕ) → low ≤ high + 1 →
    IsPart part text (window_from text low high form) (window_upto text low high form) →
    filter (touches low high) (concordance part form) ≡ filter (touches low high) (concordance text form)
