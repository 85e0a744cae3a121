-- How many look-ups it takes to find the members of an expression that touch two addresses.
use Rattle.std.specs.Prelude.{ℕ, ◌+◌, ◌*◌, if◌then◌else◌}
use Rattle.gcl_locality.specs.Windows.{has_width, window_from, window_upto}
use Rattle.gcl_model.specs.Cost.{cost}
use Rattle.gcl_model.specs.Forms.{Form, Forms, term, phrase, width, both, one, seq, containing, contained_in, not_containing, not_contained_in, no_forms, more_forms}
use Rattle.gcl_model.specs.Texts.{Text}
use Rattle.gcl_readers.specs.MergeCost.{merge_cost}
use Rattle.live_version.specs.Contents.{VersionContent, version_text}
use Rattle.reader_pass.specs.Members.{access_most}
use Rattle.text_window.specs.Within.{within}

-- how many look-ups an access to an expression without prefix terms may make over a version
abbrev pub one_access : VersionContent → Form → ℕ
one_access v form = cost (version_text v) (access_most v) form

-- the part of the text of a version that determines which members touch two addresses
abbrev pub window : VersionContent → (low high : ℕ) → Form → Text
window v low high form = within (version_text v) (window_from (version_text v) low high form) (window_upto (version_text v) low high form)

abbrev mutual
  -- finding how far members reach that touch two addresses: two accesses to each "both of", "followed by" and width whose members are some
  -- of the expression's
  pub reach_cost : VersionContent → Form → ℕ
  reach_cost v (term token) = 0
  reach_cost v (phrase tokens) = 0
  reach_cost v (width n) = 2 * one_access v (width n)
  reach_cost v (both forms) = 2 * one_access v (both forms)
  reach_cost v (one forms) = reach_costs v forms
  reach_cost v (seq forms) = 2 * one_access v (seq forms)
  reach_cost v (containing a b) = reach_cost v a
  reach_cost v (contained_in a b) = if has_width b then reach_cost v b else reach_cost v a
  reach_cost v (not_containing a b) = reach_cost v a
  reach_cost v (not_contained_in a b) = reach_cost v a

  -- the same for all operands
  pub reach_costs : VersionContent → Forms → ℕ
  reach_costs v no_forms = 0
  reach_costs v (more_forms form forms) = reach_cost v form + reach_costs v forms

abbrev mutual
  -- finding how far what surrounds the members reaches: the second operand of each `<` and `/<`
  pub surround_cost : VersionContent → Form → ℕ
  surround_cost v (term token) = 0
  surround_cost v (phrase tokens) = 0
  surround_cost v (width n) = 0
  surround_cost v (both forms) = surround_costs v forms
  surround_cost v (one forms) = surround_costs v forms
  surround_cost v (seq forms) = surround_costs v forms
  surround_cost v (containing a b) = surround_cost v a + surround_cost v b
  surround_cost v (contained_in a b) = surround_cost v a + (reach_cost v b + surround_cost v b)
  surround_cost v (not_containing a b) = surround_cost v a + surround_cost v b
  surround_cost v (not_contained_in a b) = surround_cost v a + (reach_cost v b + surround_cost v b)

  -- the same for all operands
  pub surround_costs : VersionContent → Forms → ℕ
  surround_costs v no_forms = 0
  surround_costs v (more_forms form forms) = surround_cost v form + surround_costs v forms

-- finding the window
abbrev pub window_cost : VersionContent → Form → ℕ
window_cost v form = reach_cost v form + surround_cost v form

-- and the first member that touches two addresses, by one access over the window alone
abbrev pub near_opening_cost : VersionContent → (low high : ℕ) → Form → ℕ
near_opening_cost v low high form = window_cost v form + cost (window v low high form) (access_most v) form

-- then readers merge the lists over the window
abbrev pub near_listing_cost : VersionContent → (low high : ℕ) → Form → ℕ
near_listing_cost v low high form = merge_cost (window v low high form) (access_most v) form
