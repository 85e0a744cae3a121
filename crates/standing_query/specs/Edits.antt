-- How many look-ups it takes to find what an edit changes in a list: those that find between which addresses it may, and those of the
-- members there.
use Rattle.std.specs.Prelude.{ℕ, ◌+◌, ◌*◌, filter, length}
use Rattle.gcl_locality.specs.Changed.{changed_from, changed_upto, touches}
use Rattle.gcl_model.specs.Cost.{cost}
use Rattle.gcl_model.specs.Forms.{Form, Forms, term, phrase, width, both, one, seq, containing, contained_in, not_containing, not_contained_in, no_forms, more_forms}
use Rattle.gcl_model.specs.Limits.{most_slots}
use Rattle.gcl_model.specs.Slots.{SlotRange}
use Rattle.gcl_model.specs.Wide.{wide}
use Rattle.live_version.specs.Contents.{VersionContent, version_text}
use Rattle.wide_terms.specs.Expansion.{expansion}

-- how many look-ups one access to an expression may make, once its prefix terms are expanded over the version
abbrev pub expanded_cost : VersionContent → Form → ℕ
expanded_cost v form = cost (version_text v) (most_slots + v.dels) (expansion (version_text v) form)

abbrev mutual
  -- finding the two addresses: two accesses over each version of each second operand of `<` and of `/<`
  pub finding_cost : (old new : VersionContent) → Form → ℕ
  finding_cost old new (term token) = 0
  finding_cost old new (phrase tokens) = 0
  finding_cost old new (width n) = 0
  finding_cost old new (both forms) = finding_costs old new forms
  finding_cost old new (one forms) = finding_costs old new forms
  finding_cost old new (seq forms) = finding_costs old new forms
  finding_cost old new (containing a b) = finding_cost old new a + finding_cost old new b
  finding_cost old new (contained_in a b) = finding_cost old new a + finding_cost old new b + (2 * expanded_cost old b + 2 * expanded_cost new b)
  finding_cost old new (not_containing a b) = finding_cost old new a + finding_cost old new b
  finding_cost old new (not_contained_in a b) = finding_cost old new a + finding_cost old new b + (2 * expanded_cost old b + 2 * expanded_cost new b)

  -- the same for all operands
  pub finding_costs : (old new : VersionContent) → Forms → ℕ
  finding_costs old new no_forms = 0
  finding_costs old new (more_forms form forms) = finding_cost old new form + finding_costs old new forms

-- an access for each member that touches these addresses, and one for the end
abbrev pub touching_cost : VersionContent → (low high : ℕ) → Form → ℕ
touching_cost v low high form = (length (filter (touches low high) (wide (version_text v) form)) + 1) * expanded_cost v form

-- all together, if the versions are the same at all addresses except those of the edit
abbrev pub edit_cost : (old new : VersionContent) → SlotRange → Form → ℕ
edit_cost old new edited form =
    let low : ℕ = changed_from (version_text old) (version_text new) edited.first form in
    let high : ℕ = changed_upto (version_text old) (version_text new) edited.last form in
    finding_cost old new form + (touching_cost old low high form + touching_cost new low high form)
