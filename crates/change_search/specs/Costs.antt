-- How many look-ups it takes to find what an edit changes in the list of a query.
use Rattle.std.specs.Prelude.{ℕ, ◌+◌, ◌*◌, Bool, length, if◌then◌else◌}
use Rattle.gcl_locality.specs.Changed.{changed_from, changed_upto}
use Rattle.gcl_model.specs.Forms.{Form}
use Rattle.gcl_model.specs.Slots.{SlotRange}
use Rattle.gcl_model.specs.Wide.{wide}
use Rattle.gcl_readers.specs.MergeCost.{merge_cost}
use Rattle.live_version.specs.Contents.{VersionContent, version_text}
use Rattle.near_search.specs.Costs.{near_listing_cost, near_opening_cost, one_access}
use Rattle.prefix_terms.specs.Costs.{prefix_cost}
use Rattle.reader_pass.specs.Members.{access_most}
use Rattle.standing_query.specs.Edits.{finding_cost}
use Rattle.wide_terms.specs.Expansion.{expansion, sum_of_prefixes}

-- the accesses that find `members` members page by page: 3 for each, since the next page has at most twice as many members as were passed
-- in the last one, and 3 for the first page, which has 2; for 2 members that is 9
abbrev pub paged_accesses : (members : ℕ) → ℕ
paged_accesses members = 3 * members + 3

-- finding `members` members of a whole list: by accesses, or, if readers find them, by a merge of whole lists
abbrev pub whole_listing_cost : VersionContent → Form → (reads : Bool) → (members : ℕ) → ℕ
whole_listing_cost v form reads members = if reads then merge_cost (version_text v) (access_most v) form else paged_accesses members * one_access v form

-- an expression as it is expanded over a version
abbrev pub expanded : VersionContent → Form → Form
expanded v form = expansion (version_text v) form

-- what is done first over a version: the words of the prefix terms are found
abbrev pub words_cost : VersionContent → Form → ℕ
words_cost v form = sum_of_prefixes (prefix_cost v) form

-- comparing both whole lists
abbrev pub whole_cost : (old new : VersionContent) → (before_reads after_reads : Bool) → Form → ℕ
whole_cost old new before_reads after_reads form =
    words_cost old form + words_cost new form
    + (whole_listing_cost old (expanded old form) before_reads (length (wide (version_text old) form))
    + whole_listing_cost new (expanded new form) after_reads (length (wide (version_text new) form)))

-- before the members are compared, if the versions are the same at all addresses except those of an edit: the two addresses of the
-- expression are found, and over each version the window there with its first member
abbrev pub edit_opening_cost : (old new : VersionContent) → SlotRange → Form → ℕ
edit_opening_cost old new edited form =
    let low : ℕ = changed_from (version_text old) (version_text new) edited.first form in
    let high : ℕ = changed_upto (version_text old) (version_text new) edited.last form in
    words_cost old form + words_cost new form + finding_cost old new form
    + (near_opening_cost old low high (expanded old form) + near_opening_cost new low high (expanded new form))

-- and then a merge of the lists over each window
abbrev pub change_cost : (old new : VersionContent) → SlotRange → Form → ℕ
change_cost old new edited form =
    let low : ℕ = changed_from (version_text old) (version_text new) edited.first form in
    let high : ℕ = changed_upto (version_text old) (version_text new) edited.last form in
    edit_opening_cost old new edited form + (near_listing_cost old low high (expanded old form) + near_listing_cost new low high (expanded new form))
