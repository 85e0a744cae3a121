-- What an edit changes in a list.
use Rattle.std.specs.Prelude.{ℕ, ◌+◌, ◌*◌, Bool, not, ◌&&◌, ◌||◌, ◌==◌, nat_lt, List, [], ◌∷◌, ◌++◌, map, filter}
use Rattle.gcl_model.specs.Cost.{cost}
use Rattle.gcl_model.specs.Extents.{Extent, contains_extent}
use Rattle.gcl_model.specs.Forms.{Form}
use Rattle.gcl_model.specs.Limits.{most_slots}
use Rattle.gcl_model.specs.Meaning.{concordance}
use Rattle.live_version.specs.Contents.{VersionContent, version_text}
use Rattle.standing_query.specs.declared.change.Change.{Change}
use Rattle.standing_query.specs.declared.change.Change.TheVariants.{Went, Came}

-- the interval that went, or came
abbrev pub interval_of : Change → Extent
interval_of (Went a) = a
interval_of (Came a) = a

-- a starts before b does, or starts there and ends before it
abbrev pub comes_before : Extent → Extent → Bool
comes_before a b = nat_lt a.start b.start || ((a.start == b.start) && nat_lt a.end b.end)

-- the members of the first list that are not in the second: of 1 to 2 and 5 to 6, and 5 to 6 and 8 to 9, the one from 1 to 2
abbrev pub lost : List Extent → List Extent → List Extent
lost old new = filter (λ c. not (contains_extent new c)) old

-- two lists of changes as one, in rising start and then rising end: each of the first list, and in front of it those of the second that come before it
abbrev pub in_order : List Change → List Change → List Change
in_order [] others = others
in_order (c ∷ changes) others =
    filter (λ d. comes_before (interval_of d) (interval_of c)) others
    ++ c ∷ in_order changes (filter (λ d. not (comes_before (interval_of d) (interval_of c))) others)

-- what changes from the first list to the second, in rising start and then rising end: each member of the first that is not in the second went,
-- and each of the second that is not in the first came
abbrev pub changes : List Extent → List Extent → List Change
changes old new = in_order (map Went (lost old new)) (map Came (lost new old))

-- the changes that are to come, and how many look-ups may be made for them in all
pub record ChangesContent : Type 0 where
  pub to_come : List Change
  pub look_ups : ℕ

-- these changes, and this number of look-ups
abbrev pub changes_content : List Change → ℕ → ChangesContent
changes_content to_come look_ups = record { to_come = to_come; look_ups = look_ups }

-- all members of an expression over a version
abbrev pub members : VersionContent → Form → List Extent
members v form = concordance (version_text v) form

-- finding `count` of them, and that there are no more: each takes at most the cost of the expression
abbrev pub list_cost : VersionContent → Form → ℕ → ℕ
list_cost v form count = (count + 1) * cost (version_text v) (most_slots + v.dels) form
