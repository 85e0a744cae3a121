-- The members that a query on a pass finds, and the look-ups that it may take.
use Rattle.std.specs.Prelude.{ℕ, ◌+◌, ◌*◌, Bool, false, List, take, bytes_eq}
use Rattle.gcl_model.specs.Limits.{most_slots}
use Rattle.gcl_model.specs.Extents.{Extent}
use Rattle.gcl_model.specs.Texts.{Text}
use Rattle.gcl_model.specs.Forms.{Form, term, phrase, width, both, one, seq, containing, contained_in, not_containing, not_contained_in}
use Rattle.gcl_model.specs.Meaning.{concordance}
use Rattle.gcl_model.specs.Cost.{cost}
use Rattle.gcl_eval.specs.Members.{members_from}
use Rattle.live_version.specs.Contents.{VersionContent}

-- the first `most` members of the expression's list, or all if there are fewer
abbrev pub first_members : Text → Form → ℕ → List Extent
first_members text form most = take most (concordance text form)

-- the first `most` of those that start at or after k, or all of these if there are fewer
abbrev pub first_members_from : Text → Form → ℕ → ℕ → List Extent
first_members_from text form k most = take most (members_from (concordance text form) k)

-- finding this many members, and that no more are asked for or there: each takes at most the cost of the expression
abbrev pub look_ups : Text → ℕ → Form → ℕ → ℕ
look_ups text most form members = (members + 1) * cost text most form

-- whether the form is the term of this token
abbrev pub is_the_term : List ℕ → Form → Bool
is_the_term token (term other) = bytes_eq other token
is_the_term token (phrase tokens) = false
is_the_term token (width n) = false
is_the_term token (both forms) = false
is_the_term token (one forms) = false
is_the_term token (seq forms) = false
is_the_term token (containing a b) = false
is_the_term token (contained_in a b) = false
is_the_term token (not_containing a b) = false
is_the_term token (not_contained_in a b) = false

-- how many look-ups one access to a word of the version may make: one for each slot and each deletion
abbrev pub access_most : VersionContent → ℕ
access_most v = most_slots + v.dels
