-- An expression over the words of a version, or over them with the places of its prefix terms.
use Rattle.std.specs.Prelude.{◌≡◌, ℕ, ◌+◌, ◌-◌, ◌*◌, ◌≤◌, ◌==◌, Bool, true, false, List, length, Option, Some, None, IfSome, if◌then◌else◌}
use Rattle.gcl_model.specs.Extents.{Extent}
use Rattle.gcl_model.specs.FormOf.{form_of}
use Rattle.gcl_model.specs.declared.expr.Expr.{Expr}
use Rattle.gcl_model.specs.Forms.{Form}
use Rattle.gcl_model.specs.Limits.{address_end}
use Rattle.gcl_model.specs.Meaning.{concordance}
use Rattle.gcl_model.specs.Texts.{Text}
use Rattle.gcl_model.specs.WellFormed.{IsWellFormed}
use Rattle.gcl_eval.specs.Members.{members_from}
use Rattle.gcl_readers.specs.MergeCost.{merge_cost}
use Rattle.gcl_cursor.specs.Cursors.{IsAt, left_of}
use Rattle.gcl_cursor.specs.declared.cursor.Cursor.{Cursor}
use Rattle.gcl_cursor.specs.declared.cursor.Cursor.TheVariants.{Leaping, Reading, Free}
use Rattle.live_version.specs.Contents.{VersionContent, version_text}
use Rattle.manifest_publish.specs.Accounts.{EndsWith}
use Rattle.collection.specs.Engines.{last_of}
use Rattle.reader_pass.specs.Members.{access_most}
use Rattle.prefix_places.specs.Places.{PrefixContent}
use Rattle.prefix_leaves.specs.Prefixes.{AreOver, tokens_of, wide_most}
use Rattle.prefix_leaves.specs.Renaming.{is_apart, renamed}

-- the text that is asked, how many look-ups one call of its leaves may make, and the expression
pub record QueryContent : Type 0 where
  pub text : Text
  pub most : ℕ
  pub expr : Expr

-- the last version's text; if there are prefix terms with their places, these are the tokens of the words that they stand for
abbrev pub query_text : List VersionContent → Option (List PrefixContent) → Text
query_text history None = version_text (last_of history)
query_text history (Some table) = renamed (tokens_of table) (version_text (last_of history))

abbrev pub query_most : List VersionContent → Option (List PrefixContent) → ℕ
query_most history None = access_most (last_of history)
query_most history (Some table) = wide_most (last_of history)

-- its members
abbrev pub list_of : QueryContent → List Extent
list_of query = concordance query.text (form_of query.expr)

-- how many look-ups all its pages and its number may make together: four by leaping for each address, those of three calls of its leaves,
-- and those of one merge of the whole lists of all its parts
abbrev pub query_cost : QueryContent → ℕ
query_cost query = 4 * (query.text.next - query.text.first) + 3 * query.most + merge_cost query.text query.most (form_of query.expr)

-- the table, if there is one, has the places over the last version, and no word has two names in the form
pub record IsQuery (history : List VersionContent) (form : Form) (table : Option (List PrefixContent)) : Type 0 where
  pub last : EndsWith history (last_of history)
  pub well_formed : IsWellFormed form
  pub named : IfSome table (λ t. AreOver (version_text (last_of history)) t × (is_apart (tokens_of t) form ≡ true))

-- members of a query that go on at an address, not past the end of its text, with a cursor that passed none of them
pub record GoesOnOver (query : QueryContent) (from end : ℕ) (cursor : Cursor) : Type 0 where
  pub text_end : end ≡ query.text.next
  pub in_range : end ≤ address_end
  pub within : from ≤ end
  pub at : IsAt query.text (form_of query.expr) from cursor

-- look-ups have no limit
abbrev pub is_free : Cursor → Bool
is_free (Leaping leaps readers) = false
is_free (Reading readers) = false
is_free Free = true

-- all members of a query, those that are still to come, how many look-ups may still be made in all, and whether they have no limit
pub record QueryLeft : Type 0 where
  pub all : List Extent
  pub to_come : List Extent
  pub left : ℕ
  pub free : Bool

-- what is left if those that start at or after an address are to come: at the end there are none, and no more look-ups are made
abbrev pub left_from : QueryContent → (from end : ℕ) → Cursor → QueryLeft
left_from query from end cursor = record {
  all = list_of query;
  to_come = members_from (list_of query) from;
  left = if from == end then 0 else left_of query.text query.most (form_of query.expr) cursor;
  free = if from == end then false else is_free cursor;
}

-- a search with these members, of which some were given: the merging, if there is one, has the same members, and is there only before the
-- first is given
pub record IsSearch (all to_come : List Extent) (merging : Option (List Extent)) (given : ℕ) : Type 0 where
  pub counted : given + length to_come ≡ length all
  pub few : length all ≤ address_end
  pub same : IfSome merging (λ list. (list ≡ to_come) × (given ≡ 0))
