-- How many look-ups any reading of an expression makes in all: a merge of the whole lists of its nodes.
use Rattle.std.specs.Prelude.{ℕ, ◌+◌, ◌*◌, List, [], length, take, drop, Option, Some, None}
use Rattle.gcl_model.specs.Extents.{Extent}
use Rattle.gcl_model.specs.Texts.{Text}
use Rattle.gcl_model.specs.Forms.{Form, Forms, term, phrase, width, both, one, seq, containing, contained_in, not_containing, not_contained_in, no_forms, more_forms, forms_count}
use Rattle.gcl_model.specs.Meaning.{concordance}
use Rattle.gcl_model.specs.Cost.{fewest_places}
use Rattle.phrase_walk.specs.Rounds.{fewest_between, walk_end}
use Rattle.gcl_eval.specs.Members.{members_from}
use Rattle.gcl_readers.specs.declared.front.Front.{Front}
use Rattle.gcl_readers.specs.declared.front.Front.TheVariants.{Before, On, Between, End}
use Rattle.gcl_readers.specs.declared.front.Place.{Place}
use Rattle.gcl_readers.specs.Standing.{nodes, front_of}

-- the look-ups of a node for each of its members, besides those of its operands for theirs: one of a term, one of a phrase for each token,
-- and two of "both of" and of "followed by" for each operand, with `most` the number of look-ups that one call of the leaves may make
abbrev pub member_cost : Text → (most : ℕ) → Form → ℕ
member_cost text most (term token) = most
member_cost text most (phrase tokens) = length tokens * most
member_cost text most (both forms) = forms_count forms * (2 * most)
member_cost text most (seq forms) = forms_count forms * (2 * most)
member_cost text most form = 0

-- the tokens of a phrase, which it finds by a walk; no other form makes one
abbrev pub tokens_of : Form → List (List ℕ)
tokens_of (phrase tokens) = tokens
tokens_of form = []

-- the look-ups of a node that looks for a member at or after k and finds this one, or that there is none: a phrase makes one more for each
-- token and each place of its rarest token that the walk leaves behind
abbrev pub find_cost : Text → (most : ℕ) → Form → ℕ → Option Extent → ℕ
find_cost text most form k found = (fewest_between text.words (tokens_of form) k (walk_end text found) + 1) * member_cost text most form

abbrev mutual
  -- the sum over all nodes: for each member, and once more for the end of its list; of a phrase for each place of its rarest token, too
  pub merge_cost : Text → (most : ℕ) → Form → ℕ
  merge_cost text most (term token) = (length (concordance text (term token)) + 1) * member_cost text most (term token)
  merge_cost text most (phrase tokens) = (fewest_places text.words tokens + length (concordance text (phrase tokens)) + 1) * member_cost text most (phrase tokens)
  merge_cost text most (width n) = 0
  merge_cost text most (both forms) = (length (concordance text (both forms)) + 1) * member_cost text most (both forms) + merge_costs text most forms
  merge_cost text most (one forms) = merge_costs text most forms
  merge_cost text most (seq forms) = (length (concordance text (seq forms)) + 1) * member_cost text most (seq forms) + merge_costs text most forms
  merge_cost text most (containing a b) = merge_cost text most a + merge_cost text most b
  merge_cost text most (contained_in a b) = merge_cost text most a + merge_cost text most b
  merge_cost text most (not_containing a b) = merge_cost text most a + merge_cost text most b
  merge_cost text most (not_contained_in a b) = merge_cost text most a + merge_cost text most b

  pub merge_costs : Text → (most : ℕ) → Forms → ℕ
  merge_costs text most no_forms = 0
  merge_costs text most (more_forms form forms) = merge_cost text most form + merge_costs text most forms

-- how many members were not looked for yet, and the end of the list
abbrev pub not_asked : List Extent → Front → ℕ
not_asked list Before = length (members_from list 0) + 1
not_asked list (On a) = length (members_from list (a.start + 1)) + 1
not_asked list (Between a None) = 0
not_asked list (Between a (Some next)) = length (members_from list (next.start + 1)) + 1
not_asked list End = 0

-- how many places of the rarest of the tokens no walk has left behind, each token's counted from its place in the row that starts right
-- after the last member that was looked for
abbrev pub places_left : Text → List (List ℕ) → Front → ℕ
places_left text tokens Before = fewest_places text.words tokens
places_left text tokens (On a) = fewest_between text.words tokens (a.start + 1) text.next
places_left text tokens (Between a None) = 0
places_left text tokens (Between a (Some next)) = fewest_between text.words tokens (next.start + 1) text.next
places_left text tokens End = 0

-- what is left to a node for its own members
abbrev pub own_left : Text → (most : ℕ) → Form → Front → ℕ
own_left text most form front = (places_left text (tokens_of form) front + not_asked (concordance text form) front) * member_cost text most form

abbrev mutual
  -- what is left of the whole cost to the readers of a node's operands
  pub cost_below : Text → (most : ℕ) → Form → List Place → ℕ
  cost_below text most (term token) places = 0
  cost_below text most (phrase tokens) places = 0
  cost_below text most (width n) places = 0
  cost_below text most (both forms) places = costs_left text most forms places
  cost_below text most (one forms) places = costs_left text most forms places
  cost_below text most (seq forms) places = costs_left text most forms places
  cost_below text most (containing a b) places =
      (own_left text most a (front_of (take (nodes a) places)) + cost_below text most a (drop 1 (take (nodes a) places)))
      + (own_left text most b (front_of (drop (nodes a) places)) + cost_below text most b (drop 1 (drop (nodes a) places)))
  cost_below text most (contained_in a b) places =
      (own_left text most a (front_of (take (nodes a) places)) + cost_below text most a (drop 1 (take (nodes a) places)))
      + (own_left text most b (front_of (drop (nodes a) places)) + cost_below text most b (drop 1 (drop (nodes a) places)))
  cost_below text most (not_containing a b) places =
      (own_left text most a (front_of (take (nodes a) places)) + cost_below text most a (drop 1 (take (nodes a) places)))
      + (own_left text most b (front_of (drop (nodes a) places)) + cost_below text most b (drop 1 (drop (nodes a) places)))
  cost_below text most (not_contained_in a b) places =
      (own_left text most a (front_of (take (nodes a) places)) + cost_below text most a (drop 1 (take (nodes a) places)))
      + (own_left text most b (front_of (drop (nodes a) places)) + cost_below text most b (drop 1 (drop (nodes a) places)))

  pub costs_left : Text → (most : ℕ) → Forms → List Place → ℕ
  costs_left text most no_forms places = 0
  costs_left text most (more_forms form forms) places =
      (own_left text most form (front_of (take (nodes form) places)) + cost_below text most form (drop 1 (take (nodes form) places))) + costs_left text most forms (drop (nodes form) places)

-- what is left of the whole cost to the readers of an expression
abbrev pub cost_left : Text → (most : ℕ) → Form → List Place → ℕ
cost_left text most form places = own_left text most form (front_of places) + cost_below text most form (drop 1 places)
