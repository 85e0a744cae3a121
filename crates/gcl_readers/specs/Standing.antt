-- The places of the readers of all nodes of an expression: that of a node comes first, and then those of its operands, one after the other.
use Rattle.std.specs.Prelude.{◌≡◌, ℕ, ◌+◌, ◌≤◌, List, [], ◌∷◌, length, take, drop, Option, IfSome}
use Rattle.gcl_model.specs.Access.{first_start}
use Rattle.gcl_model.specs.Extents.{Extent}
use Rattle.gcl_model.specs.Texts.{Text}
use Rattle.gcl_model.specs.Forms.{Form, Forms, term, phrase, width, both, one, seq, containing, contained_in, not_containing, not_contained_in, no_forms, more_forms}
use Rattle.gcl_model.specs.Meaning.{concordance, operands}
use Rattle.gcl_readers.specs.declared.front.Front.{Front}
use Rattle.gcl_readers.specs.declared.front.Front.TheVariants.{Before}
use Rattle.gcl_readers.specs.declared.front.Place.{Place}
use Rattle.gcl_readers.specs.Fronts.{start_left, left_of, IsFrontOf, WhereAsked, after, past}
use Rattle.gcl_readers.specs.Agreement.{AnswersFrom, AnswersByEnds, AllAnswerFrom, AllAnswerOrEnd, AllAnswerInOrder}

abbrev mutual
  -- how many nodes an expression has: "to" ^ "be" has 3
  pub nodes : Form → ℕ
  nodes (term token) = 1
  nodes (phrase tokens) = 1
  nodes (width n) = 1
  nodes (both forms) = nodes_of forms + 1
  nodes (one forms) = nodes_of forms + 1
  nodes (seq forms) = nodes_of forms + 1
  nodes (containing a b) = nodes a + nodes b + 1
  nodes (contained_in a b) = nodes a + nodes b + 1
  nodes (not_containing a b) = nodes a + nodes b + 1
  nodes (not_contained_in a b) = nodes a + nodes b + 1

  pub nodes_of : Forms → ℕ
  nodes_of no_forms = 0
  nodes_of (more_forms form forms) = nodes form + nodes_of forms

-- the front of the node to which these places belong
abbrev pub front_of : List Place → Front
front_of [] = Before
front_of (place ∷ places) = place.front

-- the same places, with the first one's reader at this front
abbrev pub with_front : List Place → Front → List Place
with_front [] front = []
with_front (place ∷ places) front = record { size = place.size; front = front } ∷ places

-- how many places the first one says that there are
abbrev pub size_of : List Place → ℕ
size_of [] = 0
size_of (place ∷ places) = place.size

-- the members that are left to the node's reader start here or later
abbrev pub start_at : List Place → ℕ
start_at places = start_left (front_of places)

-- where the readers of the operands stand
abbrev pub starts_at : Forms → List Place → List ℕ
starts_at no_forms places = []
starts_at (more_forms form forms) places = start_at (take (nodes form) places) ∷ starts_at forms (drop (nodes form) places)

-- the members that are left to the node's reader
abbrev pub left_to : Text → Form → List Place → List Extent
left_to text form places = left_of (concordance text form) (front_of places)

-- where the operands of a containment by starts stand: both answer as their whole lists do after the start of the last member
abbrev pub AnswerByStarts : Text → (a b : Form) → List Place → Option Extent → Type 0
AnswerByStarts text a b places found =
    AnswersFrom (concordance text a) (start_at (take (nodes a) places)) (after found) × AnswersFrom (concordance text b) (start_at (drop (nodes a) places)) (after found)

-- and by ends: the second one answers by ends after its end
abbrev pub AnswerByEnds : Text → (a b : Form) → List Place → Option Extent → Type 0
AnswerByEnds text a b places found =
    AnswersFrom (concordance text a) (start_at (take (nodes a) places)) (after found) × AnswersByEnds (concordance text b) (start_at (drop (nodes a) places)) (past found)

-- what is known from the readers of the operands about the node's members after the last one that was looked for
abbrev pub Tell : Text → Form → Front → List Place → Type 0
Tell text (term token) front places = Unit {0}
Tell text (phrase tokens) front places = Unit {0}
Tell text (width n) front places = front ≡ Before
Tell text (both forms) front places = WhereAsked (λ found. AllAnswerOrEnd (operands text forms) (starts_at forms places) (after found) (past found)) front
Tell text (one forms) front places = WhereAsked (λ found. AllAnswerFrom (operands text forms) (starts_at forms places) (after found)) front
Tell text (seq forms) front places = WhereAsked (λ found. AllAnswerInOrder (operands text forms) (starts_at forms places) (after found)) front
Tell text (containing a b) front places = WhereAsked (AnswerByStarts text a b places) front
Tell text (contained_in a b) front places = WhereAsked (AnswerByEnds text a b places) front
Tell text (not_containing a b) front places = WhereAsked (AnswerByStarts text a b places) front
Tell text (not_contained_in a b) front places = WhereAsked (AnswerByEnds text a b places) front

-- at or after k the operands of "both of" answer as their whole lists do, or both answers end before v, which is at most the end of the
-- node's own answer
pub record BothTell (node : List Extent) (lists : List (List Extent)) (starts : List ℕ) (k : ℕ) : Type 0 where
  pub v : ℕ
  pub each : AllAnswerOrEnd lists starts k v
  pub before : IfSome (first_start node k) (λ a. v ≤ a.end)

-- where the operands of a containment are asked: the first one at or after k by starts, the second one there by starts, too
abbrev pub AskByStarts : Text → (a b : Form) → List Place → ℕ → Type 0
AskByStarts text a b places k =
    AnswersFrom (concordance text a) (start_at (take (nodes a) places)) k × AnswersFrom (concordance text b) (start_at (drop (nodes a) places)) k

-- or by ends
abbrev pub AskByEnds : Text → (a b : Form) → List Place → ℕ → Type 0
AskByEnds text a b places k =
    AnswersFrom (concordance text a) (start_at (take (nodes a) places)) k
    × IfSome (first_start (concordance text a) k) (λ c. AnswersByEnds (concordance text b) (start_at (drop (nodes a) places)) c.end)

-- what is known from the readers of the operands about the node's members at or after k
abbrev pub TellsFrom : Text → Form → List Place → ℕ → Type 0
TellsFrom text (term token) places k = Unit {0}
TellsFrom text (phrase tokens) places k = Unit {0}
TellsFrom text (width n) places k = Unit {0}
TellsFrom text (both forms) places k = BothTell (concordance text (both forms)) (operands text forms) (starts_at forms places) k
TellsFrom text (one forms) places k = AllAnswerFrom (operands text forms) (starts_at forms places) k
TellsFrom text (seq forms) places k = AllAnswerInOrder (operands text forms) (starts_at forms places) k
TellsFrom text (containing a b) places k = AskByStarts text a b places k
TellsFrom text (contained_in a b) places k = AskByEnds text a b places k
TellsFrom text (not_containing a b) places k = AskByStarts text a b places k
TellsFrom text (not_contained_in a b) places k = AskByEnds text a b places k

-- the form is no width: its reader keeps what it found
abbrev pub IsKept : Form → Type 0
IsKept (width n) = ⊥
IsKept _ = Unit {0}

-- the form is a phrase, a chain or a containment: its reader goes on from member to member
abbrev pub IsNode : Form → Type 0
IsNode (term token) = ⊥
IsNode (width n) = ⊥
IsNode _ = Unit {0}

-- a node's reader stands at its first place, and `under` is what holds of the places of its operands
pub record StandsOver (text : Text) (form : Form) (places : List Place) (under : Type 0) : Type 0 where
  pub count : length places ≡ nodes form
  pub size : size_of places ≡ nodes form
  pub front : IsFrontOf (concordance text form) (front_of places)
  pub tells : Tell text form (front_of places) (drop 1 places)
  pub below : under

abbrev mutual
  -- the readers of a node's operands stand in their own lists
  pub StandBelow : Text → Form → List Place → Type 0
  StandBelow text (term token) places = Unit {0}
  StandBelow text (phrase tokens) places = Unit {0}
  StandBelow text (width n) places = Unit {0}
  StandBelow text (both forms) places = AllStand text forms places
  StandBelow text (one forms) places = AllStand text forms places
  StandBelow text (seq forms) places = AllStand text forms places
  StandBelow text (containing a b) places = StandsOver text a (take (nodes a) places) (StandBelow text a (drop 1 (take (nodes a) places))) × StandsOver text b (drop (nodes a) places) (StandBelow text b (drop 1 (drop (nodes a) places)))
  StandBelow text (contained_in a b) places = StandsOver text a (take (nodes a) places) (StandBelow text a (drop 1 (take (nodes a) places))) × StandsOver text b (drop (nodes a) places) (StandBelow text b (drop 1 (drop (nodes a) places)))
  StandBelow text (not_containing a b) places = StandsOver text a (take (nodes a) places) (StandBelow text a (drop 1 (take (nodes a) places))) × StandsOver text b (drop (nodes a) places) (StandBelow text b (drop 1 (drop (nodes a) places)))
  StandBelow text (not_contained_in a b) places = StandsOver text a (take (nodes a) places) (StandBelow text a (drop 1 (take (nodes a) places))) × StandsOver text b (drop (nodes a) places) (StandBelow text b (drop 1 (drop (nodes a) places)))

  pub AllStand : Text → Forms → List Place → Type 0
  AllStand text no_forms places = Unit {0}
  AllStand text (more_forms form forms) places = StandsOver text form (take (nodes form) places) (StandBelow text form (drop 1 (take (nodes form) places))) × AllStand text forms (drop (nodes form) places)

-- the readers of all nodes of the expression stand
abbrev pub Stands : Text → Form → List Place → Type 0
Stands text form places = StandsOver text form places (StandBelow text form (drop 1 places))
