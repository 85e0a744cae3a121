-- The containments: their forms, and the loop that answers their accesses in a direction.
use Rattle.std.specs.Prelude.{◌≡◌, ℕ, List, Option, Some}
use Rattle.gcl_model.specs.Extents.{Extent}
use Rattle.gcl_model.specs.Texts.{Text}
use Rattle.gcl_model.specs.Access.{first_start, first_end}
use Rattle.gcl_model.specs.Meaning.{concordance}
use Rattle.gcl_model.specs.Forms.{Form, containing, contained_in, not_containing, not_contained_in}
use Rattle.gcl_contain.specs.Kinds.{Kind, first_from, last_upto}
use Rattle.gcl_contain.specs.Kinds as Kinds
use Rattle.gcl_model.specs.declared.containment.Containment.{Containment}
use Rattle.gcl_model.specs.declared.containment.Containment.TheVariants.{Containing, ContainedIn, NotContaining, NotContainedIn}
use Rattle.gcl_eval.specs.declared.direction.Access.{Access}
use Rattle.gcl_eval.specs.declared.direction.Access.TheVariants.{FirstStart, FirstEnd, LastEnd, LastStart}
use Rattle.gcl_model.specs.declared.direction.Direction.{Direction}
use Rattle.gcl_model.specs.declared.direction.Direction.TheVariants.{Forward, Backward}

-- the form is a containment: "to" > "be" is one, and "to" is none
abbrev pub IsContainment : Form → Type 0
IsContainment (containing a b) = Unit {0}
IsContainment (contained_in a b) = Unit {0}
IsContainment (not_containing a b) = Unit {0}
IsContainment (not_contained_in a b) = Unit {0}
IsContainment _ = ⊥

-- which members the loop keeps, by which end it goes through the first operand, what it asks of the second, and its move:
-- forward that of "containing" goes by the members' ends
abbrev pub loop_of : Direction → Containment → Kind
loop_of Forward Containing = Kinds.containing
loop_of Forward ContainedIn = Kinds.contained_in
loop_of Forward NotContaining = Kinds.not_containing
loop_of Forward NotContainedIn = Kinds.not_contained_in
loop_of Backward Containing = Kinds.containing_back
loop_of Backward ContainedIn = Kinds.contained_in_back
loop_of Backward NotContaining = Kinds.not_containing_back
loop_of Backward NotContainedIn = Kinds.not_contained_in_back

-- the access by which the loop asks the second operand at each member: forward, that of "containing" asks for a first start
abbrev pub asks : Direction → Containment → Access
asks Forward Containing = FirstStart
asks Forward ContainedIn = FirstEnd
asks Forward NotContaining = FirstStart
asks Forward NotContainedIn = FirstEnd
asks Backward Containing = LastEnd
asks Backward ContainedIn = LastStart
asks Backward NotContaining = LastEnd
asks Backward NotContainedIn = LastStart

-- the access of the first operand by which the loop goes on: forward by ends, of (1, 2) and (5, 6) at 2 it gives (1, 2)
abbrev pub goes_by : Direction → Kind → List Extent → ℕ → Option Extent
goes_by Forward = first_from
goes_by Backward = last_upto

-- the loop of "containing" may begin at this member of the first operand: the node's first member that ends at or after its end is the
-- first that starts at or after k; with (11, 11), of (1, 3), (4, 6) and (9, 12) at 2 that is (9, 12), and (4, 6), too
pub record IsBeginning (members node : List Extent) (k : ℕ) (a : Extent) : Type 0 where
  pub found : Some a ≡ first_end members a.end
  pub answer : first_end node a.end ≡ first_start node k

-- the access of this form is "containing" by starts, whose loop may begin at this member
abbrev pub MayBegin : Access → Text → Form → ℕ → Extent → Type 0
MayBegin FirstStart text (containing a b) k member = IsBeginning (concordance text a) (concordance text (containing a b)) k member
MayBegin _ text form k member = ⊥
