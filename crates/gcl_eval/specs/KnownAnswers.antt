-- Answers that are known, and where they hold.
use Rattle.std.specs.Prelude.{◌≡◌, ◌-◌, ◌<◌, ℕ, nat_le, nat_lt, Bool, true, false, ◌&&◌, ◌==◌, List, [], get_or, Option, None, Some, IfSome, if◌then◌else◌}
use Rattle.gcl_model.specs.Limits.{address_end}
use Rattle.gcl_model.specs.Extents.{Extent}
use Rattle.gcl_model.specs.Texts.{Text}
use Rattle.gcl_model.specs.Forms.{Form, phrase, one, containing, contained_in, not_containing, not_contained_in}
use Rattle.gcl_model.specs.Meaning.{concordance, operands}
use Rattle.phrase_walk.specs.Starts.{is_one_word}
use Rattle.gcl_eval.specs.Containments.{asks}
use Rattle.gcl_eval.specs.Directions.{access_of}
use Rattle.gcl_model.specs.declared.containment.Containment.TheVariants.{Containing, ContainedIn, NotContaining, NotContainedIn}
use Rattle.gcl_model.specs.declared.direction.Direction.{Direction}
use Rattle.gcl_model.specs.declared.direction.Direction.TheVariants.{Forward}
use Rattle.gcl_eval.specs.declared.direction.Access.{Access}
use Rattle.gcl_eval.specs.declared.direction.Access.TheVariants.{FirstStart, FirstEnd, LastEnd, LastStart}
use Rattle.gcl_eval.specs.declared.known.Known.{Known}

-- from the one position the access goes on to the other: `FirstStart` from 2 to 4
abbrev pub goes_on : Access → (at k : ℕ) → Bool
goes_on FirstStart at k = nat_le at k
goes_on FirstEnd at k = nat_le at k
goes_on LastEnd at k = nat_le k at
goes_on LastStart at k = nat_le k at

-- the member is one that the access at k may find: (5, 6) is one for `FirstStart` at 4, and none at 6
abbrev pub lies_beyond : Access → ℕ → Extent → Bool
lies_beyond FirstStart k a = nat_le k a.start
lies_beyond FirstEnd k a = nat_le k a.end
lies_beyond LastEnd k a = nat_le a.end k
lies_beyond LastStart k a = nat_le a.start k

-- the access at k does not pass the member that it found before: `FirstStart` at 4 does not pass (5, 6), and at 6 it does
abbrev pub stays : Access → Option Extent → ℕ → Bool
stays access None k = true
stays access (Some a) k = lies_beyond access k a

-- the known answer, if it is also the one at k: for (5, 6), which `FirstStart` found at 2, it is (5, 6) at 4, and none at 6
abbrev pub told : Access → Option Known → ℕ → Option (Option Extent)
told access None k = None
told access (Some known) k = if goes_on access known.at k && stays access known.answer k then Some known.answer else None

-- the known answer was asked for further back than the place right before k: if asked for at 2, it was for 6, and not for 3
abbrev pub was_leap : Option Known → ℕ → Bool
was_leap None k = false
was_leap (Some known) k = nat_lt known.at (k - 1)

-- there is a member, and it starts right before k: (5, 6) does before 6
abbrev pub starts_before : Option Extent → ℕ → Bool
starts_before None k = false
starts_before (Some a) k = nat_lt a.start k && (k - a.start == 1)

-- the known member, if it starts right before k: (5, 6) at 6
abbrev pub right_before : Option Known → ℕ → Option Extent
right_before None k = None
right_before (Some known) k = if starts_before known.answer k then known.answer else None

-- the access of the list gave this answer where it was asked
pub record IsAnswer (access : Access) (list : List Extent) (known : Known) : Type 0 where
  pub found : known.answer ≡ access_of access list known.at
  pub within : IfSome known.answer (λ a. a.end < address_end)

-- if an answer of the access of the list is known, it is one that the access gave
abbrev pub IsKnown : Access → List Extent → Option Known → Type 0
IsKnown access list known = IfSome known (IsAnswer access list)

-- of each operand of "one of", by its number, what is known is an answer of its first start
abbrev pub AreKnown : List (List Extent) → List (Option Known) → Type 0
AreKnown lists known = (number : ℕ) → IsKnown FirstStart (get_or lists number []) (get_or known number None)

-- what is known of the second operand of a containment is an answer of the access by which its loop asks for it
abbrev pub KnowsSecond : Direction → Text → Form → Option Known → Type 0
KnowsSecond direction text (containing a b) known = IsKnown (asks direction Containing) (concordance text b) known
KnowsSecond direction text (contained_in a b) known = IsKnown (asks direction ContainedIn) (concordance text b) known
KnowsSecond direction text (not_containing a b) known = IsKnown (asks direction NotContaining) (concordance text b) known
KnowsSecond direction text (not_contained_in a b) known = IsKnown (asks direction NotContainedIn) (concordance text b) known
KnowsSecond direction text _ known = Unit {0}

-- what is known of a phrase that repeats one word is an answer of its first start; of no other phrase is anything known
pub record IsRunAnswer (text : Text) (tokens : List (List ℕ)) (known : Known) : Type 0 where
  pub one_word : is_one_word tokens ≡ true
  pub answer : IsAnswer FirstStart (concordance text (phrase tokens)) known

-- the same if something is known
abbrev pub KnowsRun : Text → List (List ℕ) → Option Known → Type 0
KnowsRun text tokens known = IfSome known (IsRunAnswer text tokens)

-- what is known from member to member: of each operand of "one of", of the second operand of a containment, or of a phrase
abbrev pub KnowsOperands : Text → Form → List (Option Known) → Type 0
KnowsOperands text (one forms) known = AreKnown (operands text forms) known
KnowsOperands text (phrase tokens) known = KnowsRun text tokens (get_or known 0 None)
KnowsOperands text form known = KnowsSecond Forward text form (get_or known 0 None)
