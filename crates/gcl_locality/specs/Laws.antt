-- Locality: what an expression denotes changes only near the words that change.
use Rattle.std.specs.Prelude.{◌≡◌, ℕ, ◌≤◌, true, false, List}
use Rattle.gcl_model.specs.Extents.{Extent, extent, contains_extent}
use Rattle.gcl_model.specs.Texts.{Text}
use Rattle.gcl_model.specs.Forms.{Form}
use Rattle.gcl_model.specs.Wide.{wide}
use Rattle.gcl_locality.specs.Agreement.{AgreeWithin, AgreeOutside}
use Rattle.gcl_locality.specs.Changed.{changed_from, changed_upto, differs, touches, looks_around}

-- each interval that is in one list and not in the other touches the addresses from `low` to `high`
abbrev pub DifferBetween : List Extent → List Extent → ℕ → ℕ → Type 0
DifferBetween old new low high = (c : Extent) → differs old new c ≡ true → touches low high c ≡ true

-- over two texts that are the same outside a range of addresses, the lists of an expression differ between its two addresses alone
abbrev pub ChangesAreLocal : Type 0
ChangesAreLocal = (old new : Text) (from upto : ℕ) (form : Form) → AgreeOutside old new from upto →
    DifferBetween (wide old form) (wide new form) (changed_from old new from form) (changed_upto old new upto form)

-- an expression that does not ask what its members lie in: whether (p, q) is one of them depends on the text from p to q alone
abbrev pub MembersAreLocal : Type 0
MembersAreLocal = (old new : Text) (form : Form) (p q : ℕ) → looks_around form ≡ false → AgreeWithin old new p q →
    contains_extent (wide old form) (extent p q) ≡ contains_extent (wide new form) (extent p q)

-- the same members of both lists contain the interval from p to q
abbrev pub SameAround : List Extent → List Extent → ℕ → ℕ → Type 0
SameAround old new p q = (b : Extent) → b.start ≤ p → q ≤ b.end → contains_extent old b ≡ contains_extent new b

-- for `A < B` and `A /< B` it depends also on the members of `B` that contain (p, q)
abbrev pub ContainedAreLocalAround : (Form → Form → Form) → Type 0
ContainedAreLocalAround operator = (old new : Text) (a b : Form) (p q : ℕ) → looks_around a ≡ false → AgreeWithin old new p q →
    SameAround (wide old b) (wide new b) p q →
    contains_extent (wide old (operator a b)) (extent p q) ≡ contains_extent (wide new (operator a b)) (extent p q)
