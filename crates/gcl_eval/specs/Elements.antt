-- Elements on the way to an address.
use Rattle.std.specs.Prelude.{◌≡◌, ℕ, ◌+◌, ◌-◌, ◌<◌, ◌≤◌, List, Some}
use Rattle.gcl_model.specs.Extents.{Extent}
use Rattle.gcl_model.specs.Texts.{Word, next_place, previous_place}
use Rattle.gcl_model.specs.Access.{first_end}
use Rattle.gcl_model.specs.Forms.{Form}
use Rattle.gcl_eval.specs.Operands.{element_form}

-- the form is "followed by" of two terms
pub record IsElement (form : Form) : Type 0 where
  pub first : List ℕ
  pub second : List ℕ
  pub is : form ≡ element_form first second

-- a member on the way to the first one that ends at k or later, which it is itself if it ends there, and otherwise it starts at `from` or
-- later: of (2, 4) and (7, 9) it may be (2, 4) on the way to 5, and is (7, 9) if it starts at 3 or later
pub record IsOnTheWay (list : List Extent) (from k : ℕ) (a : Extent) : Type 0 where
  pub place : ℕ
  pub member : Some a ≡ first_end list place
  pub later : a.end < k → from ≤ a.start
  pub reached : k ≤ a.end → Some a ≡ first_end list k

-- an interval from the last `first` before the next `second` at or after k, up to the next `second` after that `first`, that starts at
-- `from` or later
pub record LeadsTo (words : List Word) (first second : List ℕ) (from k : ℕ) (a : Extent) : Type 0 where
  pub at : ℕ
  pub found : Some at ≡ next_place words second k
  pub behind : 0 < at
  pub back : Some a.start ≡ previous_place words first (at - 1)
  pub on : Some a.end ≡ next_place words second (a.start + 1)
  pub later : from ≤ a.start
