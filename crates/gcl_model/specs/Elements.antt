-- Elements: intervals from one token to another, such as the tags of a line, found by three look-ups.
use Rattle.std.specs.Prelude.{◌≡◌, ℕ, ◌+◌, ◌-◌, ◌<◌, ◌≤◌, List, Some}
use Rattle.gcl_model.specs.Extents.{Extent}
use Rattle.gcl_model.specs.Texts.{Word, next_place, previous_place}

-- an interval that ends at the next `second` after the next `first` at or after k, and starts at the last `first` before that `second`:
-- with `first` at 1, 2 and 7 and `second` at 4 and 9 it is (2, 4) at 1, and (7, 9) at 3
pub record IsElementFrom (words : List Word) (first second : List ℕ) (k : ℕ) (element : Extent) : Type 0 where
  pub at : ℕ
  pub found : Some at ≡ next_place words first k
  pub on : Some element.end ≡ next_place words second (at + 1)
  pub back : Some element.start ≡ previous_place words first (element.end - 1)

-- an interval that starts at the last `first` before the next `second` at or after k, and ends at the next `second` after that `first`, if
-- this is at or after k: in the same words it is (2, 4) at 3 and (7, 9) at 5; with `first` at 1 and `second` at 3 and 6 there is none at 5
pub record IsElementUpTo (words : List Word) (first second : List ℕ) (k : ℕ) (element : Extent) : Type 0 where
  pub at : ℕ
  pub found : Some at ≡ next_place words second k
  pub behind : 0 < at
  pub back : Some element.start ≡ previous_place words first (at - 1)
  pub on : Some element.end ≡ next_place words second (element.start + 1)
  pub reaches : k ≤ element.end
