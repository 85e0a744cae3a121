-- Where the spelling of a number that ends at a place begins, for this crate alone.
use Rattle.std.specs.Prelude.{ℕ, ◌+◌, ◌-◌, ◌<◌, ◌≤◌, List, get_or}

-- all bytes from the one place to the other except the last have the top bit, and the byte before them, if it is not before `from`, has not
pub record IsStep (packed : List ℕ) (from at end : ℕ) : Type 0 where
  pub begins : from ≤ at
  pub some : at < end
  pub tops : (i : ℕ) → at ≤ i → i + 1 < end → 128 ≤ get_or packed i 0
  pub border : from < at → get_or packed (at - 1) 0 < 128
