-- Places between two members, for this crate alone.
use Rattle.std.specs.Prelude.{ℕ, ◌+◌, List}
use Rattle.posting_code.specs.Packed.{StandsAt}
use Rattle.posting_code.specs.declared.unpack.Cut.{Cut}

-- the members before and after the place are where the cut says
pub record IsCut (list packed : List ℕ) (cut : Cut) : Type 0 where
  pub before : StandsAt list packed cut.steps cut.before
  pub behind : StandsAt list packed (cut.steps + 1) cut.behind
