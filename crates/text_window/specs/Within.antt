-- The part of a text between two addresses.
use Rattle.std.specs.Prelude.{ℕ, ◌+◌, ◌&&◌, cond, nat_le, filter, min, max, Option, None, Some}
use Rattle.gcl_model.specs.Texts.{Text}

-- the text from `low` to `high` alone: of `to be or` at 0 to 2, that from 1 to 1 is `be`. If the text has no address there, it is empty
abbrev pub within : Text → (low high : ℕ) → Text
within text low high = record {
  first = min (max text.first low) text.next;
  next = max (min text.next (high + 1)) (min (max text.first low) text.next);
  words = filter (λ w. nat_le low w.address && nat_le w.address high) text.words;
}

-- the place, if it is no greater than `high`: the place 3 is 3 up to 5, and none up to 2
abbrev pub up_to_high : Option ℕ → ℕ → Option ℕ
up_to_high None high = None
up_to_high (Some p) high = cond (nat_le p high) (Some p) None

-- the place, if it is no less than `low`
abbrev pub from_low : Option ℕ → ℕ → Option ℕ
from_low None low = None
from_low (Some p) low = cond (nat_le low p) (Some p) None
