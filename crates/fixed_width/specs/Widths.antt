-- The intervals of one width in a text.
use Rattle.std.specs.Prelude.{◌≡◌, ℕ, List}
use Rattle.gcl_model.specs.Extents.{Extent}
use Rattle.gcl_model.specs.Texts.{Text}
use Rattle.gcl_model.specs.Forms.{width}
use Rattle.gcl_model.specs.Meaning.{concordance}

-- the intervals of n addresses, in rising start: of four in the addresses 2 to 7 they are (2, 5), (3, 6) and (4, 7)
abbrev pub width_list : Text → ℕ → List Extent
width_list text n = concordance text (width n)

-- the text has the addresses from first up to next - 1: the span from 2 up to 8 is that of the addresses 2 to 7
pub record HasSpan (text : Text) (first next : ℕ) : Type 0 where
  pub first_is : text.first ≡ first
  pub next_is : text.next ≡ next
