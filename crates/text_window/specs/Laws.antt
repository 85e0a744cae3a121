-- What the text between two addresses has of the whole text.
use Rattle.std.specs.Prelude.{ℕ}
use Rattle.gcl_model.specs.Texts.{Text, IsText}
use Rattle.gcl_locality.specs.Windows.{IsPart}
use Rattle.text_window.specs.Within.{within}

-- it has the same words from `low` to `high`, and no address that the whole text lacks
abbrev pub WindowsAreParts : Type 0
WindowsAreParts = (text : Text) (low high : ℕ) → IsText text → IsPart (within text low high) text low high
