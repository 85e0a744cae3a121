-- The words of slots that are merged into one.
use Rattle.std.specs.Prelude.{◌≡◌, ℕ, ◌+◌, List}
use Rattle.gcl_model.specs.Slots.{SlotRange}
use Rattle.gcl_model.specs.Texts.{Word, places, AreRisingBelow}
use Rattle.slot_terms.specs.Parts.{PartContent, postings_left}

-- words at rising addresses of a range, whose places are what is still to come of each term
pub record AreWordsOf (range : SlotRange) (parts : List PartContent) (words : List Word) : Type 0 where
  pub rising : AreRisingBelow (range.last + 1) range.first words
  pub places : (term : List ℕ) → postings_left parts term ≡ places words term
