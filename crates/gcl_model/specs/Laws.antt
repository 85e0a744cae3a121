-- Laws of the definitions.
use Rattle.std.specs.Prelude.{◌≡◌, ◌↔◌, ℕ, ◌≤◌, ◌<◌, ◌-◌, true, List, [], ◌∷◌, ◌++◌, length, take, drop, Some}
use Rattle.std.specs.List.{AllByRecursion}
use Rattle.gcl_model.specs.Extents.{IsRising}
use Rattle.gcl_model.specs.Texts.{Text, IsText, holds}
use Rattle.gcl_model.specs.Forms.{Form, Forms, no_forms, more_forms}
use Rattle.gcl_model.specs.Meaning.{concordance}
use Rattle.gcl_model.specs.Limits.{address_end, most_tiers}
use Rattle.gcl_model.specs.Tokens.{tokens_of}
use Rattle.gcl_model.specs.Collections.{Collection, File, IsSound, IsToken, CanAdd, empty_from, with_file, without_file, text_of, words_of, word_at}
use Rattle.gcl_model.specs.Steps.{IsStep}
use Rattle.gcl_model.specs.Slots.{SlotRange, slot_width, AreRangesWithin, AreTiered, slots_after_add, slots_after_merge, slots_after_open, ranges_spanned, tail_count}

-- both ends rise from member to member; so no member is nested in another
abbrev pub ConcordancesRise : Type 0
ConcordancesRise = (text : Text) (form : Form) → IsRising (concordance text form)

-- a chain of many operands is the chain whose first two operands are grouped
abbrev pub GroupsFromLeft : (Forms → Form) → Type 0
GroupsFromLeft chain = (text : Text) (a b : Form) (rest : Forms) →
    concordance text (chain (more_forms (chain (more_forms a (more_forms b no_forms))) rest)) ≡ concordance text (chain (more_forms a (more_forms b rest)))

-- each token of a text is a token by itself: cut again, it gives itself alone
abbrev pub TokensAreTokens : Type 0
TokensAreTokens = (bytes : List ℕ) → AllByRecursion IsToken (tokens_of bytes)

-- the collection that begins at an address is sound
abbrev pub StartIsSound : Type 0
StartIsSound = (first : ℕ) → first ≤ address_end → IsSound (empty_from first)

-- an added file keeps soundness
abbrev pub AddingKeepsSoundness : Type 0
AddingKeepsSoundness = (c : Collection) (name : List ℕ) (tokens : List (List ℕ)) → IsSound c → CanAdd c name tokens → IsSound (with_file c name tokens)

-- so does a deletion, of any id
abbrev pub DeletingKeepsSoundness : Type 0
DeletingKeepsSoundness = (c : Collection) (id : ℕ) → IsSound c → IsSound (without_file c id)

-- each step keeps soundness
abbrev pub StepsKeepSoundness : Type 0
StepsKeepSoundness = (c d : Collection) → IsSound c → IsStep c d → IsSound d

-- the words of a sound collection are at rising addresses, between its first and its next
abbrev pub WordsAreText : Type 0
WordsAreText = (c : Collection) → IsSound c → IsText (text_of c)

-- the words of a sound collection are the tokens at its addresses
abbrev pub WordsAreAtAddresses : Type 0
WordsAreAtAddresses = (c : Collection) (p : ℕ) (token : List ℕ) → IsSound c → (holds (words_of c) token p ≡ true) ↔ (word_at c p ≡ Some token)

-- the slots rise, start at or after low and end before end; each has two addresses or more, and each but the last is more than four times
-- as wide as the next
pub record AreTiers (low end : ℕ) (ranges : List SlotRange) : Type 0 where
  pub apart : AreRangesWithin low end ranges
  pub wide : AllByRecursion (λ range. 2 ≤ slot_width range) ranges
  pub tiered : AreTiered ranges

-- adding a file whose addresses come after all that were given keeps the tiers
abbrev pub AddingKeepsTiers : Type 0
AddingKeepsTiers = (low next end : ℕ) (ranges : List SlotRange) (range : SlotRange) →
    AreTiers low next ranges → low ≤ range.first → next ≤ range.first → range.first ≤ range.last → range.last < end → 2 ≤ slot_width range → AreTiers low end (slots_after_add ranges range)

-- so does a merge of all slots
abbrev pub MergingKeepsTiers : Type 0
MergingKeepsTiers = (low end : ℕ) (ranges : List SlotRange) (files : List File) → AreTiers low end ranges → AreTiers low end (slots_after_merge ranges files)

-- the slots of an opened image are tiers
abbrev pub OpeningMakesTiers : Type 0
OpeningMakesTiers = (c : Collection) → IsSound c → AreTiers c.first c.next (slots_after_open c.files)

-- there are at most 28 of them: from the last slot to the first, the widths are at least 2 and more than 8, 32 and so on
abbrev pub TiersAreFew : Type 0
TiersAreFew = (low end : ℕ) (ranges : List SlotRange) → end ≤ address_end → AreTiers low end ranges → length ranges ≤ most_tiers

-- the slots after an add are the old ones and the file's, of which the last `tail_count` are joined into one
abbrev pub TailsAreJoined : Type 0
TailsAreJoined = (ranges all : List SlotRange) (range : SlotRange) → all ≡ ranges ++ range ∷ [] →
    slots_after_add ranges range ≡ take (length all - tail_count all) all ++ ranges_spanned (drop (length all - tail_count all) all)
