-- Worked examples.
use Rattle.std.proofs.Common.{◌≡◌, ℕ, List, [], ◌∷◌, refl}
use Rattle.std.specs.Prelude.{codes}
use Rattle.gcl_model.specs.Collections.{empty_from}
use Rattle.gcl_model.specs.Slots.{slot_range}
use Rattle.live_version.specs.Changes.{empty_version}
use Rattle.collection.specs.Engines.{last_of}
use Rattle.collection.specs.Calls.{Call, adding, deleting, merging, collection_after_all, ranges_after_all}

-- the version of an engine that published nothing but its opening
last_of-opening : last_of (empty_version 5 ∷ []) ≡ empty_version 5
last_of-opening = refl

abbrev to_be : List (List ℕ)
to_be = codes "to" ∷ codes "be" ∷ []

-- a file of two words and one without words are one slot, which the deletion of the first one leaves, and the merge
abbrev calls : List Call
calls = adding (codes "a") to_be ∷ adding (codes "b") [] ∷ deleting 0 ∷ merging ∷ []

-- one file is left, where it was
files-left : (collection_after_all calls (empty_from 5)).files ≡ record { id = 1; name = codes "b"; base = 9; tokens = [] } ∷ []
files-left = refl

ranges-left : ranges_after_all calls (empty_from 5) [] ≡ slot_range 5 10 ∷ []
ranges-left = refl

-- of six files without words the first five are one slot
abbrev six : List Call
six = adding (codes "b") [] ∷ adding (codes "b") [] ∷ adding (codes "b") [] ∷ adding (codes "b") [] ∷ adding (codes "b") [] ∷ adding (codes "b") [] ∷ []

ranges-six : ranges_after_all six (empty_from 0) [] ≡ slot_range 0 9 ∷ slot_range 10 11 ∷ []
ranges-six = refl
