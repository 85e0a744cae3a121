-- The least of the first terms of several parts, and where it is, for this crate alone.
use Rattle.std.specs.Prelude.{◌≡◌, ℕ, true, false, List, ◌∷◌, ◌++◌, [], length, Option, None, Some}
use Rattle.std.specs.List.{AllByRecursion}
use Rattle.slot_terms.specs.Firsts.{IsFirst}
use Rattle.slot_terms.specs.Parts.{NoneEarlier, PartContent, is_headed}
use Rattle.slot_terms.specs.declared.least.Least.{Least}

-- the term is the first of no part
abbrev pub NoneHas : List ℕ → List PartContent → Type 0
NoneHas term parts = AllByRecursion (λ part. is_headed part.left term ≡ false) parts

-- no part has a lesser first term, the part at the place has this one, and none before it. None after it has it if `others` is 0
pub record IsLeastAt (parts : List PartContent) (least : Least) : Type 0 where
  pub is : IsFirst least.first
  pub none_earlier : NoneEarlier least.first.term.now parts
  pub before : List PartContent
  pub part : PartContent
  pub behind : List PartContent
  pub parts_are : parts ≡ before ++ part ∷ behind
  pub place_is : least.place ≡ length before
  pub has : is_headed part.left least.first.term.now ≡ true
  pub none_before : NoneHas least.first.term.now before
  pub none_behind : least.others ≡ 0 → NoneHas least.first.term.now behind

-- the same of the least, if any part has a first term
abbrev pub IsLeastOf : List PartContent → Option Least → Type 0
IsLeastOf parts None = AllByRecursion (λ part. part.left ≡ []) parts
IsLeastOf parts (Some least) = IsLeastAt parts least
