-- Where a list's blocks begin, for this crate alone: a list of one block keeps no heads.
use Rattle.std.specs.Prelude.{◌≡◌, ℕ, List, []}
use Rattle.posting_code.specs.declared.head.Head.{Head}
use Rattle.posting_code.specs.declared.blocks.Blocks.{Blocks}
use Rattle.posting_code.specs.declared.blocks.Blocks.TheVariants.{One, Many}

-- the number of members
abbrev pub count_in : Blocks → ℕ
count_in (One count first) = count
count_in (Many many) = many.value.count

-- the first member
abbrev pub first_in : Blocks → ℕ
first_in (One count first) = first
first_in (Many many) = many.value.first

-- the heads of the blocks after the first
abbrev pub heads_in : Blocks → List Head
heads_in (One count first) = []
heads_in (Many many) = many.value.heads.items

-- the blocks have these parts
pub record AreBlocks (blocks : Blocks) (count first : ℕ) (heads : List Head) : Type 0 where
  pub counted : count_in blocks ≡ count
  pub begun : first_in blocks ≡ first
  pub marked : heads_in blocks ≡ heads
