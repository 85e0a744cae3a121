-- Blocks, computed.
use Rattle.std.proofs.Common.{◌≡◌, [], ◌∷◌, refl}
use Rattle.posting_code.specs.Postings.{blocks_of, block_of}
use Rattle.std.specs.List.{range_with_len}

-- 64 members are one block, and one more member makes a second
blocks_of-one : blocks_of (range_with_len 0 64) ≡ 1
blocks_of-one = refl

blocks_of-two : blocks_of (range_with_len 0 65) ≡ 2
blocks_of-two = refl

blocks_of-none : blocks_of [] ≡ 0
blocks_of-none = refl

-- the last block has what is left
block_of-last : block_of (range_with_len 7 66) 1 ≡ 71 ∷ 72 ∷ []
block_of-last = refl
