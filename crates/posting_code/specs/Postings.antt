-- Strictly rising lists of addresses, and their blocks.
use Rattle.std.specs.Prelude.{ℕ, ◌+◌, ◌*◌, ◌/◌, ◌^◌, ◌<◌, ◌≤◌, List, [], ◌∷◌, length, take, drop}

-- the numbers rise strictly, the first is at least low, and all are below end: 2, 5 rise within 2 and 6
abbrev pub RiseWithin : ℕ → ℕ → List ℕ → Type 0
RiseWithin low end [] = Unit {0}
RiseWithin low end (p ∷ ps) = (low ≤ p) × (p < end) × RiseWithin (p + 1) end ps

-- the addresses of one term: below 2^56, strictly rising
abbrev pub ArePostings : List ℕ → Type 0
ArePostings addresses = RiseWithin 0 (2 ^ 56) addresses

-- how many blocks a list has: 1 block for 64 members, 2 for 65
abbrev pub blocks_of : List ℕ → ℕ
blocks_of addresses = (length addresses + 63) / 64

-- the members of block b: those starting at place 64 b, at most 64
abbrev pub block_of : List ℕ → ℕ → List ℕ
block_of addresses b = take 64 (drop (64 * b) addresses)
