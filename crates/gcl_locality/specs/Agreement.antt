-- Addresses at which two texts have the same words.
use Rattle.std.specs.Prelude.{◌≡◌, ◌⊎◌, ℕ, ◌<◌, ◌≤◌, Bool, ◌&&◌, nat_le, nat_lt, List}
use Rattle.gcl_model.specs.Texts.{Text, holds}

-- p is an address of the text
abbrev pub has_address : Text → ℕ → Bool
has_address text p = nat_le text.first p && nat_lt p text.next

-- the texts are the same at p: it is an address of both or of neither, and each token is there in both or in neither
pub record AgreeAt (old new : Text) (p : ℕ) : Type 0 where
  pub address : has_address old p ≡ has_address new p
  pub words : (token : List ℕ) → holds old.words token p ≡ holds new.words token p

-- they are the same from `low` to `high`
abbrev pub AgreeWithin : Text → Text → ℕ → ℕ → Type 0
AgreeWithin old new low high = (p : ℕ) → low ≤ p → p ≤ high → AgreeAt old new p

-- they are the same at all addresses except `from` to `upto`, as before and after a file with these addresses is added, or deleted
abbrev pub AgreeOutside : Text → Text → ℕ → ℕ → Type 0
AgreeOutside old new from upto = (p : ℕ) → (p < from) ⊎ (upto < p) → AgreeAt old new p
