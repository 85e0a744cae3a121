-- The terms of an index that begin with a prefix are consecutive.
use Rattle.std.specs.Prelude.{◌≡◌, ℕ, ◌+◌, ◌*◌, ◌<◌, ◌≤◌, true, false, ◌&&◌, List, [], ◌∷◌, length, map, filter, Some, slice_get}
use Rattle.std.specs.Ordering.{nat_cmp}
use Rattle.std.specs.Cmp.Lexicographic.{slice_cmp}
use Rattle.std.specs.declared.cmp.Ordering.TheVariants.{Less}
use denote.Ref.{Bor}
use Rattle.std.specs.List.{list_any}
use Rattle.gcl_model.specs.Slots.{SlotRange}
use Rattle.gcl_model.specs.Wide.{begins_with}
use Rattle.index_shard.specs.Tables.{TermEntry}
use Rattle.live_version.specs.Contents.{SlotContent}
use Rattle.live_version.specs.LookUps.{is_alive}

-- what references point to
abbrev pub tokens_in : List (Bor (List ℕ)) → List (List ℕ)
tokens_in words = map (λ (word : Bor (List ℕ)). word.now) words

-- the terms of some entries
abbrev pub names : List TermEntry → List (List ℕ)
names entries = map (λ (entry : TermEntry). entry.term) entries

-- the terms that begin with the prefix and have an address that is not dead
abbrev pub live_in : List SlotRange → List ℕ → List TermEntry → List (List ℕ)
live_in mask prefix entries = names (filter (λ (entry : TermEntry). begins_with prefix entry.term && list_any (is_alive mask) entry.addresses) entries)

-- the tokens before the place come before `low`, and those at or after it do not
pub record IsFirstAbove (tokens : List (List ℕ)) (low : List ℕ) (place : ℕ) : Type 0 where
  pub within : place ≤ length tokens
  pub before : (k : ℕ) (token : List ℕ) → slice_get tokens k ≡ Some token → k < place → slice_cmp nat_cmp token low ≡ Less
  pub behind : (k : ℕ) (token : List ℕ) → slice_get tokens k ≡ Some token → place ≤ k → slice_cmp nat_cmp token low ≡ Less → ⊥

-- the tokens from one place up to another are those that begin with the prefix
pub record IsRun (tokens : List (List ℕ)) (prefix : List ℕ) (start end : ℕ) : Type 0 where
  pub ordered : start ≤ end
  pub within : end ≤ length tokens
  pub before : (k : ℕ) (token : List ℕ) → slice_get tokens k ≡ Some token → k < start → begins_with prefix token ≡ false
  pub inside : (k : ℕ) (token : List ℕ) → slice_get tokens k ≡ Some token → start ≤ k → k < end → begins_with prefix token ≡ true
  pub behind : (k : ℕ) (token : List ℕ) → slice_get tokens k ≡ Some token → end ≤ k → begins_with prefix token ≡ false

-- what the words of a prefix cost, slot by slot: for each term of an index one look-up, and one for each dead range
abbrev pub run_costs : List ℕ → List SlotContent → ℕ
run_costs prefix [] = 0
run_costs prefix (slot ∷ slots) = length (filter (begins_with prefix) (names slot.shard.table)) * (1 + length slot.mask) + run_costs prefix slots
