-- The terms of a version's slots, in byte order.
use Rattle.std.specs.Prelude.{◌≡◌, ℕ, Bool, true, List, filter, flat_map, map, bytes_eq, Option, None, Some, ◌⊎◌}
use Rattle.std.specs.List.{AllByRecursion, list_any}
use Rattle.std.specs.Ordering.{nat_cmp}
use Rattle.std.specs.Cmp.Lexicographic.{slice_cmp}
use Rattle.index_shard.specs.Tables.{TermEntry, ComesBefore, comes_from}
use Rattle.live_version.specs.Contents.{SlotContent}

-- the terms of all slots' indexes, slot by slot, also those of which no posting is alive
abbrev pub terms_of : List SlotContent → List (List ℕ)
terms_of slots = flat_map (λ slot. map (λ (entry : TermEntry). entry.term) slot.shard.table) slots

-- the terms that are at least low, or above it if strict: of be, not and or, with "not" as low, not and or, and if strict or alone
abbrev pub terms_from : List (List ℕ) → List ℕ → Bool → List (List ℕ)
terms_from terms low strict = filter (λ term. comes_from strict (slice_cmp nat_cmp term low)) terms

-- whether the term is one of these
abbrev pub has_term : List (List ℕ) → List ℕ → Bool
has_term terms term = list_any (λ other. bytes_eq other term) terms

-- the first term is the second one, or comes before it, or there is no second
abbrev pub IsNoLater : Option (List ℕ) → Option (List ℕ) → Type 0
IsNoLater first None = Unit {0}
IsNoLater None (Some second) = ⊥
IsNoLater (Some first) (Some second) = (first ≡ second) ⊎ ComesBefore first second

-- the term is one of these, and none of them comes before it
pub record IsLeastTerm (terms : List (List ℕ)) (term : List ℕ) : Type 0 where
  pub member : has_term terms term ≡ true
  pub least : AllByRecursion (λ other. IsNoLater (Some term) (Some other)) terms
