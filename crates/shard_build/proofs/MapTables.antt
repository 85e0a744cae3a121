-- A map from tokens to lists, seen as a table.
use Rattle.std.proofs.Common.{◌≡◌, ℕ, ◌+◌, ◌≤◌, List, [], ◌∷◌, length, bytes_eq, nat_cmp, inl, inr, refl, sym, ap, ◌∙◌}
use Rattle.std.specs.declared.cmp.Ordering.TheVariants.{Less}
use Rattle.std.specs.List.{AllByRecursion}
use Rattle.std.specs.List.Sorted.{IsStrictlySortedBy}
use Rattle.std.specs.Map.{keys_of, lookup}
use Rattle.std.specs.Cmp.Lexicographic.{slice_cmp}
use Rattle.std.proofs.lemmas.Bool.{cases_Bool}
use Rattle.std.proofs.lemmas.Cmp.{nat_list_eq_equiv}
use Rattle.gcl_model.specs.Slots.{SlotRange, slot_range}
use Rattle.gcl_model.specs.Collections.{words_from}
use Rattle.index_shard.specs.Tables.{ShardContent, ComesBefore, IsTable, words_of}
use Rattle.shard_build.specs.Groups.{group_of, table_of}
use Rattle.shard_build.proofs.Tables.{entry_of, term_cmp, all_groups, groups_are_table, groups_have_words}

-- the entry of a token is what the map has for it
pub entry_of-table_of : (entries : List (List ℕ × List ℕ)) (token : List ℕ) →
    entry_of (table_of entries) token ≡ lookup (λ k. bytes_eq token k) entries
entry_of-table_of [] token = refl
entry_of-table_of (e ∷ es) token =
    let turned : bytes_eq token e.0 ≡ bytes_eq e.0 token = nat_list_eq_equiv.symm token e.0 in
    elim (cases_Bool (bytes_eq e.0 token)) [
      | inl h ↦ let t = turned ∙ h in rw (h, t) refl
      | inr h ↦ let t = turned ∙ h in rw (h, t) (entry_of-table_of es token)
    ]

all_before : (key : List ℕ) (entries : List (List ℕ × List ℕ)) → AllByRecursion (λ (k : List ℕ). slice_cmp nat_cmp key k ≡ Less) (keys_of entries) →
    AllByRecursion (λ d. ComesBefore key d.term) (table_of entries)
all_before key [] all = tt
all_before key (e ∷ es) all = (all.0, all_before key es all.1)

-- the keys' order is the terms'
pub table_rises : (entries : List (List ℕ × List ℕ)) → IsStrictlySortedBy (λ x y. slice_cmp nat_cmp x y) (keys_of entries) → IsStrictlySortedBy term_cmp (table_of entries)
unfolding IsStrictlySortedBy
table_rises [] sorted = tt
table_rises (e ∷ es) sorted = (all_before e.0 es sorted.0, table_rises es sorted.1)

-- a map that has the places of each token is the table of a shard
pub map_is_table : (entries : List (List ℕ × List ℕ)) (tokens : List (List ℕ)) (range : SlotRange) → range.last + 1 ≡ range.first + length tokens →
    IsStrictlySortedBy (λ x y. slice_cmp nat_cmp x y) (keys_of entries) →
    ((token : List ℕ) → lookup (λ k. bytes_eq token k) entries ≡ group_of (words_from range.first tokens) token) → IsTable range (table_of entries)
map_is_table entries tokens range width sorted found =
    let rise = table_rises entries sorted in
    groups_are_table tokens range (table_of entries) width rise
    (all_groups (words_from range.first tokens) (table_of entries) rise (λ token ps is. sym (entry_of-table_of entries token ∙ found token) ∙ is))

-- the words of the shard that a map makes
pub map_has_words : (entries : List (List ℕ × List ℕ)) (tokens : List (List ℕ)) (shard : ShardContent) (first last : ℕ) → last + 1 ≡ first + length tokens → first ≤ last →
    shard ≡ record { range = slot_range first last; table = table_of entries } →
    IsStrictlySortedBy (λ x y. slice_cmp nat_cmp x y) (keys_of entries) →
    ((token : List ℕ) → lookup (λ k. bytes_eq token k) entries ≡ group_of (words_from first tokens) token) → words_of shard ≡ words_from first tokens
map_has_words entries tokens shard first last width ordered is sorted found =
    let made : ShardContent = record { range = slot_range first last; table = table_of entries } in
    ap words_of is ∙ groups_have_words tokens made width ordered (table_rises entries sorted) (λ token. entry_of-table_of entries token ∙ found token)
