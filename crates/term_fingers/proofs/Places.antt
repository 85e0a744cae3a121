-- The lists of a term in the slots of a version, by the slots' numbers.
use Rattle.std.proofs.Common.{◌≡◌, ℕ, ◌<◌, List, [], length, take, get_or, Option, None, Some, slice_get, sym, ap, ◌∙◌, arith}
use Rattle.std.specs.Option.{option_map}
use Rattle.std.proofs.lemmas.Option.{slice_get-map, slice_get_within, get_or_from_slice_get}
use Rattle.std.proofs.lemmas.List.{length-take, get_or-take}
use Rattle.gcl_model.specs.declared.direction.Direction.{Direction}
use Rattle.gcl_model.specs.declared.direction.Direction.TheVariants.{Forward, Backward}
use Rattle.index_shard.specs.Searched.{nearest}
use Rattle.index_shard.specs.Tables.{ShardContent, addresses_at, place_of}
use Rattle.live_version.specs.Contents.{SlotContent}
use Rattle.term_fingers.specs.Lists.{shard_at, addresses_in, list_of, places_of}

-- what is read of a slot's index is read of the index
map_shard : (term : List ℕ) (o : Option SlotContent) (shard : ShardContent) → option_map (λ (slot : SlotContent). slot.shard) o ≡ Some shard →
    option_map (λ (slot : SlotContent). place_of slot.shard.table term) o ≡ Some (place_of shard.table term)
map_shard term None shard e = absurd cc
map_shard term (Some slot) shard e = ap (option_map (λ (s : ShardContent). place_of s.table term)) e

place_at : (slots : List SlotContent) (number : ℕ) (term : List ℕ) (shard : ShardContent) → shard_at slots number ≡ Some shard → slice_get (places_of term slots) number ≡ Some (place_of shard.table term)
place_at slots number term shard e = slice_get-map (λ (slot : SlotContent). place_of slot.shard.table term) slots number ∙ map_shard term (slice_get slots number) shard e

-- and it is the term's
pub place_known : (slots : List SlotContent) (number : ℕ) (term : List ℕ) (shard : ShardContent) (places : List (Option ℕ)) (d : Option ℕ) → shard_at slots number ≡ Some shard →
    take (length slots) places ≡ places_of term slots → get_or places number d ≡ place_of shard.table term
place_known slots number term shard places d e found =
    let got = ap (λ ps. slice_get ps number) found ∙ place_at slots number term shard e in
    let within = slice_get_within (take (length slots) places) number (place_of shard.table term) got in
    let lt : number < length slots = omega (arith, within, length-take (length slots) places) in
    sym (get_or-take (length slots) places number d lt) ∙ get_or_from_slice_get (take (length slots) places) number (place_of shard.table term) d got

pub list_known : (slots : List SlotContent) (number place : ℕ) (shard : ShardContent) → shard_at slots number ≡ Some shard → addresses_at shard.table place ≡ list_of slots number place
list_known slots number place shard e = sym (ap (λ o. addresses_in o place) e)

-- an empty list has nothing near
pub nearest_in_none : (direction : Direction) (ps : List ℕ) (k : ℕ) → ps ≡ [] → None ≡ nearest direction ps k
nearest_in_none Forward ps k e = sym (ap (λ xs. nearest Forward xs k) e)
nearest_in_none Backward ps k e = sym (ap (λ xs. nearest Backward xs k) e)
