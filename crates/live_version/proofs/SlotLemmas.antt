-- When a range, an index, dead ranges and files are a slot.
use Rattle.std.proofs.Common.{◌≡◌, true, List, [], refl, sym, subst}
use Rattle.std.specs.List.{AllByRecursion}
use Rattle.gcl_model.specs.Slots.{SlotRange}
use Rattle.address_space.specs.Runs.{FileEntry}
use Rattle.index_shard.specs.Tables.{ShardContent, IsShard, words_of}
use Rattle.gcl_model.proofs.Lists.{all_filter}
use Rattle.live_version.specs.Contents.{IsSlot, LiesIn, is_of_files, slot_content}

-- nothing is dead
alive_slot : (range : SlotRange) (shard : ShardContent) (files : List FileEntry) → IsShard shard → shard.range ≡ range → AllByRecursion (LiesIn range) files →
    AllByRecursion (λ w. is_of_files files w.address ≡ true) (words_of shard) → IsSlot (slot_content range shard [] files)
alive_slot range shard files is indexed lie owned = record {
  shard = is;
  indexed = indexed;
  files = lie;
  dead = tt;
  alive = λ p e. refl;
  owned = all_filter (λ w. is_of_files files w.address ≡ true) (λ w. is_of_files files w.address ≡ true) (λ w. true) (words_of shard) (λ w h e. h) owned;
}

pub new_slot : (range : SlotRange) (shard kept : ShardContent) (mask : List SlotRange) (files records : List FileEntry) → IsShard shard → shard.range ≡ range → AllByRecursion (LiesIn range) files →
    AllByRecursion (λ w. is_of_files files w.address ≡ true) (words_of shard) → kept ≡ shard → mask ≡ [] → records ≡ files → IsSlot (slot_content range kept mask records)
new_slot range shard kept mask files records is indexed lie owned e f g =
    subst (λ s. IsSlot (slot_content range s mask records)) (sym e)
    (subst (λ m. IsSlot (slot_content range shard m records)) (sym f)
    (subst (λ r. IsSlot (slot_content range shard [] r)) (sym g) (alive_slot range shard files is indexed lie owned)))
