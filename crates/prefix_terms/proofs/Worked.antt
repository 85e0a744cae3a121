-- Worked examples of the cost of a prefix, computed.
use Rattle.std.specs.Prelude.{◌≡◌, ℕ, List, [], ◌∷◌, refl, codes}
use Rattle.gcl_model.specs.Slots.{slot_range}
use Rattle.index_shard.specs.Tables.{TermEntry, ShardContent}
use Rattle.live_version.specs.Contents.{SlotContent, version_content, slot_content}
use Rattle.prefix_terms.specs.Costs.{terms_with_prefix, prefix_cost}

abbrev entry : List ℕ → List ℕ → TermEntry
entry term addresses = record { term = term; addresses = addresses }

abbrev shard : ℕ → ℕ → List TermEntry → ShardContent
shard first last table = record { range = slot_range first last; table = table }

-- `be or` at 1 and 2, and `be bees` at 5 and 6, where 5 is dead
abbrev slots : List SlotContent
slots =
    slot_content (slot_range 0 3) (shard 0 3 (entry (codes "be") (1 ∷ []) ∷ entry (codes "or") (2 ∷ []) ∷ [])) [] []
    ∷ slot_content (slot_range 4 7) (shard 4 7 (entry (codes "be") (5 ∷ []) ∷ entry (codes "bees") (6 ∷ []) ∷ [])) (slot_range 5 5 ∷ []) []
    ∷ []

pub a_term_of_two_slots_is_one : terms_with_prefix slots (codes "be") ≡ codes "be" ∷ codes "bees" ∷ []
a_term_of_two_slots_is_one = refl

-- two terms, of at most 32 slots, after one deletion
pub its_cost : prefix_cost (version_content 3 3 0 8 3 1 slots) (codes "be") ≡ 66
its_cost = refl
