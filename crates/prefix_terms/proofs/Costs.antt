-- What the words of a prefix cost in all slots.
use Rattle.std.proofs.Common.{◌≡◌, ℕ, zero, suc, ◌+◌, ◌*◌, ◌<◌, ◌≤◌, filter, List, [], ◌∷◌, ◌++◌, length, take, get_or, sym, ap, ◌∙◌, arith}
use Rattle.std.specs.List.{AllByRecursion}
use Rattle.std.proofs.Math.Nat.{mul-le-mul_left}
use Rattle.gcl_model.specs.Wide.{begins_with}
use Rattle.std.proofs.lemmas.List.{append-nil, append_assoc}
use Rattle.live_version.specs.Contents.{SlotContent, VersionContent, IsSlot, IsVersion, live_of, live_words}
use Rattle.live_version.specs.LookUps.{look_ups}
use Rattle.live_version.specs.Terms.{terms_of}
use Rattle.live_version.proofs.WordLemmas.{look_ups-cons, look_ups_most}
use Rattle.wide_terms.specs.Vocabulary.{in_byte_order}
use Rattle.wide_terms.proofs.Tokens.{Has, filter_has, has_filter, has_left, has_right, rising_filter, rising_shorter}
use Rattle.wide_terms.proofs.Vocabularies.{order_rises, order_has}
use Rattle.prefix_terms.specs.Costs.{terms_with_prefix, prefix_cost}
use Rattle.prefix_terms.specs.Runs.{names, run_costs}
use Rattle.prefix_terms.proofs.InRows.{table_rises}

times_more : (n d m : ℕ) → n ≤ d → n * m ≤ d * m
times_more n d m le = grind (arith, mul-le-mul_left)

costs_within : (prefix : List ℕ) (d : ℕ) (slots : List SlotContent) → AllByRecursion (λ slot. length (filter (begins_with prefix) (names slot.shard.table)) ≤ d) slots → run_costs prefix slots ≤ d * look_ups slots
costs_within prefix d [] all = omega arith
costs_within prefix d (slot ∷ slots) all =
    let here = times_more (length (filter (begins_with prefix) (names slot.shard.table))) d (1 + length slot.mask) all.0 in
    let rest = costs_within prefix d slots all.1 in
    let parts : d * look_ups (slot ∷ slots) ≡ d * (1 + length slot.mask) + d * look_ups slots = ap (λ n. d * n) (look_ups-cons slot slots) ∙ omega arith in
    omega (arith, here, rest, parts)

each_within : (prefix : List ℕ) (all : List (List ℕ)) (slots : List SlotContent) → AllByRecursion IsSlot slots → ((t : List ℕ) → Has (terms_of slots) t → Has all t) →
    AllByRecursion (λ slot. length (filter (begins_with prefix) (names slot.shard.table)) ≤ length (filter (begins_with prefix) (in_byte_order all))) slots
each_within prefix all [] are wider = tt
each_within prefix all (slot ∷ slots) are wider = (
  rising_shorter (filter (begins_with prefix) (names slot.shard.table)) (filter (begins_with prefix) (in_byte_order all))
      (rising_filter (begins_with prefix) (names slot.shard.table) (table_rises slot.shard.range slot.shard.table are.0.shard.table))
      (rising_filter (begins_with prefix) (in_byte_order all) (order_rises all))
      (λ t m.
      let r = has_filter (begins_with prefix) (names slot.shard.table) t m in
      filter_has (begins_with prefix) (in_byte_order all) t (order_has all t (wider t (has_left (names slot.shard.table) (terms_of slots) t r.0))) r.1),
  each_within prefix all slots are.1 (λ t m. wider t (has_right (names slot.shard.table) (terms_of slots) t m)),
)

-- all slots together make no more look-ups than an access for each different term
pub version_within : (v : VersionContent) (prefix : List ℕ) → IsVersion v → run_costs prefix v.slots ≤ prefix_cost v prefix
version_within v prefix is =
    let d = length (terms_with_prefix v.slots prefix) in
    let within = costs_within prefix d v.slots (each_within prefix (terms_of v.slots) v.slots is.slots (λ t m. m)) in
    let most = mul-le-mul_left d (look_ups_most v is) in
    omega (arith, within, most)

-- one slot more
pub costs_more : (prefix : List ℕ) (slots : List SlotContent) (i : ℕ) (slot : SlotContent) → i < length slots → slot ≡ get_or slots i slot →
    run_costs prefix (take (i + 1) slots) ≡ run_costs prefix (take i slots) + length (filter (begins_with prefix) (names slot.shard.table)) * (1 + length slot.mask)
costs_more prefix [] i slot lt at = absurd (omega arith)
costs_more prefix (s ∷ ss) zero slot lt at = ap (λ (x : SlotContent). length (filter (begins_with prefix) (names x.shard.table)) * (1 + length x.mask) + 0) (sym at) ∙ omega arith
costs_more prefix (s ∷ ss) (suc i) slot lt at =
    let more : suc i + 1 ≡ suc (i + 1) = omega arith in
    let rest = costs_more prefix ss i slot (omega arith) at in
    rw more (omega (arith, rest))

pub costs_upto : (prefix : List ℕ) (slots : List SlotContent) (i : ℕ) → run_costs prefix (take i slots) ≤ run_costs prefix slots
costs_upto prefix slots zero = omega arith
costs_upto prefix [] (suc i) = omega arith
costs_upto prefix (slot ∷ slots) (suc i) = let rest = costs_upto prefix slots i in omega (arith, rest)

-- and its words
pub live_of_more : (slots : List SlotContent) (i : ℕ) (slot : SlotContent) → i < length slots → slot ≡ get_or slots i slot → live_of (take (i + 1) slots) ≡ live_of (take i slots) ++ live_words slot
live_of_more [] i slot lt at = absurd (omega arith)
live_of_more (s ∷ ss) zero slot lt at = append-nil (live_words s) ∙ ap live_words (sym at)
live_of_more (s ∷ ss) (suc i) slot lt at =
    let more : suc i + 1 ≡ suc (i + 1) = omega arith in
    ap (λ n. live_of (take n (s ∷ ss))) more ∙ ap (λ l. live_words s ++ l) (live_of_more ss i slot (omega arith) at) ∙ sym (append_assoc (live_words s) (live_of (take i ss)) (live_words slot))
