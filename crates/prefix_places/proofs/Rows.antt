-- The addresses of a row of entries, entry by entry, and the places of slots, slot by slot.
use Rattle.std.proofs.Common.{◌≡◌, ℕ, zero, suc, ◌+◌, ◌*◌, ◌^◌, ◌<◌, ◌≤◌, true, false, List, [], ◌∷◌, ◌++◌, length, filter, take, get_or, slice_get, Some, inl, inr, refl, sym, ap, ◌∙◌, subst, arith}
use Rattle.std.proofs.lemmas.Bool.{cases_Bool}
use Rattle.std.proofs.lemmas.List.{append-nil, append_assoc, nil_from_length}
use Rattle.std.proofs.Math.Seq.{take-add}
use Rattle.gcl_model.specs.Slots.{SlotRange}
use Rattle.gcl_model.specs.Wide.{begins_with, is_prefix_term, prefix_of}
use Rattle.gcl_model.proofs.Lists.{filter_all}
use Rattle.posting_code.specs.Postings.{ArePostings, block_of}
use Rattle.posting_code.proofs.Rising.{rise_wider}
use Rattle.index_shard.specs.Tables.{ShardContent, TermEntry, addresses_at, words_of}
use Rattle.live_version.specs.Contents.{IsVersion, SlotContent, VersionContent, live_of, live_words}
use Rattle.live_version.specs.LookUps.{is_alive}
use Rattle.prefix_terms.specs.Runs.{names}
use Rattle.live_version.proofs.WordLemmas.{version_is_text}
use Rattle.prefix_places.specs.Places.{wide_places}
use Rattle.prefix_places.specs.Runs.{prefix_places, run_addresses}
use Rattle.prefix_places.proofs.RunWords.{prefix_places-append, prefix_places-filter, prefix_rising, wide_by_prefix}

-- one block more of a list
pub put_more : (list members out put more : List ℕ) (block : ℕ) → members ≡ block_of list block → put ≡ out ++ take (64 * block) list → more ≡ put ++ members → more ≡ out ++ take (64 * (block + 1)) list
put_more list members out put more block read was is =
    let next : 64 * block + 64 ≡ 64 * (block + 1) = omega arith in
    is
    ∙ ap (λ l. l ++ members) was
    ∙ append_assoc out (take (64 * block) list) members
    ∙ ap (λ l. out ++ (take (64 * block) list ++ l)) read
    ∙ ap (λ l. out ++ l) (sym (take-add (64 * block) 64 list))
    ∙ ap (λ n. out ++ take n list) next

-- entries none of which begins with the prefix have no addresses
run_none : (prefix : List ℕ) (es : List TermEntry) → ((k : ℕ) (t : List ℕ) → slice_get (names es) k ≡ Some t → begins_with prefix t ≡ false) → run_addresses prefix es ≡ []
run_none prefix [] none = refl
run_none prefix (e ∷ es) none = rw (none 0 e.term refl) (run_none prefix es (λ k t is. none (suc k) t is))

pub run_before : (prefix : List ℕ) (es : List TermEntry) (n : ℕ) → ((k : ℕ) (t : List ℕ) → slice_get (names es) k ≡ Some t → k < n → begins_with prefix t ≡ false) → run_addresses prefix (take n es) ≡ []
run_before prefix es zero none = refl
run_before prefix [] (suc n) none = refl
run_before prefix (e ∷ es) (suc n) none = rw (none 0 e.term refl (omega arith)) (run_before prefix es n (λ k t is lt. none (suc k) t is (omega arith)))

pub run_upto : (prefix : List ℕ) (es : List TermEntry) (n : ℕ) → ((k : ℕ) (t : List ℕ) → slice_get (names es) k ≡ Some t → n ≤ k → begins_with prefix t ≡ false) → run_addresses prefix (take n es) ≡ run_addresses prefix es
run_upto prefix es zero none = sym (run_none prefix es (λ k t is. none k t is (omega arith)))
run_upto prefix [] (suc n) none = refl
run_upto prefix (e ∷ es) (suc n) none =
    let rest = run_upto prefix es n (λ k t is le. none (suc k) t is (omega arith)) in
    elim (cases_Bool (begins_with prefix e.term)) [ inl h ↦ rw h (ap (λ l. e.addresses ++ l) rest) | inr h ↦ rw h rest ]

-- the name at a place
pub name_at : (tokens : List (List ℕ)) (n : ℕ) → n < length tokens → (t : List ℕ) × (slice_get tokens n ≡ Some t)
name_at [] n lt = absurd (omega arith)
name_at (t ∷ ts) zero lt = (t, refl)
name_at (t ∷ ts) (suc n) lt = name_at ts n (omega arith)

-- one entry more, which begins with it
pub run_more : (prefix : List ℕ) (es : List TermEntry) (n : ℕ) (t : List ℕ) → slice_get (names es) n ≡ Some t → begins_with prefix t ≡ true → run_addresses prefix (take (n + 1) es) ≡ run_addresses prefix (take n es) ++ addresses_at es n
run_more prefix [] n t at begins = absurd cc
run_more prefix (e ∷ es) zero t at begins =
    let same : e.term ≡ t = cc in
    let here : begins_with prefix e.term ≡ true = ap (begins_with prefix) same ∙ begins in
    rw here (append-nil e.addresses)
run_more prefix (e ∷ es) (suc n) t at begins =
    let next : suc n + 1 ≡ suc (n + 1) = omega arith in
    let rest = run_more prefix es n t at begins in
    elim (cases_Bool (begins_with prefix e.term)) [
      | inl h ↦ rw (next, h) (ap (λ l. e.addresses ++ l) rest ∙ sym (append_assoc e.addresses (run_addresses prefix (take n es)) (addresses_at es n)))
      | inr h ↦ rw (next, h) rest
    ]

-- the live places of a slot, by the index and the dead ranges that its calls give
pub put_slot : (slot : SlotContent) (shard : ShardContent) (mask : List SlotRange) (prefix all old new : List ℕ) → shard ≡ slot.shard → mask ≡ slot.mask → all ≡ prefix_places (words_of shard) prefix →
    new ≡ old ++ filter (is_alive mask) all → new ≡ old ++ prefix_places (live_words slot) prefix
put_slot slot shard mask prefix all old new shard_is mask_is all_is put =
    put
    ∙ ap (λ m. old ++ filter (is_alive m) all) mask_is
    ∙ ap (λ l. old ++ filter (is_alive slot.mask) l) (all_is ∙ ap (λ (s : ShardContent). prefix_places (words_of s) prefix) shard_is)
    ∙ ap (λ l. old ++ l) (sym (prefix_places-filter (is_alive slot.mask) (words_of slot.shard) prefix))

live_of_more : (slots : List SlotContent) (i : ℕ) (slot : SlotContent) → i < length slots → slot ≡ get_or slots i slot → live_of (take (i + 1) slots) ≡ live_of (take i slots) ++ live_words slot
live_of_more [] i slot lt at = absurd (omega arith)
live_of_more (s ∷ ss) zero slot lt at = append-nil (live_words s) ∙ ap live_words (sym at)
live_of_more (s ∷ ss) (suc i) slot lt at =
    let more : suc i + 1 ≡ suc (i + 1) = omega arith in
    ap (λ n. live_of (take n (s ∷ ss))) more ∙ ap (λ l. live_words s ++ l) (live_of_more ss i slot (omega arith) at) ∙ sym (append_assoc (live_words s) (live_of (take i ss)) (live_words slot))

-- one slot more
pub slots_more : (slots : List SlotContent) (i : ℕ) (slot : SlotContent) (prefix old new : List ℕ) → i < length slots → slot ≡ get_or slots i slot → old ≡ prefix_places (live_of (take i slots)) prefix →
    new ≡ old ++ prefix_places (live_words slot) prefix → new ≡ prefix_places (live_of (take (i + 1) slots)) prefix
slots_more slots i slot prefix old new lt at was put =
    put
    ∙ ap (λ l. l ++ prefix_places (live_words slot) prefix) was
    ∙ sym (prefix_places-append (live_of (take i slots)) (live_words slot) prefix)
    ∙ ap (λ words. prefix_places words prefix) (sym (live_of_more slots i slot lt at))

-- if no range is dead, no place is
pub whole_alive : (mask : List SlotRange) (places old new : List ℕ) → length mask ≡ 0 → new ≡ old ++ places → new ≡ old ++ filter (is_alive mask) places
whole_alive mask places old new none put =
    let empty : mask ≡ [] = nil_from_length mask none in
    put ∙ ap (λ l. old ++ l) (sym (filter_all places)) ∙ ap (λ m. old ++ filter (is_alive m) places) (sym empty)

-- the places of a version are addresses
pub version_rising : (v : VersionContent) (slots : List SlotContent) (prefix places : List ℕ) → IsVersion v → slots ≡ v.slots → places ≡ prefix_places (live_of slots) prefix → ArePostings places
version_rising v slots prefix places is slots_are gathered =
    let end = is.in_range in
    subst ArePostings (sym (gathered ∙ ap (λ (ss : List SlotContent). prefix_places (live_of ss) prefix) slots_are))
    (rise_wider v.first 0 v.next (2 ^ 56) (prefix_places (live_of v.slots) prefix) (prefix_rising v.next v.first (live_of v.slots) prefix (version_is_text v is).rising) (omega arith) (omega (arith, end)))

-- gathered by the prefix, they are those of the prefix term
pub version_places : (v : VersionContent) (slots : List SlotContent) (token prefix places : List ℕ) → is_prefix_term token ≡ true → slots ≡ v.slots → prefix ≡ prefix_of token → places ≡ prefix_places (live_of slots) prefix →
    places ≡ wide_places (live_of v.slots) token
version_places v slots token prefix places is slots_are prefix_is gathered =
    gathered
    ∙ ap (λ (ss : List SlotContent). prefix_places (live_of ss) prefix) slots_are
    ∙ ap (prefix_places (live_of v.slots)) prefix_is
    ∙ wide_by_prefix (live_of v.slots) token is
