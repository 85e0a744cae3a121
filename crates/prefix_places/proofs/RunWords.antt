-- The addresses of the terms that begin with a prefix are the places of the words that do.
use Rattle.std.proofs.Common.{◌≡◌, ◌⊎◌, ℕ, zero, suc, ◌+◌, ◌-◌, ◌^◌, ◌<◌, ◌≤◌, Bool, true, false, cond, List, [], ◌∷◌, ◌++◌, map, filter, flat_map, Option, Some, None, inl, inr, refl, sym, ap, ◌∙◌, subst, arith, zero-add, le_refl}
use Rattle.std.specs.List.{AllByRecursion, range_with_len}
use Rattle.std.specs.List.Sorted.{IsPermutation, IsNonDecreasingBy}
use Rattle.std.specs.Option.{option_to_list, option_map}
use Rattle.std.proofs.lemmas.Bool.{cases_Bool, cases_lt}
use Rattle.std.proofs.lemmas.List.{map-append}
use Rattle.std.proofs.lemmas.List.Elements.{filter-append}
use Rattle.std.proofs.lemmas.List.Sorted.{sum_by-IsPermutation}
use Rattle.gcl_model.specs.Slots.{SlotRange}
use Rattle.gcl_model.specs.Texts.{Word, AreRisingBelow}
use Rattle.gcl_model.specs.Wide.{begins_with, is_prefix_term, prefix_of, stands_for_word}
use Rattle.posting_code.specs.Postings.{RiseWithin, ArePostings}
use Rattle.posting_code.proofs.Rising.{rise_wider}
use Rattle.index_shard.specs.Tables.{TermEntry, ShardContent, IsShard, IsTable, AreApart, Precedes, has_address, term_at, words_of}
use Rattle.index_shard.proofs.ShardWords.{word, words_at, shard_words_rise}
use Rattle.prefix_places.specs.Places.{wide_places}
use Rattle.prefix_places.specs.Runs.{prefix_places, run_addresses}
use Rattle.prefix_places.proofs.Times.{one, one_same, one_other, times, times-cons, times-append, times_rising, times_outside, none_below, rising_up, sorted_up, equal_by_times}

-- whether the term at an address, if any, begins with the prefix
abbrev pub begins_at : List ℕ → Option (List ℕ) → Bool
begins_at prefix None = false
begins_at prefix (Some term) = begins_with prefix term

-- an entry more at the front
times_entry : (prefix : List ℕ) (e : TermEntry) (es : List TermEntry) (q : ℕ) → times q (run_addresses prefix (e ∷ es)) ≡ cond (begins_with prefix e.term) (times q e.addresses) 0 + times q (run_addresses prefix es)
times_entry prefix e es q =
    elim (cases_Bool (begins_with prefix e.term)) [
      | inl h ↦ rw h (times-append q e.addresses (run_addresses prefix es))
      | inr h ↦ rw (h, zero-add (times q (run_addresses prefix es))) refl
    ]

when_none : (b : Bool) (n : ℕ) → n ≡ 0 → cond b n 0 ≡ 0
when_none true n is = is
when_none false n is = refl

-- an address of an earlier entry is none of these
times_apart : (range : SlotRange) (prefix xs : List ℕ) (es : List TermEntry) (q : ℕ) → IsTable range es → AllByRecursion (λ d. AreApart xs d.addresses) es → has_address xs q ≡ true → times q (run_addresses prefix es) ≡ 0
times_apart range prefix xs [] q table apart has = refl
times_apart range prefix xs (e ∷ es) q table apart has =
    let here = times_rising range.first (range.last + 1) q e.addresses table.0.rising ∙ ap (λ b. cond b 1 0) (apart.0 q has) in
    times_entry prefix e es q
    ∙ ap (λ n. n + times q (run_addresses prefix es)) (when_none (begins_with prefix e.term) (times q e.addresses) here)
    ∙ zero-add (times q (run_addresses prefix es))
    ∙ times_apart range prefix xs es q table.2 apart.1 has

all_apart : (e : TermEntry) (es : List TermEntry) → AllByRecursion (Precedes e) es → AllByRecursion (λ d. AreApart e.addresses d.addresses) es
all_apart e [] all = tt
all_apart e (d ∷ ds) all = (all.0.addresses, all_apart e ds all.1)

-- an address occurs once if its term begins with the prefix, and else not at all
times_run : (range : SlotRange) (prefix : List ℕ) (es : List TermEntry) (q : ℕ) → IsTable range es → times q (run_addresses prefix es) ≡ cond (begins_at prefix (term_at es q)) 1 0
times_run range prefix [] q table = refl
times_run range prefix (e ∷ es) q table =
    let mine = times_rising range.first (range.last + 1) q e.addresses table.0.rising in
    let rest = times_run range prefix es q table.2 in
    elim (cases_Bool (has_address e.addresses q)) [
      | inl has ↦
          let others = times_apart range prefix e.addresses es q table.2 (all_apart e es table.1) has in
          let here : times q e.addresses ≡ 1 = mine ∙ ap (λ b. cond b 1 0) has in
          let sum : cond (begins_with prefix e.term) (times q e.addresses) 0 + times q (run_addresses prefix es) ≡ cond (begins_with prefix e.term) 1 0 =
          ap (λ n. cond (begins_with prefix e.term) (times q e.addresses) 0 + n) others
          ∙ ap (λ n. cond (begins_with prefix e.term) n 0 + 0) here
          ∙ omega arith in
          times_entry prefix e es q ∙ sum ∙ ap (λ o. cond (begins_at prefix o) 1 0) (sym (found has))
      | inr lacks ↦
          let here : times q e.addresses ≡ 0 = mine ∙ ap (λ b. cond b 1 0) lacks in
          times_entry prefix e es q
          ∙ ap (λ n. n + times q (run_addresses prefix es)) (when_none (begins_with prefix e.term) (times q e.addresses) here)
          ∙ zero-add (times q (run_addresses prefix es))
          ∙ rest
          ∙ ap (λ o. cond (begins_at prefix o) 1 0) (sym (passed lacks))
    ]
  where
    found : has_address e.addresses q ≡ true → term_at (e ∷ es) q ≡ Some e.term
    found has = rw has refl

    passed : has_address e.addresses q ≡ false → term_at (e ∷ es) q ≡ term_at es q
    passed lacks = rw lacks refl

run_outside : (range : SlotRange) (prefix : List ℕ) (es : List TermEntry) (q : ℕ) → IsTable range es → (q < range.first) ⊎ (range.last + 1 ≤ q) → times q (run_addresses prefix es) ≡ 0
run_outside range prefix [] q table out = refl
run_outside range prefix (e ∷ es) q table out =
    times_entry prefix e es q
    ∙ ap (λ n. n + times q (run_addresses prefix es)) (when_none (begins_with prefix e.term) (times q e.addresses) (times_outside range.first (range.last + 1) q e.addresses table.0.rising out))
    ∙ zero-add (times q (run_addresses prefix es))
    ∙ run_outside range prefix es q table.2 out

-- places of words
pub prefix_rising : (next low : ℕ) (words : List Word) (prefix : List ℕ) → AreRisingBelow next low words → RiseWithin low next (prefix_places words prefix)
prefix_rising next low [] prefix rise = tt
prefix_rising next low (w ∷ ws) prefix rise =
    let le = rise.0 in
    let rest = prefix_rising next (w.address + 1) ws prefix rise.2 in
    elim (cases_Bool (begins_with prefix w.token)) [
      | inl e ↦ rw e (rise.0, rise.1, rest)
      | inr e ↦ rw e (rise_wider (w.address + 1) low next next (prefix_places ws prefix) rest (omega (arith, le)) (omega arith))
    ]

pub prefix_places-append : (xs ys : List Word) (prefix : List ℕ) → prefix_places (xs ++ ys) prefix ≡ prefix_places xs prefix ++ prefix_places ys prefix
prefix_places-append xs ys prefix =
    ap (map (λ w. w.address)) (filter-append (λ w. begins_with prefix w.token) xs ys)
    ∙ map-append (λ w. w.address) (filter (λ w. begins_with prefix w.token) xs) (filter (λ w. begins_with prefix w.token) ys)

-- what is dead may be left out before or after
pub prefix_places-filter : (alive : ℕ → Bool) (words : List Word) (prefix : List ℕ) → prefix_places (filter (λ w. alive w.address) words) prefix ≡ filter alive (prefix_places words prefix)
prefix_places-filter alive [] prefix = refl
prefix_places-filter alive (w ∷ ws) prefix =
    let rest = prefix_places-filter alive ws prefix in
    elim (cases_Bool (begins_with prefix w.token)) [
      | inl e ↦ elim (cases_Bool (alive w.address)) [
        | inl a ↦ rw (a, e, a) (ap (λ ps. w.address ∷ ps) rest)
        | inr a ↦ rw (a, e, a) rest
      ]
      | inr e ↦ elim (cases_Bool (alive w.address)) [
        | inl a ↦ rw (a, e) rest
        | inr a ↦ rw (a, e) rest
      ]
    ]

-- the word at one address
times_here : (prefix : List ℕ) (p q : ℕ) (o : Option (List ℕ)) (rest : List Word) → times q (prefix_places (option_to_list (option_map (word p) o) ++ rest) prefix) ≡ cond (begins_at prefix o) (one q p) 0 + times q (prefix_places rest prefix)
times_here prefix p q None rest = sym (zero-add (times q (prefix_places rest prefix)))
times_here prefix p q (Some t) rest =
    elim (cases_Bool (begins_with prefix t)) [
      | inl h ↦ rw h (times-cons q p (prefix_places rest prefix))
      | inr h ↦ rw (h, zero-add (times q (prefix_places rest prefix))) refl
    ]

words_rise_from : (table : List TermEntry) (n p : ℕ) → AreRisingBelow (p + n) p (flat_map (words_at table) (range_with_len p n))
words_rise_from table zero p = tt
words_rise_from table (suc n) p =
    let next : p + 1 + n ≡ p + suc n = omega arith in
    step (term_at table p) (subst (λ m. AreRisingBelow m (p + 1) (flat_map (words_at table) (range_with_len (p + 1) n))) next (words_rise_from table n (p + 1)))
  where
    earlier : (next : ℕ) (ws : List Word) → AreRisingBelow next (p + 1) ws → AreRisingBelow next p ws
    earlier next [] rise = tt
    earlier next (w ∷ ws) rise = let le = rise.0 in (omega (arith, le), rise.1, rise.2)

    step : (o : Option (List ℕ)) → AreRisingBelow (p + suc n) (p + 1) (flat_map (words_at table) (range_with_len (p + 1) n)) →
        AreRisingBelow (p + suc n) p (option_to_list (option_map (word p) o) ++ flat_map (words_at table) (range_with_len (p + 1) n))
    step None rise = earlier (p + suc n) (flat_map (words_at table) (range_with_len (p + 1) n)) rise
    step (Some t) rise = (le_refl p, omega arith, rise)

times_within : (table : List TermEntry) (prefix : List ℕ) (n p q : ℕ) → p ≤ q → q < p + n → times q (prefix_places (flat_map (words_at table) (range_with_len p n)) prefix) ≡ cond (begins_at prefix (term_at table q)) 1 0
times_within table prefix zero p q le lt = absurd (omega arith)
times_within table prefix (suc n) p q le lt =
    let rest = flat_map (words_at table) (range_with_len (p + 1) n) in
    elim (cases_lt p q) [
      | inl later ↦
          let other = one_other q p (λ same. omega (arith, same, later)) in
          times_here prefix p q (term_at table p) rest
          ∙ ap (λ m. m + times q (prefix_places rest prefix)) (when_none (begins_at prefix (term_at table p)) (one q p) other)
          ∙ zero-add (times q (prefix_places rest prefix))
          ∙ times_within table prefix n (p + 1) q (omega (arith, later)) (omega (arith, lt))
      | inr upto ↦
          let is : p ≡ q = omega (arith, le, upto) in
          let none : times q (prefix_places rest prefix) ≡ 0 =
          none_below (p + 1) q (prefix_places rest prefix) (rising_up (p + 1) (p + 1 + n) (prefix_places rest prefix) (prefix_rising (p + 1 + n) (p + 1) rest prefix (words_rise_from table n (p + 1)))) (omega (arith, is)) in
          let here : one q p ≡ 1 = ap (one q) is ∙ one_same q in
          let plain : cond (begins_at prefix (term_at table p)) 1 0 + 0 ≡ cond (begins_at prefix (term_at table p)) 1 0 = omega arith in
          times_here prefix p q (term_at table p) rest
          ∙ ap (λ m. cond (begins_at prefix (term_at table p)) (one q p) 0 + m) none
          ∙ ap (λ m. cond (begins_at prefix (term_at table p)) m 0 + 0) here
          ∙ plain
          ∙ ap (λ (r : ℕ). cond (begins_at prefix (term_at table r)) 1 0) is
    ]

same_times : (shard : ShardContent) (prefix : List ℕ) (q : ℕ) → IsShard shard → times q (run_addresses prefix shard.table) ≡ times q (prefix_places (words_of shard) prefix)
same_times shard prefix q is =
    let first = shard.range.first in
    let last = shard.range.last in
    let ordered = is.ordered in
    let rising = prefix_rising (last + 1) first (words_of shard) prefix (shard_words_rise shard is) in
    elim (cases_lt q first) [
      | inl before ↦ run_outside shard.range prefix shard.table q is.table (inl before) ∙ sym (times_outside first (last + 1) q (prefix_places (words_of shard) prefix) rising (inl before))
      | inr from ↦ elim (cases_lt last q) [
        | inl after ↦
            let past : last + 1 ≤ q = omega (arith, after) in
            run_outside shard.range prefix shard.table q is.table (inr past) ∙ sym (times_outside first (last + 1) q (prefix_places (words_of shard) prefix) rising (inr past))
        | inr upto ↦ times_run shard.range prefix shard.table q is.table ∙ sym (times_within shard.table prefix (last - first + 1) first q from (omega (arith, upto, ordered, from)))
      ]
    ]

-- the places of a shard are addresses
pub shard_rising : (shard : ShardContent) (prefix : List ℕ) → IsShard shard → ArePostings (prefix_places (words_of shard) prefix)
shard_rising shard prefix is =
    let last = is.in_range in
    rise_wider shard.range.first 0 (shard.range.last + 1) (2 ^ 56) (prefix_places (words_of shard) prefix) (prefix_rising (shard.range.last + 1) shard.range.first (words_of shard) prefix (shard_words_rise shard is)) (omega arith) (omega (arith, last))

-- sorted, the addresses of the terms are the places of the words
pub sorted_run : (shard : ShardContent) (prefix xs ys : List ℕ) → IsShard shard → xs ≡ run_addresses prefix shard.table → IsPermutation xs ys → IsNonDecreasingBy (λ x. x) ys → ys ≡ prefix_places (words_of shard) prefix
sorted_run shard prefix xs ys is gathered moved sorted =
    let places = prefix_places (words_of shard) prefix in
    equal_by_times 0 ys places (sorted_up ys sorted) (rising_up 0 (2 ^ 56) places (shard_rising shard prefix is))
    (λ p. sum_by-IsPermutation (one p) xs ys moved ∙ ap (times p) gathered ∙ same_times shard prefix p is)

-- a prefix term stands for the words that begin with its prefix
pub wide_by_prefix : (words : List Word) (token : List ℕ) → is_prefix_term token ≡ true → prefix_places words (prefix_of token) ≡ wide_places words token
wide_by_prefix [] token is = refl
wide_by_prefix (w ∷ ws) token is =
    let here : stands_for_word token w.token ≡ begins_with (prefix_of token) w.token = rw is refl in
    let rest = wide_by_prefix ws token is in
    elim (cases_Bool (begins_with (prefix_of token) w.token)) [
      | inl e ↦ rw (here, e) (ap (λ l. w.address ∷ l) rest)
      | inr e ↦ rw (here, e) rest
    ]
