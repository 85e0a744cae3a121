-- Shards that are moved up: their tables, and their words.
use Rattle.std.proofs.Common.{◌≡◌, ℕ, zero, suc, ◌+◌, ◌-◌, ◌^◌, ◌<◌, false, eqb, List, [], ◌∷◌, ◌++◌, length, map, flat_map, take, drop, get_or, Option, None, Some, inl, inr, refl, sym, ap, ◌∙◌, subst, arith}
use Rattle.std.specs.List.{AllByRecursion, range_with_len}
use Rattle.std.specs.Option.{option_to_list, option_map}
use Rattle.std.proofs.lemmas.Bool.{true≢false, cases_Bool, cases_lt, eqb-true, eq-eqb}
use Rattle.std.proofs.lemmas.List.{get_or-map, length-map, map-append}
use Rattle.gcl_model.specs.Limits.{address_end}
use Rattle.gcl_model.specs.Slots.{SlotRange}
use Rattle.gcl_model.specs.Texts.{Word}
use Rattle.posting_code.specs.Moved.{moved, moved_below_end}
use Rattle.posting_code.specs.Packed.{kept, last_of}
use Rattle.posting_code.proofs.MovedUp.{kept_to_moved, list_moved, rise_moved, written}
use Rattle.posting_code.proofs.Rising.{rise_wider}
use Rattle.index_shard.specs.Kept.{AreKeptIn, IsListIn, IsTermIn, list_in, moved_entry, moved_kept, part_of, table_in}
use Rattle.index_shard.specs.Moved.{CanMove, moved_range, moved_shard, moved_term, moved_words}
use Rattle.index_shard.specs.Tables.{ArePostingsIn, AreApart, IsShard, IsTable, Precedes, RiseWithin, ShardContent, TermEntry, has_address, term_at, words_of}
use Rattle.index_shard.specs.declared.entry.Entry.{Entry}
use Rattle.index_shard.specs.declared.entry.Kept.{Kept}
use Rattle.index_shard.specs.declared.entry.Kept.TheVariants.{Short, Long}
use Rattle.index_shard.proofs.ShardWords.{lacks_earlier, word, words_at}

-- an entry whose list is kept elsewhere
abbrev pub with_list : Entry → Kept → Entry
with_list e k = record e { list = k }

-- where a list is kept once it is moved up
record IsKeptMoved (by : ℕ) (packed : List ℕ) (long : List (List ℕ)) (k : Kept) : Type 0 where
  is : list_in packed (map (moved_below_end by) long) (moved_kept by k) ≡ moved by (list_in packed long k)
  within : IsListIn packed (map (moved_below_end by) long) (moved_kept by k)

kept_some : (count first : ℕ) (packed : List ℕ) → 0 < length (kept count first packed) → 0 < count
kept_some zero first packed some = absurd (omega (arith, some))
kept_some (suc n) first packed some = omega arith

list_kept_moved : (by : ℕ) (packed : List ℕ) (long : List (List ℕ)) (k : Kept) → IsListIn packed long k → 0 < length (list_in packed long k) → last_of (list_in packed long k) + by < 2 ^ 56 → IsKeptMoved by packed long k
list_kept_moved by packed long (Short first last at size count) is some below =
    let end = is.1.end in
    let up = kept_to_moved by last count first (part_of packed at size) [] (kept_some count first (part_of packed at size) some) (omega (arith, end, below)) is.1 in
    record { is = up.list; within = (is.0, up.parts) }
list_kept_moved by packed long (Long place) is some below =
    let size = length-map long (moved_below_end by) in
    record {
      is = get_or-map (moved_below_end by) long place [] [] is ∙ list_moved by (get_or long place []) record { some = some; below = below };
      within = omega (arith, size, is);
    }

-- the table of the entries once all is moved up
pub record IsTableMoved (by : ℕ) (bytes packed : List ℕ) (long : List (List ℕ)) (entries : List Entry) : Type 0 where
  pub are : AreKeptIn bytes packed (map (moved_below_end by) long) (map (moved_entry by) entries)
  pub table : table_in bytes packed (map (moved_below_end by) long) (map (moved_entry by) entries) ≡ map (moved_term by) (table_in bytes packed long entries)

pub table_moved : (by : ℕ) (bytes packed : List ℕ) (long : List (List ℕ)) (entries : List Entry) → AreKeptIn bytes packed long entries → AllByRecursion (CanMove by) (table_in bytes packed long entries) → IsTableMoved by bytes packed long entries
table_moved by bytes packed long [] are can = record { are = record { terms = tt; lists = tt }; table = refl }
table_moved by bytes packed long (e ∷ es) are can =
    let one = list_kept_moved by packed long e.list are.lists.0 can.0.some can.0.below in
    let rest = table_moved by bytes packed long es record { terms = are.terms.1; lists = are.lists.1 } can.1 in
    let long' = map (moved_below_end by) long in
    let first : TermEntry = record { term = part_of bytes e.start e.size; addresses = moved by (list_in packed long e.list) } in
    let same : IsTermIn bytes (moved_entry by e) = record { within = are.terms.0.within; head = are.terms.0.head } in
    record {
      are = record { terms = (same, rest.are.terms); lists = (one.within, rest.are.lists) };
      table =
          ap (λ l. record { term = part_of bytes e.start e.size; addresses = l } ∷ table_in bytes packed long' (map (moved_entry by) es)) one.is
          ∙ ap (λ t. first ∷ t) rest.table;
    }

-- the same of tables that contracts see
pub table_moved_to : (by : ℕ) (bytes packed : List ℕ) (long long' : List (List ℕ)) (entries entries' : List Entry) (table : List TermEntry) → AreKeptIn bytes packed long entries → table_in bytes packed long entries ≡ table → AllByRecursion (CanMove by) table →
    long' ≡ map (moved_below_end by) long → entries' ≡ map (moved_entry by) entries → AreKeptIn bytes packed long' entries' × (table_in bytes packed long' entries' ≡ map (moved_term by) table)
table_moved_to by bytes packed long long' entries entries' table are is can long_is entries_is =
    let up = table_moved by bytes packed long entries are (subst (AllByRecursion (CanMove by)) (sym is) can) in (
      subst (λ l. AreKeptIn bytes packed l entries') (sym long_is) (subst (AreKeptIn bytes packed (map (moved_below_end by) long)) (sym entries_is) up.are),
      ap (λ l. table_in bytes packed l entries') long_is ∙ ap (table_in bytes packed (map (moved_below_end by) long)) entries_is ∙ up.table ∙ ap (map (moved_term by)) is,
    )

-- the table once all entries and all long lists are moved up in place
pub table_up : (by : ℕ) (bytes packed : List ℕ) (long long' : List (List ℕ)) (entries entries' new : List Entry) (len : ℕ) (table : List TermEntry) → AreKeptIn bytes packed long entries → table_in bytes packed long entries ≡ table → AllByRecursion (CanMove by) table →
    len ≡ length entries → entries' ≡ entries → new ≡ map (moved_entry by) entries' → long' ≡ map (moved_below_end by) long →
    AreKeptIn bytes packed long' (take len (new ++ drop (length new) entries)) × (table_in bytes packed long' (take len (new ++ drop (length new) entries)) ≡ map (moved_term by) table)
table_up by bytes packed long long' entries entries' new len table are is can size from moved_to long_is =
    let entries_is : new ≡ map (moved_entry by) entries = moved_to ∙ ap (map (moved_entry by)) from in
    table_moved_to by bytes packed long long' entries (take len (new ++ drop (length new) entries)) table are is can long_is
    (written len entries new size (ap length entries_is ∙ length-map entries (moved_entry by)) ∙ entries_is)

-- the last of some addresses in a range is below its end
last_below : (low end : ℕ) (xs : List ℕ) → RiseWithin low end xs → 0 < length xs → last_of xs < end
last_below low end [] r some = absurd (omega (arith, some))
last_below low end (x ∷ []) r some = r.1
last_below low end (x ∷ y ∷ ys) r some = last_below (x + 1) end (y ∷ ys) r.2 (omega arith)

pub all_can_move : (by : ℕ) (range : SlotRange) (table : List TermEntry) → IsTable range table → range.last + by < address_end → AllByRecursion (CanMove by) table
all_can_move by range [] is below = tt
all_can_move by range (e ∷ es) is below =
    let last = last_below range.first (range.last + 1) e.addresses is.0.rising is.0.some in
    (record { some = is.0.some; below = omega (arith, last, below) }, all_can_move by range es is.2 below)

-- an address is in a list as it is in the list moved up
eqb_moved : (by a b : ℕ) → eqb (a + by) (b + by) ≡ eqb a b
eqb_moved by a b =
    elim (cases_Bool (eqb a b)) [
      | inl same ↦ eq-eqb (a + by) (b + by) (ap (λ n. n + by) (eqb-true a b same)) ∙ sym same
      | inr other ↦ elim (cases_Bool (eqb (a + by) (b + by))) [
        | inl e ↦
            let both = eqb-true (a + by) (b + by) e in
            let is : a ≡ b = omega (arith, both) in
            absurd (true≢false (sym (eq-eqb a b is) ∙ other))
        | inr e ↦ e ∙ sym other
      ]
    ]

has_moved : (by : ℕ) (xs : List ℕ) (p : ℕ) → has_address (moved by xs) (p + by) ≡ has_address xs p
has_moved by [] p = refl
has_moved by (x ∷ xs) p = rw (eqb_moved by x p) (rw (has_moved by xs p) refl)

rise_from : (low end : ℕ) (xs : List ℕ) → RiseWithin low end xs → RiseWithin 0 end xs
rise_from low end xs r = rise_wider low 0 end end xs r (omega arith) (omega arith)

lacks_low : (by : ℕ) (low end : ℕ) (xs : List ℕ) (p : ℕ) → RiseWithin low end xs → p < by → has_address (moved by xs) p ≡ false
lacks_low by low end xs p r lt = lacks_earlier (0 + by) (end + by) (moved by xs) p (rise_moved by 0 end xs (rise_from low end xs r)) (omega (arith, lt))

apart_moved : (by low end : ℕ) (xs ys : List ℕ) → RiseWithin low end xs → AreApart xs ys → AreApart (moved by xs) (moved by ys)
apart_moved by low end xs ys r apart p has =
    elim (cases_lt p by) [
      | inl lt ↦ absurd (true≢false (sym has ∙ lacks_low by low end xs p r lt))
      | inr le ↦
          let is : p ≡ p - by + by = omega (arith, le) in
          ap (has_address (moved by ys)) is ∙ has_moved by ys (p - by) ∙ apart (p - by) (sym (has_moved by xs (p - by)) ∙ ap (has_address (moved by xs)) (sym is) ∙ has)
    ]

postings_in_moved : (by : ℕ) (range : SlotRange) (xs : List ℕ) → ArePostingsIn range xs → ArePostingsIn (moved_range by range) (moved by xs)
postings_in_moved by range xs are =
    let some = are.some in
    let long = length-map xs (λ p. p + by) in
    record {
      some = omega (arith, some, long);
      rising = rise_wider (range.first + by) (range.first + by) (range.last + 1 + by) (range.last + by + 1) (moved by xs) (rise_moved by range.first (range.last + 1) xs are.rising) (omega arith) (omega arith);
    }

all_precede : (by : ℕ) (range : SlotRange) (e : TermEntry) (es : List TermEntry) → ArePostingsIn range e.addresses → AllByRecursion (Precedes e) es → AllByRecursion (Precedes (moved_term by e)) (map (moved_term by) es)
all_precede by range e [] are all = tt
all_precede by range e (d ∷ ds) are all =
    (record { terms = all.0.terms; addresses = apart_moved by range.first (range.last + 1) e.addresses d.addresses are.rising all.0.addresses }, all_precede by range e ds are all.1)

is_table_moved : (by : ℕ) (range : SlotRange) (es : List TermEntry) → IsTable range es → IsTable (moved_range by range) (map (moved_term by) es)
is_table_moved by range [] is = tt
is_table_moved by range (e ∷ es) is = (postings_in_moved by range e.addresses is.0, all_precede by range e es is.0 is.1, is_table_moved by range es is.2)

-- a shard that is moved up is one
pub shard_moved : (by : ℕ) (shard : ShardContent) → IsShard shard → shard.range.last + by < address_end → IsShard (moved_shard by shard)
shard_moved by shard is below =
    let le = is.ordered in
    record { ordered = omega (arith, le); in_range = below; table = is_table_moved by shard.range shard.table is.table }

term_at_moved : (by : ℕ) (es : List TermEntry) (p : ℕ) → term_at (map (moved_term by) es) (p + by) ≡ term_at es p
term_at_moved by [] p = refl
term_at_moved by (e ∷ es) p = rw (has_moved by e.addresses p) (rw (term_at_moved by es p) refl)

moved_word : (by p : ℕ) (o : Option (List ℕ)) → option_to_list (option_map (word (p + by)) o) ≡ moved_words by (option_to_list (option_map (word p) o))
moved_word by p None = refl
moved_word by p (Some term) = refl

words_moved_from : (by : ℕ) (es : List TermEntry) (n p : ℕ) → flat_map (words_at (map (moved_term by) es)) (range_with_len (p + by) n) ≡ moved_words by (flat_map (words_at es) (range_with_len p n))
words_moved_from by es zero p = refl
words_moved_from by es (suc n) p =
    let up : Word → Word = λ w. record w { address = w.address + by } in
    let rest' = flat_map (words_at (map (moved_term by) es)) (range_with_len (p + by + 1) n) in
    let rest = flat_map (words_at es) (range_with_len (p + 1) n) in
    let next : p + by + 1 ≡ p + 1 + by = omega arith in
    ap (λ o. option_to_list (option_map (word (p + by)) o) ++ rest') (term_at_moved by es p)
    ∙ ap (λ ws. ws ++ rest') (moved_word by p (term_at es p))
    ∙ ap (λ ws. moved_words by (words_at es p) ++ ws) (ap (λ q. flat_map (words_at (map (moved_term by) es)) (range_with_len q n)) next ∙ words_moved_from by es n (p + 1))
    ∙ sym (map-append up (words_at es p) rest)

-- and its words are those of the shard, moved up
pub shard_words_moved : (by : ℕ) (shard : ShardContent) → words_of (moved_shard by shard) ≡ moved_words by (words_of shard)
shard_words_moved by shard =
    let size : shard.range.last + by - (shard.range.first + by) + 1 ≡ shard.range.last - shard.range.first + 1 = omega arith in
    ap (λ n. flat_map (words_at (map (moved_term by) shard.table)) (range_with_len (shard.range.first + by) n)) size
    ∙ words_moved_from by shard.table (shard.range.last - shard.range.first + 1) shard.range.first

abbrev pub parts : SlotRange → List TermEntry → ShardContent
parts r t = record { range = r; table = t }

-- a shard by its parts, once they are moved up
pub shard_up : (by : ℕ) (shard : ShardContent) (range range' : SlotRange) (table table' : List TermEntry) → record { range = range; table = table } ≡ shard → IsShard record { range = range; table = table } → shard.range.last + by < address_end →
    range' ≡ moved_range by range → table' ≡ map (moved_term by) table → IsShard record { range = range'; table = table' } × (record { range = range'; table = table' } ≡ moved_shard by shard)
shard_up by shard range range' table table' view is below er et =
    let s : ShardContent = record { range = range; table = table } in
    let low : s.range.last + by < address_end = subst (λ (t : ShardContent). t.range.last + by < address_end) (sym view) below in
    let same : record { range = range'; table = table' } ≡ moved_shard by s = ap (λ r. parts r table') er ∙ ap (parts (moved_range by range)) et in
    (subst IsShard (sym same) (shard_moved by s is low), same ∙ ap (moved_shard by) view)

pub room_up : (by : ℕ) (shard : ShardContent) (range : SlotRange) (table : List TermEntry) → record { range = range; table = table } ≡ shard → shard.range.last + by < address_end → range.last + by < address_end
room_up by shard range table view below = subst (λ (t : ShardContent). t.range.last + by < address_end) (sym view) below

pub words_up : (by : ℕ) (shard result : ShardContent) → result ≡ moved_shard by shard → words_of result ≡ moved_words by (words_of shard)
words_up by shard result is = ap words_of is ∙ shard_words_moved by shard
