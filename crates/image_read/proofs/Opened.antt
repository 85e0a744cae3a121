-- The version that is made of what was read.
use Rattle.std.proofs.Common.{◌≡◌, ℕ, zero, suc, ◌+◌, ◌-◌, ◌^◌, ◌<◌, ◌≤◌, true, List, [], ◌∷◌, length, map, flat_map, Option, Some, None, refl, sym, ap, ◌∙◌, subst, arith}
use Rattle.std.specs.List.{AllByRecursion}
use Rattle.std.proofs.lemmas.List.{append-nil}
use Rattle.gcl_model.specs.Texts.{Word}
use Rattle.gcl_model.specs.Slots.{SlotRange, ranges_spanned, spanned}
use Rattle.gcl_model.proofs.Lists.{filter_all}
use Rattle.address_space.specs.Runs.{FileEntry, range_of}
use Rattle.index_shard.specs.Tables.{IsShard, ShardContent, TermEntry, term_at, words_of}
use Rattle.live_version.specs.Changes.{opened}
use Rattle.live_version.specs.Contents.{VersionContent, is_of_files, live_of, slot_content}
use Rattle.image_file.specs.declared.format.Format.{Format}
use Rattle.image_file.specs.Fields.{term_bytes}
use Rattle.image_read.specs.Reading.{AreAllFiles, AreTermBytes, HasNoTerms, IsFixed}
use Rattle.image_read.specs.Tables.{AreReadTerms, IsReadFrom}
use Rattle.image_read.proofs.AddressTracking.{role_of_files}
use Rattle.image_read.proofs.Made.{word_table, words_between}
use Rattle.image_read.proofs.Spans.{all_end, all_run, span_of}
use Rattle.image_read.proofs.Spelled.{no_terms}
use Rattle.image_read.proofs.TermTracking.{terms_none, terms_read}

-- no files, and nothing after the number of terms, which is 0
empty_terms : (format : Format) (first next : ℕ) → AreTermBytes format first next 0 [] [] []
empty_terms format first next = record {
  all = record { entries = record { rising = tt; apart = tt; each = tt }; covered = λ p of. absurd cc };
  count = refl;
  bytes = refl;
}

empty_as : (format : Format) (first next next_id : ℕ) (bytes : List ℕ) → AreReadTerms format first next [] bytes [] → IsReadFrom format first next next_id [] bytes (opened first next next_id None)
empty_as format first next next_id bytes terms = (
  [],
  record {
    terms = terms;
    first = refl;
    next = refl;
    next_id = refl;
    number = refl;
    edition = refl;
    dels = refl;
    files = refl;
    shard = λ range is. absurd cc;
    words = λ range is. absurd cc;
    ranges = refl;
  },
)

pub empty_read : (format : Format) (first next next_id : ℕ) (bytes : List ℕ) (number : ℕ) (rest : List ℕ) (v : VersionContent) → IsFixed 8 bytes number rest → number ≡ 0 → rest ≡ [] → v ≡ opened first next next_id None → IsReadFrom format first next next_id [] bytes v
empty_read format first next next_id bytes number rest v count no_number none is =
    subst (IsReadFrom format first next next_id [] bytes) (sym is)
    (empty_as format first next next_id bytes
    (terms_read format first next [] bytes number rest [] count
    (subst (λ n. AreTermBytes format first next n [] rest []) (sym no_number) (subst (λ l. AreTermBytes format first next 0 [] l []) (sym none) (empty_terms format first next)))))

-- without files there is no other
pub empty_refused : (format : Format) (first next : ℕ) (bytes : List ℕ) (number : ℕ) (rest : List ℕ) → IsFixed 8 bytes number rest → (number ≡ 0 → rest ≡ [] → ⊥) → HasNoTerms format first next [] bytes
empty_refused format first next bytes number rest count none =
    terms_none format first next [] bytes number rest count
    (λ all are.
    let empty = no_terms format first next all are.all in
    none (sym are.count ∙ ap length empty) (are.bytes ∙ ap (λ es. flat_map (term_bytes format first) es) empty))

-- the words of the table are words of the files
owned_between : (files : List FileEntry) (table : List TermEntry) → ((q : ℕ) (t : List ℕ) → term_at table q ≡ Some t → is_of_files files q ≡ true) → (p n : ℕ) → AllByRecursion (λ (w : Word). is_of_files files w.address ≡ true) (words_between table p n)
owned_between files table each p zero = tt
owned_between files table each p (suc n) = by_term (term_at table p) refl (owned_between files table each (p + 1) n)
  where
    by_term : (o : Option (List ℕ)) → term_at table p ≡ o → AllByRecursion (λ (w : Word). is_of_files files w.address ≡ true) (words_between table (p + 1) n) → AllByRecursion (λ (w : Word). is_of_files files w.address ≡ true) (words_between table p (suc n))
    by_term None is rest = rw is rest
    by_term (Some t) is rest = rw is (each p t is, rest)

pub words_owned : (format : Format) (first next : ℕ) (files : List FileEntry) (bytes : List ℕ) (shard : ShardContent) → AreReadTerms format first next files bytes shard.table → AllByRecursion (λ (w : Word). is_of_files files w.address ≡ true) (words_of shard)
words_owned format first next files bytes shard read =
    let table = word_table format first next 0 files shard.table read.terms.2.all in
    owned_between files shard.table (λ q t has. role_of_files files q _ (table.role q t (omega arith) has)) shard.range.first (shard.range.last - shard.range.first + 1)

slot_words : (range : SlotRange) (shard : ShardContent) (files : List FileEntry) → live_of (slot_content range shard [] files ∷ []) ≡ words_of shard
slot_words range shard files = append-nil _ ∙ filter_all (words_of shard)

shard_is : (shard : ShardContent) (range : SlotRange) → shard.range ≡ range → shard ≡ record { range = range; table = shard.table }
shard_is shard range is = ap (λ r. record { range = r; table = shard.table }) is

slot_as : (format : Format) (first next next_id : ℕ) (files : List FileEntry) (bytes : List ℕ) (range : SlotRange) (shard : ShardContent) → AreReadTerms format first next files bytes shard.table → IsShard shard → shard.range ≡ range →
    range ∷ [] ≡ ranges_spanned (map range_of files) → IsReadFrom format first next next_id files bytes (opened first next next_id (Some (slot_content range shard [] files)))
slot_as format first next next_id files bytes range shard read is same span = (
  shard.table,
  record {
    terms = read;
    first = refl;
    next = refl;
    next_id = refl;
    number = refl;
    edition = refl;
    dels = refl;
    files = append-nil files;
    shard = λ other at. subst IsShard (shard_is shard other (same ∙ first_same range other at)) is;
    words = λ other at. slot_words range shard files ∙ ap words_of (shard_is shard other (same ∙ first_same range other at));
    ranges = span;
  },
)
  where
    first_same : (a b : SlotRange) → a ∷ [] ≡ b ∷ [] → a ≡ b
    first_same a b at = cc

pub slot_read : (format : Format) (first next next_id : ℕ) (files : List FileEntry) (bytes : List ℕ) (range : SlotRange) (shard : ShardContent) (v : VersionContent) → AreReadTerms format first next files bytes shard.table → IsShard shard → shard.range ≡ range →
    range ∷ [] ≡ ranges_spanned (map range_of files) → v ≡ opened first next next_id (Some (slot_content range shard [] files)) → IsReadFrom format first next next_id files bytes v
slot_read format first next next_id files bytes range shard v read is same span at =
    subst (IsReadFrom format first next next_id files bytes) (sym at) (slot_as format first next next_id files bytes range shard read is same span)

-- the files take a range of the addresses that there are
pub record IsWithin (first next : ℕ) (range : SlotRange) : Type 0 where
  pub low : first ≤ range.first
  pub high : range.last < next

pub span_within : (first next next_id : ℕ) (files : List FileEntry) (range : SlotRange) → next ≤ 2 ^ 56 → AreAllFiles next next_id 0 first files → range ∷ [] ≡ ranges_spanned (map range_of files) → IsWithin first next range
span_within first next next_id [] range small all span = absurd cc
span_within first next next_id (e ∷ es) range small all span =
    let r = spanned (range_of e) (map range_of es) in
    let same : range ≡ r = cc in
    let is = span_of e es (all_run next next_id 0 first (e ∷ es) small all) in
    let begins : r.first ≡ e.base = is.begins in
    let base : first ≤ e.base = all.0.base in
    let two : 2 ≤ e.len = all.0.len in
    let end : e.base + e.len ≤ next = all.0.end in
    let last = is.least next (omega (arith, end, two)) (all_end next next_id 0 first (e ∷ es) all) in
    subst (IsWithin first next) (sym same) record { low = omega (arith, base, begins); high = omega (arith, last) }
