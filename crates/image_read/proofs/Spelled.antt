-- The collection that the parts of an image say.
use Rattle.std.proofs.Common.{◌≡◌, ℕ, ◌+◌, ◌-◌, ◌^◌, ◌<◌, ◌≤◌, List, [], ◌∷◌, ◌++◌, length, map, flat_map, Some, None, refl, sym, ap, ◌∙◌, subst, arith, le_refl}
use Rattle.std.specs.List.{AllByRecursion}
use Rattle.std.proofs.lemmas.List.{append-nil}
use Rattle.gcl_model.specs.Texts.{places}
use Rattle.gcl_model.specs.Collections.{Collection, words_of}
use Rattle.gcl_model.specs.Slots.{SlotRange, file_range, ranges_spanned, slot_range, spanned}
use Rattle.gcl_model.proofs.Lists.{all_weaker}
use Rattle.address_space.specs.Runs.{FileEntry, range_of}
use Rattle.index_shard.specs.Tables.{IsShard, TermEntry, postings_of}
use Rattle.index_shard.specs.Tables.{words_of as words_in}
use Rattle.index_shard.proofs.ShardWords.{places_are_postings}
use Rattle.live_version.specs.Contents.{SlotContent, VersionContent, live_of, ranges_of}
use Rattle.image_file.specs.declared.format.Format.{Format}
use Rattle.image_file.specs.Fields.{eight_bytes, files_bytes, mark, term_bytes, image_bytes}
use Rattle.image_file.specs.Images.{AreTermsOf, Spells, end_of, fields_of, most_term}
use Rattle.image_file.proofs.Decoding.{image-parts}
use Rattle.image_read.specs.Answers.{IsImageOf}
use Rattle.image_read.specs.Reading.{AreAllEntries, AreAllFiles, IsEntry, IsFilesFront, IsHead, files_from, role_in, role_of}
use Rattle.image_read.specs.Tables.{AreReadTerms, IsReadFrom}
use Rattle.image_read.proofs.FileTracking.{files_told}
use Rattle.image_read.proofs.Made.{files_words, words_between, made, made-width, made_entries, made_files, word_table}
use Rattle.image_read.proofs.Spans.{all_run, span_of}

-- the collection of these numbers and files, with the tokens that the table has
abbrev pub said_by : ℕ → ℕ → ℕ → List FileEntry → List TermEntry → Collection
said_by first next next_id files table = record { first = first; next = next; next_id = next_id; dels = 0; files = map (made table) files }

made_ranges : (table : List TermEntry) (next next_id id at : ℕ) (files : List FileEntry) → AreAllFiles next next_id id at files → map file_range (map (made table) files) ≡ map range_of files
made_ranges table next next_id id at [] all = refl
made_ranges table next next_id id at (e ∷ es) all =
    ap (λ n. slot_range e.base (e.base + n - 1) ∷ map file_range (map (made table) es)) (made-width table e all.0.len)
    ∙ ap (λ rs. range_of e ∷ rs) (made_ranges table next next_id (e.id + 1) (e.base + e.len) es all.1)

-- the files begin with the first one as well
begun_at : (next next_id id at : ℕ) (e : FileEntry) (es : List FileEntry) → AreAllFiles next next_id id at (e ∷ es) → AreAllFiles next next_id e.id e.base (e ∷ es)
begun_at next next_id id at e es all = (
  record { id = le_refl e.id; small = all.0.small; base = le_refl e.base; len = all.0.len; end = all.0.end; hole = (λ none. omega arith, omega arith); named = all.0.named },
  all.1,
)

-- the words of the files are those of the index from the first file to the last
words_same : (format : Format) (first next next_id : ℕ) (e : FileEntry) (es : List FileEntry) (table : List TermEntry) → next ≤ 2 ^ 56 → AreAllFiles next next_id 0 first (e ∷ es) → AreAllEntries format first next (e ∷ es) table →
    words_in (record { range = spanned (range_of e) (map range_of es); table = table }) ≡ words_of (said_by first next next_id (e ∷ es) table)
words_same format first next next_id e es table small all entries =
    let r = spanned (range_of e) (map range_of es) in
    let span = span_of e es (all_run next next_id 0 first (e ∷ es) small all) in
    let begins : r.first ≡ e.base = span.begins in
    let more : e.base + e.len - 1 ≤ r.last = span.more in
    let two : 2 ≤ e.len = all.0.len in
    let from : e.base ≤ r.last + 1 = omega (arith, more, two) in
    let width : r.last - r.first + 1 ≡ r.last + 1 - e.base = omega (arith, more, two, begins) in
    ap (λ p. words_between table p (r.last - r.first + 1)) begins
    ∙ ap (words_between table e.base) width
    ∙ files_words table (e ∷ es) next next_id e.id e.base (r.last + 1) (begun_at next next_id 0 first e es all) (word_table format first next e.base (e ∷ es) table entries) from span.ends

-- without files there are no terms
pub no_terms : (format : Format) (first next : ℕ) (table : List TermEntry) → AreAllEntries format first next [] table → table ≡ []
no_terms format first next [] entries = refl
no_terms format first next (e ∷ es) entries = absurd (none_at e.addresses entries.entries.each.0.some entries.entries.each.0.fills.roles)
  where
    none_at : (ps : List ℕ) → 0 < length ps → AllByRecursion (λ p. role_in [] p ≡ Some (role_of e.term)) ps → ⊥
    none_at [] some roles = omega arith
    none_at (p ∷ ps) some roles = let no : None ≡ Some (role_of e.term) = roles.0 in absurd cc

-- what the parts of an image say together
pub record IsSaid (format : Format) (first next next_id : ℕ) (files : List FileEntry) (bytes rest end : List ℕ) : Type 0 where
  pub head : IsHead format first next next_id (length files) bytes rest
  pub records : AreAllFiles next next_id 0 first files
  pub spelled : rest ≡ files_from format 0 first files ++ end

pub said_from : (format : Format) (first next next_id count : ℕ) (files : List FileEntry) (bytes rest end : List ℕ) → IsHead format first next next_id count bytes rest → IsFilesFront format first next next_id count rest files end → IsSaid format first next next_id files bytes rest end
said_from format first next next_id count files bytes rest end head front =
    record { head = subst (λ n. IsHead format first next next_id n bytes rest) (sym front.count) head; records = front.all; spelled = front.bytes }

end_small : (format : Format) (n : ℕ) → n ≤ end_of format → n ≤ 2 ^ 56
end_small Format.One n le = omega (arith, le)
end_small Format.Two n le = le

said_bytes : (format : Format) (first next next_id : ℕ) (files : List FileEntry) (bytes rest end : List ℕ) (table : List TermEntry) → IsSaid format first next next_id files bytes rest end → AreReadTerms format first next files end table →
    bytes ≡ image_bytes format (fields_of (said_by first next next_id files table) table)
said_bytes format first next next_id files bytes rest end table is read =
    let c = said_by first next next_id files table in
    let terms = flat_map (term_bytes format first) table in
    let last : end ≡ eight_bytes (length table) ++ (terms ++ []) = read.terms.1 ∙ ap (λ l. eight_bytes (length table) ++ l) (read.terms.2.bytes ∙ sym (append-nil terms)) in
    let told : rest ≡ files_bytes format first files ++ (eight_bytes (length table) ++ (terms ++ [])) =
    is.spelled ∙ ap (λ l. l ++ end) (sym (files_told format first files)) ∙ ap (λ l. files_bytes format first files ++ l) last in
    let whole : bytes ≡ mark format ++ (eight_bytes first ++ (eight_bytes next ++ (eight_bytes next_id ++ (eight_bytes (length files) ++ (files_bytes format first files ++ (eight_bytes (length table) ++ (terms ++ []))))))) =
    is.head.bytes ∙ ap (λ l. mark format ++ (eight_bytes first ++ (eight_bytes next ++ (eight_bytes next_id ++ (eight_bytes (length files) ++ l))))) told in
    whole
    ∙ ap (λ fs. mark format ++ (eight_bytes first ++ (eight_bytes next ++ (eight_bytes next_id ++ (eight_bytes (length fs) ++ (files_bytes format first fs ++ (eight_bytes (length table) ++ (terms ++ []))))))))
    (sym (made_entries table next next_id 0 first files is.records))
    ∙ sym (image-parts format (fields_of c table))

said_terms : (format : Format) (first next next_id : ℕ) (files : List FileEntry) (table : List TermEntry) → next ≤ 2 ^ 56 → AreAllFiles next next_id 0 first files → AreAllEntries format first next files table →
    ((e : FileEntry) (es : List FileEntry) → files ≡ e ∷ es → IsShard (record { range = spanned (range_of e) (map range_of es); table = table })) → AreTermsOf (words_of (said_by first next next_id files table)) table
said_terms format first next next_id files table small all entries shard = record {
  rising = entries.entries.rising;
  some = all_weaker (IsEntry format first next files) (λ (e : TermEntry). 0 < length e.addresses) (λ e is. is.some) table entries.entries.each;
  places = λ token. by_files files all entries shard token;
}
  where
    by_files : (fs : List FileEntry) → AreAllFiles next next_id 0 first fs → AreAllEntries format first next fs table →
        ((e : FileEntry) (es : List FileEntry) → fs ≡ e ∷ es → IsShard (record { range = spanned (range_of e) (map range_of es); table = table })) → (token : List ℕ) →
        postings_of table token ≡ places (words_of (said_by first next next_id fs table)) token
    by_files [] all entries shard token = ap (λ es. postings_of es token) (no_terms format first next table entries)
    by_files (e ∷ es) all entries shard token =
        sym (places_are_postings (record { range = spanned (range_of e) (map range_of es); table = table }) token (shard e es refl))
        ∙ ap (λ ws. places ws token) (words_same format first next next_id e es table small all entries)

pub said_spells : (format : Format) (first next next_id : ℕ) (files : List FileEntry) (bytes rest end : List ℕ) (table : List TermEntry) → IsSaid format first next next_id files bytes rest end → AreReadTerms format first next files end table →
    ((e : FileEntry) (es : List FileEntry) → files ≡ e ∷ es → IsShard (record { range = spanned (range_of e) (map range_of es); table = table })) → Spells format bytes (said_by first next next_id files table)
said_spells format first next next_id files bytes rest end table is read shard =
    let c = said_by first next next_id files table in
    let small = end_small format next is.head.in_range in
    let entries = read.terms.2.all in
    record {
      said = record {
        sound = record { ordered = is.head.ordered; in_range = small; files = made_files table c files 0 first is.records (word_table format first next first files table entries) };
        fresh = refl;
        in_range = is.head.in_range;
      };
      spelled = (
        table,
        record {
          terms = said_terms format first next next_id files table small is.records entries shard;
          short = all_weaker (IsEntry format first next files) (λ (e : TermEntry). length e.term < most_term format) (λ e is. is.short) table entries.entries.each;
          bytes = said_bytes format first next next_id files bytes rest end table is read;
        },
      );
    }

no_slots : (slots : List SlotContent) → ranges_of slots ≡ [] → slots ≡ []
no_slots [] is = refl
no_slots (s ∷ slots) is = absurd cc

-- what a version stands for that was read from an image
pub read_stands : (format : Format) (first next next_id : ℕ) (files : List FileEntry) (bytes rest end : List ℕ) (v : VersionContent) → IsSaid format first next next_id files bytes rest end → IsReadFrom format first next next_id files end v → IsImageOf bytes v
read_stands format first next next_id files bytes rest end v is read =
    let table = read.0 in
    let got = read.1 in
    let c = said_by first next next_id files table in
    let small = end_small format next is.head.in_range in
    let entries = got.terms.terms.2.all in (
      format,
      c,
      said_spells format first next next_id files bytes rest end table is got.terms (λ e es here. got.shard (spanned (range_of e) (map range_of es)) (got.ranges ∙ ap (λ fs. ranges_spanned (map range_of fs)) here)),
      record {
        number = got.number;
        edition = got.edition;
        dels = got.dels;
        stands = record {
          first = got.first;
          next = got.next;
          next_id = got.next_id;
          dels = got.dels;
          files = got.files ∙ sym (made_entries table next next_id 0 first files is.records);
          words = by_files files is.records entries got.ranges got.words;
        };
        ranges = got.ranges ∙ ap ranges_spanned (sym (made_ranges table next next_id 0 first files is.records));
      },
    )
  where
    by_files : (fs : List FileEntry) → AreAllFiles next next_id 0 first fs → AreAllEntries format first next fs read.0 → ranges_of v.slots ≡ ranges_spanned (map range_of fs) →
        ((range : SlotRange) → ranges_of v.slots ≡ range ∷ [] → live_of v.slots ≡ words_in (record { range = range; table = read.0 })) →
        live_of v.slots ≡ words_of (said_by first next next_id fs read.0)
    by_files [] all entries ranges words = ap live_of (no_slots v.slots ranges)
    by_files (e ∷ es) all entries ranges words = words (spanned (range_of e) (map range_of es)) ranges ∙ words_same format first next next_id e es read.0 (end_small format next is.head.in_range) all entries
