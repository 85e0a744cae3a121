-- Each collection has one spelling, and no bytes spell two.
use Rattle.std.proofs.Common.{◌≡◌, ℕ, ◌+◌, ◌-◌, ◌*◌, ◌^◌, ◌<◌, ◌≤◌, List, [], ◌∷◌, length, map, refl, sym, ap, ◌∙◌, subst, arith}
use Rattle.std.specs.List.{AllByRecursion}
use Rattle.gcl_model.specs.Texts.{Word, places, AreRisingBelow}
use Rattle.gcl_model.proofs.Lists.{all_weaker}
use Rattle.gcl_model.specs.Collections.{Collection, File, AreFilesFrom, words_of, width_of}
use Rattle.posting_code.specs.Postings.{RiseWithin}
use Rattle.posting_code.proofs.Rising.{rise_wider}
use Rattle.address_space.proofs.WordLemmas.{words_are_text}
use Rattle.index_shard.specs.Tables.{TermEntry, postings_of}
use Rattle.index_shard.proofs.ShardWords.{rising_places}
use Rattle.live_version.specs.StandsFor.{entry_of}
use Rattle.live_version.proofs.ChangeLaw.{same_collection}
use Rattle.shard_merge.proofs.SameWords.{same_words}
use Rattle.image_file.specs.declared.format.Format.{Format}
use Rattle.image_file.specs.declared.format.Format.TheVariants.{One, Two}
use Rattle.image_file.specs.Fields.{Fields, image_bytes}
use Rattle.image_file.specs.Images.{AreShort, AreTermsOf, CanBeSaid, HasShortTokens, Spells, SpellsWith, fields_of, forgotten, image_of, most_term, terms_of}
use Rattle.image_file.specs.Laws.{HasSpelling, HasOneSpelling, SpellsOne, IsOfOneVersion}
use Rattle.image_file.proofs.TermTables.{one_table, own_postings}
use Rattle.image_file.proofs.TermsOfWords.{few_terms, terms_all, terms_are, words_all}
use Rattle.image_file.proofs.Packing.{sound_packs, packed_few, few_words}
use Rattle.image_file.proofs.Decoding.{AreWritable, CanWrite, image_same}

pub has_spelling : HasSpelling
has_spelling c said short = (
  image_of c,
  record {
    said = said;
    spelled = (terms_of (words_of c), record { terms = terms_are (words_of c); short = terms_all (λ t. length t < 2 ^ 56) (words_of c) short; bytes = refl });
  },
)

-- the one image of a collection in version 2
pub image_is : (c : Collection) (bytes : List ℕ) → Spells Two bytes (forgotten c) → bytes ≡ image_of c
image_is c bytes s =
    s.spelled.1.bytes ∙ ap (λ terms. image_bytes Two (fields_of c terms)) (one_table (words_of c) s.spelled.0 (terms_of (words_of c)) s.spelled.1.terms (terms_are (words_of c)))

within_most : (format : Format) → most_term format ≤ 2 ^ 56
within_most One = omega arith
within_most Two = omega arith

-- a collection that has an image has no token too long to be written
pub spelled_short : (format : Format) (bytes : List ℕ) (c : Collection) → Spells format bytes c → HasShortTokens c
spelled_short format bytes c s =
    let words : List Word = words_of c in
    let most : most_term format ≤ 2 ^ 56 = within_most format in
    let short = subst (AllByRecursion (λ (e : TermEntry). length e.term < most_term format)) (one_table words s.spelled.0 (terms_of words) s.spelled.1.terms (terms_are words)) s.spelled.1.short in
    all_weaker (λ (w : Word). length w.token < most_term format) (λ (w : Word). length w.token < 2 ^ 56) (λ w less. omega (arith, less, most)) words
    (words_all (λ (t : List ℕ). length t < most_term format) words short)

pub has_one_spelling : HasOneSpelling
has_one_spelling format c bytes other s t =
    let same = one_table (words_of c) s.spelled.0 t.spelled.0 s.spelled.1.terms t.spelled.1.terms in
    s.spelled.1.bytes ∙ ap (λ terms. image_bytes format (fields_of c terms)) same ∙ sym t.spelled.1.bytes

-- each entry can be written
can_write : (format : Format) (next first : ℕ) (words : List Word) (es terms : List TermEntry) → next ≤ 2 ^ 56 → AreRisingBelow next first words → AreTermsOf words terms →
    AllByRecursion (λ (e : TermEntry). postings_of terms e.term ≡ e.addresses) es → AllByRecursion (λ (e : TermEntry). 0 < length e.addresses) es → AreShort format es → AllByRecursion (CanWrite format first) es
can_write format next first words [] terms end rising is own some short = tt
can_write format next first words (e ∷ es) terms end rising is own some short =
    let list : places words e.term ≡ e.addresses = sym (is.places e.term) ∙ own.0 in (
      record {
        short = short.0;
        some = some.0;
        rising = rise_wider first first next (2 ^ 56) e.addresses (subst (RiseWithin first next) list (rising_places next first words e.term rising)) (omega arith) end;
      },
      can_write format next first words es terms end rising is own.1 some.1 short.1,
    )

-- there are at most half as many ids as addresses
ids_few : (c : Collection) (at id : ℕ) (files : List File) → 2 * id ≤ at → AreFilesFrom c at id files → 2 * c.next_id ≤ c.next
ids_few c at id [] half h =
    let a : at ≤ c.next = h.0 in
    let b : id ≤ c.next_id = h.1 in
    let hole : 2 * (c.next_id - id) ≤ c.next - at = h.2.1 in
    omega arith
ids_few c at id (file ∷ files) half h =
    let base : at ≤ file.base = h.0 in
    let least : id ≤ file.id = h.1 in
    let hole : 2 * (file.id - id) ≤ file.base - at = h.2.1 in
    ids_few c (file.base + width_of file.tokens) (file.id + 1) files (omega arith) h.5

pub are_writable : (format : Format) (bytes : List ℕ) (c : Collection) (terms : List TermEntry) → CanBeSaid format c → SpellsWith format bytes c terms → AreWritable format (fields_of c terms)
are_writable format bytes c terms said s =
    let sound = said.sound in
    let end : c.next ≤ 2 ^ 56 = sound.in_range in
    let ordered : c.first ≤ c.next = sound.ordered in
    let text = words_are_text c sound in
    let words = few_words c.next c.first (words_of c) ordered text.rising in
    let few = few_terms (words_of c) terms s.terms in
    let ids = ids_few c c.first 0 c.files (omega arith) sound.files in
    let packed = sound_packs c sound in
    let files = packed_few 0 c.first (map entry_of c.files) (omega arith) packed in
    record {
      ordered = ordered;
      in_range = end;
      ids = omega (arith, ids, end);
      files = packed;
      few_files = omega (arith, files);
      few_terms = omega (arith, few, words, end);
      terms = can_write format c.next c.first (words_of c) terms terms end text.rising s.terms (own_postings terms s.terms.rising) s.terms.some s.short;
    }

-- what two images of the same bytes say
same_fields : (format other : Format) (bytes : List ℕ) (c d : Collection) → (s : Spells format bytes c) → (t : Spells other bytes d) → (format ≡ other) × (fields_of c s.spelled.0 ≡ fields_of d t.spelled.0)
same_fields format other bytes c d s t =
    image_same format other (fields_of c s.spelled.0) (fields_of d t.spelled.0) (are_writable format bytes c s.spelled.0 s.said s.spelled.1) (are_writable other bytes d t.spelled.0 t.said t.spelled.1)
    (sym s.spelled.1.bytes ∙ t.spelled.1.bytes)

pub spells_one : SpellsOne
spells_one format other bytes c d s t =
    let same = (same_fields format other bytes c d s t).1 in
    let terms : s.spelled.0 ≡ t.spelled.0 = ap (λ (f : Fields). f.terms) same in
    let first : c.first ≡ d.first = ap (λ (f : Fields). f.first) same in
    let next : c.next ≡ d.next = ap (λ (f : Fields). f.next) same in
    let rising : AreRisingBelow c.next c.first (words_of d) =
    subst (λ p. AreRisingBelow c.next p (words_of d)) (sym first) (subst (λ p. AreRisingBelow p d.first (words_of d)) (sym next) (words_are_text d t.said.sound).rising) in
    let words : words_of c ≡ words_of d =
    same_words c.next c.first (words_of c) (words_of d) (words_are_text c s.said.sound).rising rising
    (λ token. sym (s.spelled.1.terms.places token) ∙ ap (λ es. postings_of es token) terms ∙ t.spelled.1.terms.places token) in
    same_collection c d first next (ap (λ (f : Fields). f.next_id) same) (s.said.fresh ∙ sym t.said.fresh) (ap (λ (f : Fields). f.files) same) words

pub is_of_one_version : IsOfOneVersion
is_of_one_version bytes c d s t = let same : One ≡ Two = (same_fields One Two bytes c d s t).0 in absurd cc
