-- The terms that were written, and those that are still to come.
use Rattle.std.proofs.Common.{◌≡◌, ℕ, ◌+◌, ◌-◌, ◌^◌, ◌<◌, ◌≤◌, List, [], ◌∷◌, ◌++◌, length, map, flat_map, drop, get_or, bytes_eq, inl, inr, refl, sym, ap, ◌∙◌, subst, arith, length-append}
use Rattle.std.specs.List.{AllByRecursion}
use Rattle.std.proofs.lemmas.Bool.{cases_Bool, cases_lt}
use Rattle.std.proofs.lemmas.List.{append_assoc, drop_more, flat_map_more}
use Rattle.std.proofs.lemmas.Slice.Eq.{bytes_eq-Decides}
use Rattle.gcl_model.specs.Texts.{Word, places}
use Rattle.posting_code.specs.Numbers.{spelling}
use Rattle.posting_code.specs.Packed.{packed_from}
use Rattle.posting_code.specs.Postings.{RiseWithin}
use Rattle.posting_code.proofs.Numbers.{spelling-small, spelling-more}
use Rattle.posting_code.proofs.Rising.{rise_wider}
use Rattle.index_shard.specs.Tables.{TermEntry, ComesBefore}
use Rattle.index_shard.proofs.TableLaws.{all_push, term_entry as entry}
use Rattle.index_shard.proofs.ShardWords.{rising_places}
use Rattle.live_version.specs.Contents.{VersionContent, IsVersion, files_of, live_of}
use Rattle.live_version.proofs.WordLemmas.{live_of_rise}
use Rattle.slot_terms.specs.Parts.{PartContent, IsNext, part_of, past, postings_left}
use Rattle.shard_merge.proofs.Runs.{left_places}
use Rattle.shard_merge.proofs.TermByTerm.{AllBefore, all_before, before_missed, IsMerging, merging_skips, merging_pushes, merged_all}
use Rattle.image_file.specs.declared.format.Format.TheVariants.{Two}
use Rattle.gcl_model.specs.Collections.{Collection, IsSound}
use Rattle.live_version.specs.StandsFor.{StandsFor}
use Rattle.live_version.proofs.ChangeLaw.{stands_for_one}
use Rattle.image_file.specs.Fields.{Fields, eight_bytes, head_bytes, image_bytes, mark, short_files, short_term, short_text, term_bytes}
use Rattle.image_file.proofs.Decoding.{fields_is, four, three}
use Rattle.image_file.proofs.Packing.{forgotten_sound, sound_packs}
use Rattle.image_file.specs.Images.{AreShort, AreTermsOf, CanBeSaved, Spells, TermsRise, fields_of, forgotten}
use Rattle.image_file.specs.Written.{ArePacked, IsTermText, IsTextOf}

pub rising_push : (es : List TermEntry) (e : TermEntry) → TermsRise es → AllBefore e.term es → TermsRise (es ++ e ∷ [])
rising_push [] e rise before = (tt, tt)
rising_push (d ∷ ds) e rise before = (all_push (λ (later : TermEntry). ComesBefore d.term later.term) ds e rise.0 before.0, rising_push ds e rise.1 before.1)

-- some terms of the version were written, and the parts have the rest
pub record IsWriting (v : VersionContent) (parts : List PartContent) (number : ℕ) (text : List ℕ) (table : List TermEntry) : Type 0 where
  pub merging : IsMerging (map part_of v.slots) parts table
  pub rising : TermsRise table
  pub some : AllByRecursion (λ e. 0 < length e.addresses) table
  pub short : AreShort Two table
  pub count : number ≡ length table
  pub bytes : text ≡ flat_map (term_bytes Two v.first) table
  pub few : number ≤ length text

abbrev pub Writes : VersionContent → List PartContent → ℕ → List ℕ → Type 0
Writes v parts count bytes = (table : List TermEntry) × IsWriting v parts count bytes table

pub writing_skips : (v : VersionContent) (parts : List PartContent) (count : ℕ) (bytes term : List ℕ) → Writes v parts count bytes → IsNext parts term [] → Writes v (map (past term) parts) count bytes
writing_skips v parts count bytes term w next = (
  w.0,
  record {
    merging = merging_skips (map part_of v.slots) parts w.0 term w.1.merging next;
    rising = w.1.rising;
    some = w.1.some;
    short = w.1.short;
    count = w.1.count;
    bytes = w.1.bytes;
    few = w.1.few;
  },
)

spelled_some : (n : ℕ) → n < 2 ^ 56 → 0 < length (spelling n)
spelled_some n lt = elim (cases_lt n 128) [
  | inl small ↦ subst (λ bs. 0 < length bs) (sym (spelling-small n small)) (omega arith)
  | inr large ↦ subst (λ bs. 0 < length bs) (sym (spelling-more n large lt)) (omega arith)
]

pub term_longer : (first : ℕ) (e : TermEntry) → length e.term < 2 ^ 56 → 0 < length (short_term first e)
term_longer first e short =
    let some = spelled_some (length e.term) short in
    omega (arith, some, length-append (spelling (length e.term)) e.term, length-append (short_text e.term) (spelling (length e.addresses - 1)), length-append (short_text e.term ++ spelling (length e.addresses - 1)) (packed_from first e.addresses))

pub writing_pushes : (v : VersionContent) (parts : List PartContent) (count : ℕ) (bytes more term addresses : List ℕ) → Writes v parts count bytes → IsNext parts term addresses → 0 < length addresses → length term < 2 ^ 56 →
    more ≡ bytes ++ short_term v.first (entry term addresses) → Writes v (map (past term) parts) (count + 1) more
writing_pushes v parts count bytes more term addresses w next some short is =
    let e = entry term addresses in
    let before = all_before parts w.0 term next.member w.1.merging.after in
    let longer = term_longer v.first e short in
    let few = w.1.few in
    let counted = w.1.count in (
      w.0 ++ e ∷ [],
      record {
        merging = merging_pushes (map part_of v.slots) parts w.0 term addresses w.1.merging next;
        rising = rising_push w.0 e w.1.rising before;
        some = all_push (λ (d : TermEntry). 0 < length d.addresses) w.0 e w.1.some some;
        short = all_push (λ (d : TermEntry). length d.term < 2 ^ 56) w.0 e w.1.short short;
        count = omega (arith, counted, length-append w.0 (e ∷ []));
        bytes = is ∙ ap (λ bs. bs ++ short_term v.first e) w.1.bytes ∙ flat_map_more (term_bytes Two v.first) [] w.0 e;
        few = subst (λ bs. count + 1 ≤ length bs) (sym is) (omega (arith, few, longer, length-append bytes (short_term v.first e)));
      },
    )

pub written_all : (v : VersionContent) (parts : List PartContent) (count : ℕ) (bytes : List ℕ) → IsVersion v → Writes v parts count bytes → ((term : List ℕ) → postings_left parts term ≡ []) → IsTermText v count bytes
written_all v parts count bytes is w none = (
  w.0,
  record {
    terms = record {
      rising = w.1.rising;
      some = w.1.some;
      places = λ token. merged_all (map part_of v.slots) parts w.0 w.1.merging none token ∙ left_places v.slots token is.slots;
    };
    short = w.1.short;
    count = w.1.count;
    bytes = w.1.bytes;
  },
)

-- what is still to come of a term that was not written yet is all of it
next_places : (v : VersionContent) (parts : List PartContent) (count : ℕ) (bytes term addresses : List ℕ) → IsVersion v → Writes v parts count bytes → IsNext parts term addresses → addresses ≡ places (live_of v.slots) term
next_places v parts count bytes term addresses is w next =
    let before = all_before parts w.0 term next.member w.1.merging.after in
    next.all ∙ ap (λ l. l ++ postings_left parts term) (sym (before_missed w.0 term before)) ∙ w.1.merging.together term ∙ left_places v.slots term is.slots

placed_short : (n : ℕ) (words : List Word) (term : List ℕ) → AllByRecursion (λ (w : Word). length w.token < n) words → 0 < length (places words term) → length term < n
placed_short n [] term all some = absurd (omega arith)
placed_short n (w ∷ ws) term all some = elim (cases_Bool (bytes_eq w.token term)) [
  | inl h ↦ subst (λ t. length t < n) ((bytes_eq-Decides w.token term).0 h) all.0
  | inr h ↦ placed_short n ws term all.1 (rw h at some)
]

-- what the writer of a term asks for
pub record MayWrite (first : ℕ) (term addresses : List ℕ) : Type 0 where
  pub short : length term < 2 ^ 56
  pub rising : RiseWithin first (2 ^ 56) addresses

pub may_write : (v : VersionContent) (parts : List PartContent) (count : ℕ) (bytes term addresses : List ℕ) → IsVersion v → AllByRecursion (λ (w : Word). length w.token < 2 ^ 56) (live_of v.slots) →
    Writes v parts count bytes → IsNext parts term addresses → 0 < length addresses → MayWrite v.first term addresses
may_write v parts count bytes term addresses is short w next some =
    let list = next_places v parts count bytes term addresses is w next in
    let end = is.in_range in
    record {
      short = placed_short (2 ^ 56) (live_of v.slots) term short (subst (λ l. 0 < length l) list some);
      rising = subst (RiseWithin v.first (2 ^ 56)) (sym list)
          (rise_wider v.first v.first v.next (2 ^ 56) (places (live_of v.slots) term) (rising_places v.next v.first (live_of v.slots) term (live_of_rise v.first v.next v.slots is.apart is.slots)) (omega arith) end);
    }

-- one difference more
pub record IsPutNext (addresses : List ℕ) (i : ℕ) (more whole : List ℕ) : Type 0 where
  pub together : more ++ packed_from (get_or addresses i 0) (drop (i + 1) addresses) ≡ whole
  pub rising : RiseWithin (get_or addresses i 0) (2 ^ 56) (drop (i + 1) addresses)

pub put_next : (addresses : List ℕ) (i before : ℕ) (now more whole : List ℕ) → i < length addresses → now ++ packed_from before (drop i addresses) ≡ whole → RiseWithin before (2 ^ 56) (drop i addresses) →
    more ≡ now ++ spelling (get_or addresses i 0 - before) → IsPutNext addresses i more whole
put_next addresses i before now more whole lt together rising is =
    let p = get_or addresses i 0 in
    let ps = drop (i + 1) addresses in
    let rest : drop i addresses ≡ p ∷ ps = drop_more addresses i 0 lt in
    let rises : RiseWithin before (2 ^ 56) (p ∷ ps) = subst (RiseWithin before (2 ^ 56)) rest rising in
    record {
      together = ap (λ l. l ++ packed_from p ps) is ∙ append_assoc now (spelling (p - before)) (packed_from p ps) ∙ ap (λ l. now ++ packed_from before l) (sym rest) ∙ together;
      rising = rise_wider (p + 1) p (2 ^ 56) (2 ^ 56) ps rises.2 (omega arith) (omega arith);
    }

-- what was put one after the other is the image of the version's collection

abbrev written : VersionContent → List TermEntry → Fields
written v table = record { first = v.first; next = v.next; next_id = v.next_id; files = files_of v.slots; terms = table }

head_parts : (a b c d e : List ℕ) → a ++ b ++ c ++ d ++ e ≡ a ++ (b ++ c ++ d ++ e)
head_parts a b c d e = four a b c d e ∙ ap (λ l. a ++ l) (sym (three b c d e))

pub image_written : (v : VersionContent) (number : ℕ) (text out : List ℕ) (table : List TermEntry) → IsTextOf v number text table →
    out ≡ [] ++ mark Two ++ eight_bytes v.first ++ eight_bytes v.next ++ eight_bytes v.next_id ++ eight_bytes (length (files_of v.slots)) ++ short_files 0 v.first (files_of v.slots) ++ eight_bytes number ++ text →
    out ≡ image_bytes Two (written v table)
image_written v number text out table of is =
    is
    ∙ ap (λ l. l ++ short_files 0 v.first (files_of v.slots) ++ eight_bytes number ++ text) (head_parts (mark Two) (eight_bytes v.first) (eight_bytes v.next) (eight_bytes v.next_id) (eight_bytes (length (files_of v.slots))))
    ∙ ap (λ n. mark Two ++ head_bytes (written v table) ++ short_files 0 v.first (files_of v.slots) ++ eight_bytes n ++ text) of.count
    ∙ ap (λ t. mark Two ++ head_bytes (written v table) ++ short_files 0 v.first (files_of v.slots) ++ eight_bytes (length table) ++ t) of.bytes

pub image_spells : (v : VersionContent) (number : ℕ) (text out : List ℕ) → CanBeSaved v → IsTermText v number text →
    out ≡ [] ++ mark Two ++ eight_bytes v.first ++ eight_bytes v.next ++ eight_bytes v.next_id ++ eight_bytes (length (files_of v.slots)) ++ short_files 0 v.first (files_of v.slots) ++ eight_bytes number ++ text →
    (c : Collection) → StandsFor v c → Spells Two out (forgotten c)
image_spells v number text out can of is c stands =
    let same : can.0 ≡ c = stands_for_one v can.0 c can.1.stands stands in
    let sound : IsSound c = subst IsSound same can.1.sound in
    let fields : written v of.0 ≡ fields_of (forgotten c) of.0 = fields_is (written v of.0) (fields_of (forgotten c) of.0) stands.first stands.next stands.next_id stands.files refl in
    record {
      said = record { sound = forgotten_sound c sound; fresh = refl; in_range = sound.in_range };
      spelled = (
        of.0,
        record {
          terms = subst (λ ws. AreTermsOf ws of.0) stands.words of.1.terms;
          short = of.1.short;
          bytes = image_written v number text out of.0 of.1 is ∙ ap (image_bytes Two) fields;
        },
      );
    }

-- the files of a version that can be saved can be packed
pub saved_packs : (v : VersionContent) → CanBeSaved v → ArePacked 0 v.first (files_of v.slots)
saved_packs v can =
    subst (λ p. ArePacked 0 p (files_of v.slots)) (sym can.1.stands.first)
    (subst (ArePacked 0 can.0.first) (sym can.1.stands.files) (sound_packs can.0 can.1.sound))

pub saved_short : (v : VersionContent) → CanBeSaved v → AllByRecursion (λ (w : Word). length w.token < 2 ^ 56) (live_of v.slots)
saved_short v can = subst (AllByRecursion (λ (w : Word). length w.token < 2 ^ 56)) (sym can.1.stands.words) can.1.short
