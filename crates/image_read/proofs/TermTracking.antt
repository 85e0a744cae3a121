-- The terms that were read, and those that any image of the bytes still has.
use Rattle.std.proofs.Common.{◌≡◌, ℕ, ◌+◌, ◌-◌, ◌^◌, ◌<◌, ◌≤◌, Bool, true, false, ◌||◌, eqb, List, [], ◌∷◌, ◌++◌, length, flat_map, Option, Some, inl, inr, refl, sym, ap, ◌∙◌, subst, arith, length-append, le_refl}
use Rattle.std.specs.List.{AllByRecursion}
use Rattle.std.proofs.lemmas.Bool.{true≢false, cases_Bool, or_cases, or_left, or_right, eqb-true, eq-eqb, false_from_ne_true, or_parts}
use Rattle.std.proofs.lemmas.Cmp.{nat_list_cmp_total}
use Rattle.std.proofs.lemmas.List.{append_assoc, append-nil, flat_map_more}
use Rattle.std.proofs.lemmas.List.Folds.{list_any-append}
use Rattle.gcl_model.specs.Slots.{SlotRange}
use Rattle.gcl_model.proofs.Lists.{all_right, all_weaker}
use Rattle.posting_code.specs.Numbers.{spelling}
use Rattle.posting_code.specs.Packed.{packed_from}
use Rattle.posting_code.specs.Postings.{RiseWithin}
use Rattle.posting_code.proofs.Rising.{rise_wider}
use Rattle.index_shard.specs.Tables.{TermEntry, AreApart, ArePostingsIn, ComesBefore, has_address}
use Rattle.index_shard.proofs.TableLaws.{all_push, term_entry as entry}
use Rattle.address_space.specs.Runs.{FileEntry}
use Rattle.live_version.specs.Contents.{is_of_file, is_of_files}
use Rattle.live_version.proofs.ChangeFiles.{is_of_file-bounds}
use Rattle.image_file.specs.declared.format.Format.{Format}
use Rattle.image_file.specs.declared.format.Format.TheVariants.{One, Two}
use Rattle.image_file.specs.Fields.{eight_bytes, long_text, short_text, term_bytes}
use Rattle.image_file.specs.Images.{TermsRise}
use Rattle.image_file.proofs.Decoding.{CanWrite, long_text_same, short_text_same, term_same, three}
use Rattle.image_file.proofs.Writing.{rising_push}
use Rattle.image_read.specs.declared.places.Role.{Role}
use Rattle.image_read.specs.Reading.{AreAllEntries, AreEntries, AreTermBytes, FillRole, HasNoAddresses, HasNoTerms, IsAddressesFront, IsEntry, IsFixed, IsTextFront, SeenContent, SeesAll, TermsApart, count_bytes, is_covered, is_seen, role_in, role_of, text_bytes}
use Rattle.image_read.specs.Tables.{AreReadTerms, HasNoNextTerm, HasNoTerm, HoldsTerms, IsNextTerm, IsRangeOf, IsTermFront, MayFollow, PutsTerm, last_term}
use Rattle.image_read.proofs.Fronts.{eight_front}
use Rattle.image_read.proofs.AddressTracking.{role_of_files}

-- a term is a text, a number of addresses and their differences
pub term_parts : (format : Format) (first : ℕ) (e : TermEntry) (rest : List ℕ) →
    term_bytes format first e ++ rest ≡ text_bytes format e.term ++ (count_bytes format (length e.addresses) ++ (packed_from first e.addresses ++ rest))
term_parts One first e rest = three (long_text e.term) (eight_bytes (length e.addresses)) (packed_from first e.addresses) rest
term_parts Two first e rest = three (short_text e.term) (spelling (length e.addresses - 1)) (packed_from first e.addresses) rest

pub text_same : (format : Format) (whole t u r s : List ℕ) → IsTextFront format whole t r → IsTextFront format whole u s → (t ≡ u) × (r ≡ s)
text_same One whole t u r s a b = long_text_same t u r s a.short b.short (sym a.bytes ∙ b.bytes)
text_same Two whole t u r s a b = short_text_same t u r s a.short b.short (sym a.bytes ∙ b.bytes)

-- what holds of every address that a list has
all_members : (P : ℕ → Type 0) (ps : List ℕ) → ((p : ℕ) → has_address ps p ≡ true → P p) → AllByRecursion P ps
all_members P [] each = tt
all_members P (p ∷ ps) each =
    (each p (or_left (eqb p p) (has_address ps p) (eq-eqb p p refl)), all_members P ps (λ q has. each q (or_right (eqb p q) (has_address ps q) has)))

-- and what holds of all members holds of one
pub member_all : (P : ℕ → Type 0) (ps : List ℕ) (p : ℕ) → AllByRecursion P ps → has_address ps p ≡ true → P p
member_all P [] p all has = absurd cc
member_all P (q ∷ qs) p all has = elim (or_cases (eqb q p) (has_address qs p) has) [
  | inl h ↦ subst P (eqb-true q p h) all.0
  | inr h ↦ member_all P qs p all.1 h
]

-- an address of a term that is apart is under none of the others
uncovered : (table : List TermEntry) (addresses : List ℕ) (p : ℕ) → AllByRecursion (λ (d : TermEntry). AreApart d.addresses addresses) table → has_address addresses p ≡ true → is_covered table p ≡ false
uncovered [] addresses p apart has = refl
uncovered (d ∷ ds) addresses p apart has =
    let here : has_address d.addresses p ≡ false = false_from_ne_true (has_address d.addresses p) (λ h. true≢false (sym has ∙ apart.0 p h)) in
    rw here (uncovered ds addresses p apart.1 has)

-- and an address that is seen nowhere is of no other term
apart_from : (table : List TermEntry) (addresses : List ℕ) → ((p : ℕ) → has_address addresses p ≡ true → is_covered table p ≡ false) → AllByRecursion (λ (d : TermEntry). AreApart d.addresses addresses) table
apart_from [] addresses none = tt
apart_from (d ∷ ds) addresses none = (
  (λ p has. false_from_ne_true (has_address addresses p) (λ h. true≢false (sym (or_left (has_address d.addresses p) (is_covered ds p) has) ∙ none p h))),
  apart_from ds addresses (λ p h. (or_parts (has_address d.addresses p) (is_covered ds p) (none p h)).1),
)

-- the addresses of a term that may come next were seen nowhere
unseen_next : (format : Format) (first next : ℕ) (places : SeenContent) (table : List TermEntry) (e : TermEntry) → HoldsTerms format first next places table → IsEntry format first next places.files e →
    AllByRecursion (λ (d : TermEntry). AreApart d.addresses e.addresses) table → AllByRecursion (λ p. is_seen places p ≡ false) e.addresses
unseen_next format first next places table e holds entry apart =
    all_members (λ p. is_seen places p ≡ false) e.addresses
    (λ p has.
    holds.seen p (role_of_files places.files p (role_of e.term) (member_all (λ q. role_in places.files q ≡ Some (role_of e.term)) e.addresses p entry.fills.roles has))
    ∙ uncovered table e.addresses p apart has)

pub no_next_term : (format : Format) (first next : ℕ) (files : List FileEntry) (table : List TermEntry) (whole : List ℕ) → HasNoTerm format (last_term table) whole → HasNoNextTerm format first next files table whole
no_next_term format first next files table whole none e rest is =
    none e.term (role_of e.term) (count_bytes format (length e.addresses) ++ (packed_from first e.addresses ++ rest))
    record {
      text = record { short = is.entry.short; bytes = is.bytes ∙ term_parts format first e rest };
      role = record { role = refl; token = is.entry.token };
      follows = is.follows;
    }

pub no_next_addresses : (format : Format) (first next : ℕ) (places : SeenContent) (table : List TermEntry) (whole term : List ℕ) (role : Role) (behind : List ℕ) → HoldsTerms format first next places table →
    IsTermFront format (last_term table) whole term role behind → HasNoAddresses format first next places role behind → HasNoNextTerm format first next places.files table whole
no_next_addresses format first next places table whole term role behind holds front none e rest is =
    let left = count_bytes format (length e.addresses) ++ (packed_from first e.addresses ++ rest) in
    let same = text_same format whole term e.term behind left front.text record { short = is.entry.short; bytes = is.bytes ∙ term_parts format first e rest } in
    let roles : role_of e.term ≡ role = ap role_of (sym same.0) ∙ front.role.role in
    none e.addresses rest
    record {
      some = is.entry.some;
      fills = subst (λ r. FillRole first next places.files r e.addresses) roles is.entry.fills;
      unseen = unseen_next format first next places table e holds is.entry is.apart;
      bytes = same.1;
    }

-- all terms of a table come before one that may follow the last
before_all : (table : List TermEntry) (term : List ℕ) → TermsRise table → MayFollow (last_term table) term → AllByRecursion (λ (d : TermEntry). ComesBefore d.term term) table
before_all [] term rise follows = tt
before_all (d ∷ []) term rise follows = (follows, tt)
before_all (d ∷ e ∷ es) term rise follows =
    let rest = before_all (e ∷ es) term rise.1 follows in
    (nat_list_cmp_total.trans d.term e.term term rise.0.0 rest.0, rest)

apart_push : (table : List TermEntry) (e : TermEntry) → TermsApart table → AllByRecursion (λ (d : TermEntry). AreApart d.addresses e.addresses) table → TermsApart (table ++ e ∷ [])
apart_push [] e apart all = (tt, tt)
apart_push (d ∷ ds) e apart all = (all_push (λ (f : TermEntry). AreApart d.addresses f.addresses) ds e apart.0 all.0, apart_push ds e apart.1 all.1)

-- a term that was read is apart from those before it
pub read_apart : (format : Format) (first next : ℕ) (places : SeenContent) (table : List TermEntry) (role : Role) (whole addresses rest : List ℕ) → HoldsTerms format first next places table →
    IsAddressesFront format first next places role whole addresses rest → AllByRecursion (λ (d : TermEntry). AreApart d.addresses addresses) table
read_apart format first next places table role whole addresses rest holds is =
    apart_from table addresses
    (λ p has.
    sym (holds.seen p (role_of_files places.files p role (member_all (λ q. role_in places.files q ≡ Some role) addresses p is.fills.roles has)))
    ∙ member_all (λ q. is_seen places q ≡ false) addresses p is.unseen has)

pub read_entry : (format : Format) (first next : ℕ) (files : List FileEntry) (places : SeenContent) (last : Option (List ℕ)) (whole term : List ℕ) (role : Role) (behind addresses rest : List ℕ) → IsTermFront format last whole term role behind →
    IsAddressesFront format first next places role behind addresses rest → IsEntry format first next places.files (entry term addresses)
read_entry format first next files places last whole term role behind addresses rest front is = record {
  short = front.text.short;
  some = is.some;
  token = λ inner. front.role.token (sym front.role.role ∙ inner);
  fills = subst (λ r. FillRole first next places.files r addresses) (sym front.role.role) is.fills;
}

or_last : (a b : Bool) → (a || b) ≡ (b || (a || false))
or_last true true = refl
or_last true false = refl
or_last false true = refl
or_last false false = refl

pub holds_push : (format : Format) (first next : ℕ) (places after : SeenContent) (table : List TermEntry) (whole term : List ℕ) (role : Role) (behind addresses rest : List ℕ) → HoldsTerms format first next places table →
    IsTermFront format (last_term table) whole term role behind → IsAddressesFront format first next places role behind addresses rest → SeesAll places after addresses →
    HoldsTerms format first next after (table ++ entry term addresses ∷ [])
holds_push format first next places after table whole term role behind addresses rest holds front is sees =
    let e = entry term addresses in
    let read : IsEntry format first next places.files e = read_entry format first next places.files places (last_term table) whole term role behind addresses rest front is in
    let entries : AreEntries format first next places.files (table ++ e ∷ []) = record {
      rising = rising_push table e holds.entries.rising (before_all table term holds.entries.rising front.follows);
      apart = apart_push table e holds.entries.apart (read_apart format first next places table role behind addresses rest holds is);
      each = all_push (IsEntry format first next places.files) table e holds.entries.each read;
    } in
    record {
      entries = subst (λ fs. AreEntries format first next fs (table ++ e ∷ [])) (sym sees.files) entries;
      seen = λ q of.
          let here : is_of_files places.files q ≡ true = ap (λ fs. is_of_files fs q) (sym sees.files) ∙ of in
          sees.seen q here
          ∙ ap (λ b. has_address addresses q || b) (holds.seen q here)
          ∙ or_last (has_address addresses q) (is_covered table q)
          ∙ sym (list_any-append (λ (d : TermEntry). has_address d.addresses q) table (e ∷ []));
    }

-- the addresses lie in the range of the files

rise_below : (low end bound : ℕ) (ps : List ℕ) → RiseWithin low end ps → AllByRecursion (λ p. p < bound) ps → RiseWithin low bound ps
rise_below low end bound [] rise all = tt
rise_below low end bound (p ∷ ps) rise all = (rise.0, all.0, rise_below (p + 1) end bound ps rise.2 all.1)

rise_tight : (low end first bound : ℕ) (ps : List ℕ) → RiseWithin low end ps → AllByRecursion (λ p. (first ≤ p) × (p < bound)) ps → RiseWithin first bound ps
rise_tight low end first bound [] rise all = tt
rise_tight low end first bound (p ∷ ps) rise all =
    (all.0.0, all.0.1, rise_below (p + 1) end bound ps rise.2 (all_weaker (λ q. (first ≤ q) × (q < bound)) (λ q. q < bound) (λ q is. is.1) ps all.1))

in_range : (range : SlotRange) (files : List FileEntry) (p : ℕ) (role : Role) → IsRangeOf range files → role_in files p ≡ Some role → (range.first ≤ p) × (p < range.last + 1)
in_range range [] p role lie is = absurd cc
in_range range (file ∷ files) p role lie is = elim (cases_Bool (is_of_file p file)) [
  | inl h ↦
      let at = is_of_file-bounds p file h in
      let a : range.first ≤ file.base = lie.0.0 in
      let b : file.base + file.len ≤ range.last + 1 = lie.0.1 in
      let c : file.base ≤ p = at.0 in
      let d : p < file.base + file.len = at.1 in
      (omega arith, omega arith)
  | inr h ↦ in_range range files p role lie.1 (rw h at is)
]

pub read_postings : (format : Format) (first next : ℕ) (places : SeenContent) (range : SlotRange) (role : Role) (whole addresses rest : List ℕ) → IsRangeOf range places.files → IsAddressesFront format first next places role whole addresses rest →
    ArePostingsIn range addresses
read_postings format first next places range role whole addresses rest lie is = record {
  some = is.some;
  rising = rise_tight first next range.first (range.last + 1) addresses is.fills.rising
      (all_weaker (λ p. role_in places.files p ≡ Some role) (λ p. (range.first ≤ p) × (p < range.last + 1)) (λ p role_is. in_range range places.files p role lie role_is) addresses is.fills.roles);
}

-- what an image of the bytes has besides the terms that were read
pub record AreTermsLeft (format : Format) (first : ℕ) (table : List TermEntry) (rest : List ℕ) (all left : List TermEntry) : Type 0 where
  pub whole : all ≡ table ++ left
  pub bytes : rest ≡ flat_map (term_bytes format first) left

-- i terms were read
pub record AreTermsRead (format : Format) (first next number : ℕ) (start : List FileEntry) (whole : List ℕ) (i : ℕ) (table : List TermEntry) (places : SeenContent) (rest : List ℕ) : Type 0 where
  pub counted : length table ≡ i
  pub files : places.files ≡ start
  pub holds : HoldsTerms format first next places table
  pub bytes : whole ≡ flat_map (term_bytes format first) table ++ rest
  pub track : (all : List TermEntry) → AreTermBytes format first next number start whole all → (left : List TermEntry) × AreTermsLeft format first table rest all left

rising_last : (table : List TermEntry) (e : TermEntry) (es : List TermEntry) → TermsRise (table ++ e ∷ es) → MayFollow (last_term table) e.term
rising_last [] e es rise = tt
rising_last (d ∷ []) e es rise = rise.0.0
rising_last (d ∷ f ∷ table) e es rise = rising_last (f ∷ table) e es rise.1

apart_last : (table : List TermEntry) (e : TermEntry) (es : List TermEntry) → TermsApart (table ++ e ∷ es) → AllByRecursion (λ (d : TermEntry). AreApart d.addresses e.addresses) table
apart_last [] e es apart = tt
apart_last (d ∷ table) e es apart = ((all_right (λ (f : TermEntry). AreApart d.addresses f.addresses) table (e ∷ es) apart.0).0, apart_last table e es apart.1)

-- the term that an image of the bytes has next
pub record HasNextEntry (format : Format) (first next : ℕ) (start : List FileEntry) (table : List TermEntry) (rest : List ℕ) (all : List TermEntry) (e : TermEntry) (more : List TermEntry) : Type 0 where
  pub whole : all ≡ table ++ (e ∷ more)
  pub next_term : IsNextTerm format first next start table rest e (flat_map (term_bytes format first) more)

pub has_next_entry : (format : Format) (first next number : ℕ) (start : List FileEntry) (whole : List ℕ) (i : ℕ) (table : List TermEntry) (places : SeenContent) (rest : List ℕ) → i < number → AreTermsRead format first next number start whole i table places rest →
    (all : List TermEntry) → AreTermBytes format first next number start whole all → (e : TermEntry) × (more : List TermEntry) × HasNextEntry format first next start table rest all e more
has_next_entry format first next number start whole i table places rest lt read all is =
    let track = read.track all is in
    by_left track.0 track.1
  where
    by_left : (left : List TermEntry) → AreTermsLeft format first table rest all left → (e : TermEntry) × (more : List TermEntry) × HasNextEntry format first next start table rest all e more
    by_left [] left =
        let long = is.count in
        let same : length all ≡ length table = ap length (left.whole ∙ append-nil table) in
        let counted = read.counted in
        absurd (omega (arith, long, same, counted, lt))
    by_left (e ∷ more) left =
        let entries : AreEntries format first next start (table ++ e ∷ more) = subst (AreEntries format first next start) left.whole is.all.entries in (
          e,
          more,
          record {
            whole = left.whole;
            next_term = record {
              entry = (all_right (IsEntry format first next start) table (e ∷ more) entries.each).0;
              follows = rising_last table e more entries.rising;
              apart = apart_last table e more entries.apart;
              bytes = left.bytes;
            };
          },
        )

can_write : (format : Format) (first next : ℕ) (files : List FileEntry) (e : TermEntry) → next ≤ 2 ^ 56 → IsEntry format first next files e → CanWrite format first e
can_write format first next files e le is = record { short = is.short; some = is.some; rising = rise_wider first first next (2 ^ 56) e.addresses is.fills.rising (le_refl first) le }

pub terms_stop : (format : Format) (first next number : ℕ) (start : List FileEntry) (whole : List ℕ) (i : ℕ) (table : List TermEntry) (places : SeenContent) (rest : List ℕ) → i < number → AreTermsRead format first next number start whole i table places rest →
    HasNoNextTerm format first next places.files table rest → (all : List TermEntry) → AreTermBytes format first next number start whole all → ⊥
terms_stop format first next number start whole i table places rest lt read none all is =
    let has = has_next_entry format first next number start whole i table places rest lt read all is in
    none has.0 (flat_map (term_bytes format first) has.1) (subst (λ fs. IsNextTerm format first next fs table rest has.0 (flat_map (term_bytes format first) has.1)) (sym read.files) has.2.next_term)

pub terms_step : (format : Format) (first next number : ℕ) (start : List FileEntry) (whole : List ℕ) (i : ℕ) (table : List TermEntry) (places after : SeenContent) (rest : List ℕ) (e : TermEntry) (behind : List ℕ) → next ≤ 2 ^ 56 → i < number →
    AreTermsRead format first next number start whole i table places rest → rest ≡ term_bytes format first e ++ behind → after.files ≡ places.files → HoldsTerms format first next after (table ++ e ∷ []) →
    AreTermsRead format first next number start whole (i + 1) (table ++ e ∷ []) after behind
terms_step format first next number start whole i table places after rest e behind le lt read at same holds =
    let counted = read.counted in
    let mine : IsEntry format first next after.files e = (all_right (IsEntry format first next after.files) table (e ∷ []) holds.entries.each).0 in
    record {
      counted = omega (arith, counted, length-append table (e ∷ []));
      files = same ∙ read.files;
      holds = holds;
      bytes =
          read.bytes ∙ ap (λ l. flat_map (term_bytes format first) table ++ l) at ∙ sym (append_assoc (flat_map (term_bytes format first) table) (term_bytes format first e) behind)
          ∙ ap (λ l. l ++ behind) (flat_map_more (term_bytes format first) [] table e);
      track = λ all is.
          let has = has_next_entry format first next number start whole i table places rest lt read all is in
          let other = has.0 in
          let more = has.1 in
          let both =
          term_same format first e other behind (flat_map (term_bytes format first) more) (can_write format first next after.files e le mine) (can_write format first next start other le has.2.next_term.entry)
          (sym at ∙ has.2.next_term.bytes) in (
            more,
            record {
              whole = has.2.whole ∙ ap (λ (d : TermEntry). table ++ (d ∷ more)) (sym both.0) ∙ sym (append_assoc table (e ∷ []) more);
              bytes = both.1;
            },
          );
    }

-- the term that was read, and what it makes of the table
pub term_put : (format : Format) (first next : ℕ) (places : SeenContent) (table after : List TermEntry) (whole term : List ℕ) (role : Role) (behind addresses rest : List ℕ) → IsTermFront format (last_term table) whole term role behind →
    IsAddressesFront format first next places role behind addresses rest → after ≡ table ++ entry term addresses ∷ [] → PutsTerm format first table after whole term rest
term_put format first next places table after whole term role behind addresses rest front is put = (
  entry term addresses,
  record { table = put; text = refl; bytes = front.text.bytes ∙ ap (λ l. text_bytes format term ++ l) is.bytes ∙ sym (term_parts format first (entry term addresses) rest) },
)

last_more : (table : List TermEntry) (e : TermEntry) → last_term (table ++ e ∷ []) ≡ Some e.term
last_more [] e = refl
last_more (d ∷ []) e = refl
last_more (d ∷ f ∷ table) e = last_more (f ∷ table) e

-- the last term of the table is the one that was put
pub last_put : (format : Format) (first : ℕ) (before after : List TermEntry) (whole term rest : List ℕ) → PutsTerm format first before after whole term rest → Some term ≡ last_term after
last_put format first before after whole term rest put = ap (λ t. Some t) (sym put.1.text) ∙ sym (last_more before put.0) ∙ ap last_term (sym put.1.table)

-- if no table has this many terms, the bytes are those of none
pub terms_none : (format : Format) (first next : ℕ) (files : List FileEntry) (whole : List ℕ) (number : ℕ) (behind : List ℕ) → IsFixed 8 whole number behind → ((all : List TermEntry) → AreTermBytes format first next number files behind all → ⊥) → HasNoTerms format first next files whole
terms_none format first next files whole number behind count none terms few rest at are =
    let same = eight_front whole behind rest number (length terms) count few at in
    none terms (subst (λ n. AreTermBytes format first next n files behind terms) (sym same.0) (subst (λ l. AreTermBytes format first next (length terms) files l terms) (sym same.1) are))

pub terms_read : (format : Format) (first next : ℕ) (files : List FileEntry) (whole : List ℕ) (number : ℕ) (behind : List ℕ) (table : List TermEntry) → IsFixed 8 whole number behind → AreTermBytes format first next number files behind table → AreReadTerms format first next files whole table
terms_read format first next files whole number behind table count are =
    let small = count.small in
    let same = are.count in
    record {
      few = omega (arith, small, same);
      terms = (behind, count.bytes ∙ ap (λ n. eight_bytes n ++ behind) (sym are.count), record { all = are.all; count = refl; bytes = are.bytes });
    }

-- the same, if the new values were computed otherwise
pub terms_step_as : (format : Format) (first next number : ℕ) (start : List FileEntry) (whole : List ℕ) (i : ℕ) (table more : List TermEntry) (places after : SeenContent) (rest term behind : List ℕ) → next ≤ 2 ^ 56 → i < number →
    AreTermsRead format first next number start whole i table places rest → PutsTerm format first table more rest term behind → after.files ≡ places.files → HoldsTerms format first next after more →
    AreTermsRead format first next number start whole (i + 1) more after behind
terms_step_as format first next number start whole i table more places after rest term behind le lt read put same holds =
    let e = put.0 in
    subst (λ es. AreTermsRead format first next number start whole (i + 1) es after behind) (sym put.1.table)
    (terms_step format first next number start whole i table places after rest e behind le lt read put.1.bytes same (subst (HoldsTerms format first next after) put.1.table holds))

none_more : (table left : List TermEntry) (n : ℕ) → length (table ++ left) ≡ n → length table ≡ n → left ≡ []
none_more table [] n long counted = refl
none_more table (e ∷ left) n long counted = absurd (omega (arith, long, counted, length-append table (e ∷ left)))

-- at the end an image of the bytes has these terms and no byte after them
pub terms_are : (format : Format) (first next number : ℕ) (start : List FileEntry) (whole : List ℕ) (i : ℕ) (table : List TermEntry) (places : SeenContent) (rest : List ℕ) → i ≡ number → AreTermsRead format first next number start whole i table places rest →
    (all : List TermEntry) → AreTermBytes format first next number start whole all → (all ≡ table) × (rest ≡ [])
terms_are format first next number start whole i table places rest done read all is =
    let track = read.track all is in
    let none : track.0 ≡ [] = none_more table track.0 number (ap length (sym track.1.whole) ∙ is.count) (read.counted ∙ done) in
    (track.1.whole ∙ ap (λ l. table ++ l) none ∙ append-nil table, track.1.bytes ∙ ap (flat_map (term_bytes format first)) none)

pub terms_end : (format : Format) (first next number : ℕ) (start : List FileEntry) (whole : List ℕ) (i : ℕ) (table : List TermEntry) (places : SeenContent) (rest : List ℕ) → i ≡ number → AreTermsRead format first next number start whole i table places rest →
    rest ≡ [] → ((p : ℕ) → is_of_files places.files p ≡ true → is_seen places p ≡ true) → AreTermBytes format first next number start whole table
terms_end format first next number start whole i table places rest done read none full = record {
  all = subst (λ fs. AreAllEntries format first next fs table) read.files record { entries = read.holds.entries; covered = λ p of. sym (read.holds.seen p of) ∙ full p of };
  count = read.counted ∙ done;
  bytes = read.bytes ∙ ap (λ l. flat_map (term_bytes format first) table ++ l) none ∙ append-nil (flat_map (term_bytes format first) table);
}

-- and each place was seen
pub terms_full : (format : Format) (first next number : ℕ) (start : List FileEntry) (whole : List ℕ) (i : ℕ) (table : List TermEntry) (places : SeenContent) (rest : List ℕ) → i ≡ number → AreTermsRead format first next number start whole i table places rest →
    (all : List TermEntry) → AreTermBytes format first next number start whole all → (p : ℕ) → is_of_files places.files p ≡ true → is_seen places p ≡ true
terms_full format first next number start whole i table places rest done read all is p of =
    let same = (terms_are format first next number start whole i table places rest done read all is).0 in
    read.holds.seen p of ∙ ap (λ es. is_covered es p) (sym same) ∙ is.all.covered p (ap (λ fs. is_of_files fs p) (sym read.files) ∙ of)
