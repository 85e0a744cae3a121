-- What an image says of a sound collection.
use Rattle.std.proofs.Common.{◌≡◌, ℕ, ◌+◌, ◌<◌, ◌≤◌, Bool, true, false, eqb, bytes_eq, List, [], ◌∷◌, ◌++◌, length, map, flat_map, get_or, Some, inl, inr, refl, sym, ap, ◌∙◌, subst, arith, length-append}
use Rattle.std.specs.List.{AllByRecursion, list_any}
use Rattle.std.proofs.lemmas.Bool.{true≢false, cases_Bool, or_cases, or_left, or_right, eqb-false, eq-eqb, ne_eqb}
use Rattle.std.proofs.lemmas.List.Folds.{list_any-append}
use Rattle.std.proofs.lemmas.Slice.Eq.{bytes_eq-Decides}
use Rattle.std.proofs.Math.Nat.{ne_of_lt}
use Rattle.gcl_model.specs.Texts.{Word, places, AreRisingBelow}
use Rattle.gcl_model.specs.Collections.{Collection, File, AreFilesFrom, IsToken, file_start, file_end, with_boundaries, words_from, words_of, width_of}
use Rattle.gcl_model.proofs.Lists.{all_append, all_weaker}
use Rattle.posting_code.specs.Postings.{RiseWithin}
use Rattle.address_space.specs.Runs.{FileEntry}
use Rattle.address_space.proofs.CollectionLemmas.{up_to}
use Rattle.address_space.proofs.WordLemmas.{words_are_text}
use Rattle.index_shard.specs.Tables.{TermEntry, AreApart, has_address, postings_of}
use Rattle.index_shard.proofs.ShardWords.{rising_places, rising_apart}
use Rattle.slot_terms.proofs.Passing.{AllAfter, before_differs}
use Rattle.live_version.specs.Contents.{is_of_file, is_of_files}
use Rattle.live_version.specs.StandsFor.{entry_of}
use Rattle.live_version.proofs.ChangeFiles.{is_of_file-inside, is_of_file-bounds, is_of_file-behind}
use Rattle.image_file.specs.declared.format.Format.{Format}
use Rattle.image_file.specs.Images.{AreTermsOf, CanBeSaid, SpellsWith, TermsRise, AreShort}
use Rattle.image_file.proofs.TermTables.{own_postings}
use Rattle.image_read.specs.declared.places.Role.TheVariants.{Start, Inner, End}
use Rattle.image_read.specs.Reading.{AreAllEntries, AreAllFiles, IsEntry, TermsApart, is_covered, role_in, role_of, role_of_file}

-- the records of a sound collection fill it
pub all_files : (c : Collection) (at id : ℕ) (files : List File) → AreFilesFrom c at id files → AreAllFiles c.next c.next_id id at (map entry_of files)
all_files c at id [] h = (h.0, h.1, h.2)
all_files c at id (file ∷ files) h =
    let up = up_to c (file.base + width_of file.tokens) (file.id + 1) files h.5 in
    let small : file.id + 1 ≤ c.next_id = up.number in (
      record { id = h.1; small = omega arith; base = h.0; len = omega arith; end = up.address; hole = h.2; named = h.3 },
      all_files c (file.base + width_of file.tokens) (file.id + 1) files h.5,
    )

pub role_here : (p : ℕ) (file : FileEntry) (files : List FileEntry) → is_of_file p file ≡ true → role_in (file ∷ files) p ≡ Some (role_of_file p file)
role_here p file files is = rw is refl

pub role_later : (p : ℕ) (file : FileEntry) (files : List FileEntry) → is_of_file p file ≡ false → role_in (file ∷ files) p ≡ role_in files p
role_later p file files is = rw is refl

-- a token is none of the boundary
pub start_is_no_token : IsToken file_start → ⊥
start_is_no_token is = ne_of_lt {a = 33} {b = 62} (omega arith) (sym (ap (λ ts. get_or (get_or ts 0 []) 5 0) is))

pub end_is_no_token : IsToken file_end → ⊥
end_is_no_token is = ne_of_lt {a = 33} {b = 62} (omega arith) (sym (ap (λ ts. get_or (get_or ts 0 []) 6 0) is))

pub role_of-token : (t : List ℕ) → IsToken t → role_of t ≡ Inner
role_of-token t is = elim (cases_Bool (bytes_eq t file_start)) [
  | inl h ↦ absurd (start_is_no_token (subst IsToken ((bytes_eq-Decides t file_start).0 h) is))
  | inr h ↦ elim (cases_Bool (bytes_eq t file_end)) [
    | inl g ↦ absurd (end_is_no_token (subst IsToken ((bytes_eq-Decides t file_end).0 g) is))
    | inr g ↦ rw (h, g) refl
  ]
]

-- what a word at an address of some files is
pub record IsWordOf (files : List FileEntry) (at p : ℕ) (word : List ℕ) : Type 0 where
  pub from : at ≤ p
  pub role : role_in files p ≡ Some (role_of word)
  pub token : role_of word ≡ Inner → IsToken word

abbrev AreWordsOf : List FileEntry → ℕ → List Word → Type 0
AreWordsOf files at words = AllByRecursion (λ (w : Word). IsWordOf files at w.address w.token) words

pub role-first : (file : FileEntry) → role_of_file file.base file ≡ Start
role-first file = rw (eq-eqb file.base file.base refl) refl

pub role-last : (p : ℕ) (file : FileEntry) → (file.base ≡ p → ⊥) → p + 1 ≡ file.base + file.len → role_of_file p file ≡ End
role-last p file other is = rw (ne_eqb p file.base (λ e. other (sym e)), eq-eqb (p + 1) (file.base + file.len) is) refl

pub role-inner : (p : ℕ) (file : FileEntry) → (file.base ≡ p → ⊥) → (p + 1 ≡ file.base + file.len → ⊥) → role_of_file p file ≡ Inner
role-inner p file other not_last = rw (ne_eqb p file.base (λ e. other (sym e)), ne_eqb (p + 1) (file.base + file.len) not_last) refl

inner_words : (file : FileEntry) (files : List FileEntry) (at p : ℕ) (tokens : List (List ℕ)) → at ≤ file.base → file.base < p → p + length tokens + 1 ≡ file.base + file.len → AllByRecursion IsToken tokens →
    AreWordsOf (file ∷ files) at (words_from p (tokens ++ file_end ∷ []))
inner_words file files at p [] from lt is all =
    let here = is_of_file-inside p file (omega arith) (omega arith) in (
      record {
        from = omega arith;
        role = role_here p file files here ∙ ap (λ r. Some r) (role-last p file (λ e. omega arith) (omega arith));
        token = λ e. absurd cc;
      },
      tt,
    )
inner_words file files at p (t ∷ ts) from lt is all =
    let here = is_of_file-inside p file (omega arith) (omega arith) in (
      record {
        from = omega arith;
        role = role_here p file files here ∙ ap (λ r. Some r) (role-inner p file (λ e. omega arith) (λ e. omega arith) ∙ sym (role_of-token t all.0));
        token = λ e. all.0;
      },
      inner_words file files at (p + 1) ts from (omega arith) (omega arith) all.1,
    )

later_words : (file : FileEntry) (files : List FileEntry) (at : ℕ) (words : List Word) → at ≤ file.base → AreWordsOf files (file.base + file.len) words → AreWordsOf (file ∷ files) at words
later_words file files at words from all =
    all_weaker (λ (w : Word). IsWordOf files (file.base + file.len) w.address w.token) (λ (w : Word). IsWordOf (file ∷ files) at w.address w.token)
    (λ w is. let le : file.base + file.len ≤ w.address = is.from in record { from = omega arith; role = role_later w.address file files (is_of_file-behind w.address file le) ∙ is.role; token = is.token }) words all

pub collection_words : (c : Collection) (at id : ℕ) (files : List File) → AreFilesFrom c at id files →
    AreWordsOf (map entry_of files) at (flat_map (λ (f : File). words_from f.base (with_boundaries f.tokens)) files)
collection_words c at id [] h = tt
collection_words c at id (file ∷ files) h =
    let rest = collection_words c (file.base + width_of file.tokens) (file.id + 1) files h.5 in
    let e = entry_of file in
    let first : IsWordOf (e ∷ map entry_of files) at file.base file_start = record {
      from = h.0;
      role = role_here file.base e (map entry_of files) (is_of_file-inside file.base e (omega arith) (omega arith)) ∙ ap (λ r. Some r) (role-first e);
      token = λ is. absurd cc;
    } in
    all_append (λ (w : Word). IsWordOf (e ∷ map entry_of files) at w.address w.token) (words_from file.base (with_boundaries file.tokens)) (flat_map (λ (f : File). words_from f.base (with_boundaries f.tokens)) files)
    (first, inner_words e (map entry_of files) at (file.base + 1) file.tokens h.0 (omega arith) (omega arith) h.4)
    (later_words e (map entry_of files) at (flat_map (λ (f : File). words_from f.base (with_boundaries f.tokens)) files) h.0 rest)

-- what holds of each word holds of each place of a token
pub places_all : (P : ℕ → List ℕ → Type 0) (words : List Word) (t : List ℕ) → AllByRecursion (λ (w : Word). P w.address w.token) words → AllByRecursion (λ p. P p t) (places words t)
places_all P [] t all = tt
places_all P (w ∷ ws) t all = elim (cases_Bool (bytes_eq w.token t)) [
  | inl h ↦ rw h (subst (P w.address) ((bytes_eq-Decides w.token t).0 h) all.0, places_all P ws t all.1)
  | inr h ↦ rw h (places_all P ws t all.1)
]

first_of : (P : ℕ → Type 0) (ps : List ℕ) → 0 < length ps → AllByRecursion P ps → (p : ℕ) × P p
first_of P [] some all = absurd (omega arith)
first_of P (p ∷ ps) some all = (p, all.0)

each_entry : (format : Format) (first next : ℕ) (files : List FileEntry) (words : List Word) (es terms : List TermEntry) → AreWordsOf files first words → AreRisingBelow next first words → AreTermsOf words terms →
    AllByRecursion (λ (e : TermEntry). postings_of terms e.term ≡ e.addresses) es → AllByRecursion (λ (e : TermEntry). 0 < length e.addresses) es → AreShort format es → AllByRecursion (IsEntry format first next files) es
each_entry format first next files words [] terms all rising is own some short = tt
each_entry format first next files words (e ∷ es) terms all rising is own some short =
    let list : places words e.term ≡ e.addresses = sym (is.places e.term) ∙ own.0 in
    let facts : AllByRecursion (λ p. IsWordOf files first p e.term) e.addresses = subst (AllByRecursion (λ p. IsWordOf files first p e.term)) list (places_all (IsWordOf files first) words e.term all) in
    let one = first_of (λ p. IsWordOf files first p e.term) e.addresses some.0 facts in (
      record {
        short = short.0;
        some = some.0;
        token = one.1.token;
        fills = record {
          rising = subst (RiseWithin first next) list (rising_places next first words e.term rising);
          roles = all_weaker (λ p. IsWordOf files first p e.term) (λ p. role_in files p ≡ Some (role_of e.term)) (λ p w. w.role) e.addresses facts;
        };
      },
      each_entry format first next files words es terms all rising is own.1 some.1 short.1,
    )

apart_later : (next first : ℕ) (words : List Word) (e : TermEntry) (es : List TermEntry) → AreRisingBelow next first words → places words e.term ≡ e.addresses → AllAfter e.term es →
    AllByRecursion (λ (d : TermEntry). places words d.term ≡ d.addresses) es → AllByRecursion (λ (d : TermEntry). AreApart e.addresses d.addresses) es
apart_later next first words e [] rising mine after own = tt
apart_later next first words e (d ∷ ds) rising mine after own =
    let other : e.term ≡ d.term → ⊥ = λ same. true≢false (sym ((bytes_eq-Decides e.term d.term).1 same) ∙ before_differs e.term d.term after.0) in
    let apart = rising_apart next first words e.term d.term rising other in
    (subst (λ l. AreApart l d.addresses) mine (subst (AreApart (places words e.term)) own.0 apart), apart_later next first words e ds rising mine after.1 own.1)

pub terms_apart : (next first : ℕ) (words : List Word) (es : List TermEntry) → AreRisingBelow next first words → TermsRise es → AllByRecursion (λ (d : TermEntry). places words d.term ≡ d.addresses) es → TermsApart es
terms_apart next first words [] rising rise own = tt
terms_apart next first words (e ∷ es) rising rise own = (apart_later next first words e es rising own.0 rise.0 own.1, terms_apart next first words es rising rise.1 own.1)

-- an address of a file has a word, and the word's address is under a term
abbrev has_word : List Word → ℕ → Bool
has_word words p = list_any (λ (w : Word). eqb w.address p) words

word_from : (base p : ℕ) (tokens : List (List ℕ)) → base ≤ p → p < base + length tokens → has_word (words_from base tokens) p ≡ true
word_from base p [] le lt = absurd (omega arith)
word_from base p (t ∷ ts) le lt = elim (cases_Bool (eqb base p)) [
  | inl h ↦ or_left (eqb base p) (has_word (words_from (base + 1) ts) p) h
  | inr h ↦ or_right (eqb base p) (has_word (words_from (base + 1) ts) p) (word_from (base + 1) p ts (omega (arith, eqb-false base p h)) (omega arith))
]

pub words_cover : (files : List File) (p : ℕ) → is_of_files (map entry_of files) p ≡ true → has_word (flat_map (λ (f : File). words_from f.base (with_boundaries f.tokens)) files) p ≡ true
words_cover [] p is = absurd cc
words_cover (file ∷ files) p is =
    let here = words_from file.base (with_boundaries file.tokens) in
    let rest = flat_map (λ (f : File). words_from f.base (with_boundaries f.tokens)) files in
    list_any-append (λ (w : Word). eqb w.address p) here rest ∙ (elim (or_cases (is_of_file p (entry_of file)) (is_of_files (map entry_of files) p) is) [
      | inl h ↦
          let at = is_of_file-bounds p (entry_of file) h in
          or_left (has_word here p) (has_word rest p) (word_from file.base p (with_boundaries file.tokens) at.0 (omega (arith, at.1, length-append file.tokens (file_end ∷ []))))
      | inr h ↦ or_right (has_word here p) (has_word rest p) (words_cover files p h)
    ])

word_placed : (words : List Word) (p : ℕ) → has_word words p ≡ true → (t : List ℕ) × (has_address (places words t) p ≡ true)
word_placed [] p is = absurd cc
word_placed (w ∷ ws) p is = elim (or_cases (eqb w.address p) (has_word ws p) is) [
  | inl h ↦ (w.token, rw ((bytes_eq-Decides w.token w.token).1 refl) (or_left (eqb w.address p) (has_address (places ws w.token) p) h))
  | inr h ↦
      let later = word_placed ws p h in (
        later.0,
        elim (cases_Bool (bytes_eq w.token later.0)) [
          | inl g ↦ rw g (or_right (eqb w.address p) (has_address (places ws later.0) p) later.1)
          | inr g ↦ rw g later.1
        ],
      )
]

pub postings_covered : (terms : List TermEntry) (t : List ℕ) (p : ℕ) → has_address (postings_of terms t) p ≡ true → is_covered terms p ≡ true
postings_covered [] t p has = absurd cc
postings_covered (e ∷ es) t p has = elim (cases_Bool (bytes_eq e.term t)) [
  | inl h ↦ or_left (has_address e.addresses p) (is_covered es p) (rw h at has)
  | inr h ↦ or_right (has_address e.addresses p) (is_covered es p) (postings_covered es t p (rw h at has))
]

pub all_entries : (format : Format) (bytes : List ℕ) (c : Collection) (terms : List TermEntry) → CanBeSaid format c → SpellsWith format bytes c terms → AreAllEntries format c.first c.next (map entry_of c.files) terms
all_entries format bytes c terms said s =
    let sound = said.sound in
    let text = words_are_text c sound in
    let words = collection_words c c.first 0 c.files sound.files in
    let own = own_postings terms s.terms.rising in
    let mine : AllByRecursion (λ (d : TermEntry). places (words_of c) d.term ≡ d.addresses) terms =
    all_weaker (λ (d : TermEntry). postings_of terms d.term ≡ d.addresses) (λ (d : TermEntry). places (words_of c) d.term ≡ d.addresses) (λ d is. sym (s.terms.places d.term) ∙ is) terms own in
    record {
      entries = record {
        rising = s.terms.rising;
        apart = terms_apart c.next c.first (words_of c) terms text.rising s.terms.rising mine;
        each = each_entry format c.first c.next (map entry_of c.files) (words_of c) terms terms words text.rising s.terms own s.terms.some s.short;
      };
      covered = λ p is.
          let placed = word_placed (words_of c) p (words_cover c.files p is) in
          postings_covered terms placed.0 p (ap (λ l. has_address l p) (s.terms.places placed.0) ∙ placed.1);
    }
