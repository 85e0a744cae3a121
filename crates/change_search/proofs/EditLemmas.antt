-- What an added file leaves as it was, and what a deleted one does.
use Rattle.std.proofs.Common.{◌≡◌, ℕ, ◌+◌, ◌-◌, ◌<◌, ◌≤◌, Bool, true, false, not, ◌&&◌, ◌||◌, leb, eqb, cond, List, [], ◌∷◌, ◌++◌, length, map, filter, flat_map, bytes_eq, Some, ◌⊎◌, inl, inr, refl, sym, ap, ◌∙◌, subst, arith, length-append}
use Rattle.std.specs.List.{AllByRecursion}
use Rattle.std.proofs.lemmas.Bool.{true≢false, cases_Bool, and_left, or_from, eqb-true, eq-eqb, ne_eqb, lt-ltb, le-ltb}
use Rattle.std.proofs.lemmas.Grind.{flat_map-append}
use Rattle.std.proofs.lemmas.List.Folds.{list_any-append}
use Rattle.gcl_model.specs.Collections.{Collection, File, file_end, text_of, words_from, width_of, with_boundaries, with_file, without_file, AreFilesFrom, IsSound}
use Rattle.gcl_model.specs.Texts.{Text, Word, holds, is_word}
use Rattle.gcl_model.proofs.Lists.{all_weaker}
use Rattle.address_space.specs.Runs.{FileEntry}
use Rattle.live_version.specs.Changes.{file_with_id}
use Rattle.live_version.specs.Contents.{VersionContent, files_of, live_of, version_text}
use Rattle.live_version.specs.StandsFor.{StandsFor, entry_of}
use Rattle.gcl_locality.specs.Agreement.{AgreeOutside}

-- p is none of the given number of addresses starting at base
abbrev IsOutside : ℕ → ℕ → ℕ → Type 0
IsOutside base count p = (p < base) ⊎ (base + count ≤ p)

-- no token is there in a file with these addresses
none_outside : (list : List (List ℕ)) (base p : ℕ) (token : List ℕ) → IsOutside base (length list) p → holds (words_from base list) token p ≡ false
none_outside [] base p token out = refl
none_outside (t ∷ list) base p token out =
    let other : (base ≡ p → ⊥) = λ e. elim out [ inl lt ↦ omega arith | inr ge ↦ omega arith ] in
    let later : IsOutside (base + 1) (length list) p = elim out [ inl lt ↦ inl (omega arith) | inr ge ↦ inr (omega arith) ] in
    or_from ((eqb base p) && bytes_eq t token) (holds (words_from (base + 1) list) token p) (and_left (eqb base p) (bytes_eq t token) (ne_eqb base p other)) (none_outside list (base + 1) p token later)

abbrev words : File → List Word
words file = words_from file.base (with_boundaries file.tokens)

wide_as : (tokens : List (List ℕ)) → length (with_boundaries tokens) ≡ width_of tokens
wide_as tokens = let count = length-append tokens (file_end ∷ []) in omega arith

none_in_file : (file : File) (p : ℕ) (token : List ℕ) → IsOutside file.base (width_of file.tokens) p → holds (words file) token p ≡ false
none_in_file file p token out = none_outside (with_boundaries file.tokens) file.base p token (subst (λ n. IsOutside file.base n p) (sym (wide_as file.tokens)) out)

or_false : (b : Bool) → (b || false) ≡ b
or_false true = refl
or_false false = refl

held_by_both : (xs ys : List File) (token : List ℕ) (p : ℕ) → holds (flat_map words (xs ++ ys)) token p ≡ (holds (flat_map words xs) token p || holds (flat_map words ys) token p)
held_by_both xs ys token p = ap (λ l. holds l token p) (flat_map-append words xs ys) ∙ list_any-append (is_word token p) (flat_map words xs) (flat_map words ys)

held_by_first : (x : File) (xs : List File) (token : List ℕ) (p : ℕ) → holds (flat_map words (x ∷ xs)) token p ≡ (holds (words x) token p || holds (flat_map words xs) token p)
held_by_first x xs token p = list_any-append (is_word token p) (words x) (flat_map words xs)

-- a file that is added changes nothing outside of its addresses
added_agree : (c : Collection) (name : List ℕ) (tokens : List (List ℕ)) → AgreeOutside (text_of c) (text_of (with_file c name tokens)) c.next (c.next + length tokens + 1)
added_agree c name tokens p out =
    let file : File = record { id = c.next_id; name = name; base = c.next; tokens = tokens } in
    let outside : IsOutside c.next (width_of tokens) p = elim out [ inl lt ↦ inl lt | inr ge ↦ inr (omega arith) ] in
    record {
      address = ap (λ b. leb c.first p && b) (elim out [
        | inl lt ↦ lt-ltb p c.next lt ∙ sym (lt-ltb p (c.next + width_of tokens) (omega arith))
        | inr ge ↦ le-ltb p c.next (omega arith) ∙ sym (le-ltb p (c.next + width_of tokens) (omega arith))
      ]);
      words = λ token.
          sym (held_by_both c.files (file ∷ []) token p
          ∙ ap (λ b. holds (flat_map words c.files) token p || b) (held_by_first file [] token p ∙ ap (λ b. b || false) (none_in_file file p token outside))
          ∙ or_false (holds (flat_map words c.files) token p));
    }

-- the addresses of each file with this id lie between these two
abbrev LieBetween : List File → (id from upto : ℕ) → Type 0
LieBetween files id from upto = AllByRecursion (λ (f : File). f.id ≡ id → (from ≤ f.base) × (f.base + length f.tokens + 1 ≤ upto)) files

held_after : (files : List File) (id from upto p : ℕ) (token : List ℕ) → LieBetween files id from upto → (p < from) ⊎ (upto < p)
    → holds (flat_map words files) token p ≡ holds (flat_map words (filter (λ f. not (eqb f.id id)) files)) token p
held_after [] id from upto p token between out = refl
held_after (f ∷ files) id from upto p token between out =
    let rest = held_after files id from upto p token between.1 out in
    elim (cases_Bool (eqb f.id id)) [
      | inl t ↦
          let place = between.0 (eqb-true f.id id t) in
          let low = place.0 in
          let high = place.1 in
          let outside : IsOutside f.base (width_of f.tokens) p = elim out [ inl lt ↦ inl (omega arith) | inr gt ↦ inr (omega arith) ] in
          held_by_first f files token p ∙ ap (λ b. b || holds (flat_map words files) token p) (none_in_file f p token outside) ∙ rest
          ∙ sym (ap (λ b. holds (flat_map words (cond (not b) (f ∷ filter (λ g. not (eqb g.id id)) files) (filter (λ g. not (eqb g.id id)) files))) token p) t)
      | inr n ↦
          held_by_first f files token p ∙ ap (λ b. holds (words f) token p || b) rest
          ∙ sym (ap (λ b. holds (flat_map words (cond (not b) (f ∷ filter (λ g. not (eqb g.id id)) files) (filter (λ g. not (eqb g.id id)) files))) token p) n
          ∙ held_by_first f (filter (λ g. not (eqb g.id id)) files) token p)
    ]

-- the ids of later files are greater
ids_from : (c : Collection) (at low : ℕ) (files : List File) → AreFilesFrom c at low files → AllByRecursion (λ (f : File). low ≤ f.id) files
ids_from c at low [] sound = tt
ids_from c at low (f ∷ files) sound =
    let least : low ≤ f.id = sound.1 in
    let later = ids_from c (f.base + width_of f.tokens) (f.id + 1) files sound.5 in
    (least, all_weaker (λ (g : File). f.id + 1 ≤ g.id) (λ (g : File). low ≤ g.id) (λ g ge. omega arith) files later)

-- so the addresses of a file of a sound collection are those of all files with its id
lies_alone : (c : Collection) (at low : ℕ) (files : List File) → AreFilesFrom c at low files → (id : ℕ) (entry : FileEntry) → file_with_id id (map entry_of files) ≡ Some entry
    → LieBetween files id entry.base (entry.base + entry.len - 1)
lies_alone c at low [] sound id entry found = absurd cc
lies_alone c at low (f ∷ files) sound id entry found =
    elim (cases_Bool (eqb f.id id)) [
      | inl t ↦
          let h = rw t at found in
          let same : entry_of f ≡ entry = cc in
          let base : f.base ≡ entry.base = ap (λ (e : FileEntry). e.base) same in
          let len : length f.tokens + 2 ≡ entry.len = ap (λ (e : FileEntry). e.len) same in
          let is : f.id ≡ id = eqb-true f.id id t in (
            λ own. (omega arith, omega arith),
            all_weaker (λ (g : File). f.id + 1 ≤ g.id) (λ (g : File). g.id ≡ id → (entry.base ≤ g.base) × (g.base + length g.tokens + 1 ≤ entry.base + entry.len - 1))
                (λ g later same_id. absurd (omega arith)) files (ids_from c (f.base + width_of f.tokens) (f.id + 1) files sound.5),
          )
      | inr n ↦
          let h : file_with_id id (map entry_of files) ≡ Some entry = rw n at found in (
            λ own. absurd (true≢false (sym (eq-eqb f.id id own) ∙ n)),
            lies_alone c (f.base + width_of f.tokens) (f.id + 1) files sound.5 id entry h,
          )
    ]

-- a file that is deleted changes nothing outside of its addresses
deleted_agree : (c : Collection) (id from upto : ℕ) → LieBetween c.files id from upto → AgreeOutside (text_of c) (text_of (without_file c id)) from upto
deleted_agree c id from upto between p out = record { address = refl; words = λ token. held_after c.files id from upto p token between out }

-- the text of a version is that of the collection that it stands for
text_is : (v : VersionContent) (c : Collection) → StandsFor v c → version_text v ≡ text_of c
text_is v c stands =
    ap (λ (n : ℕ). record { first = n; next = v.next; words = live_of v.slots }) stands.first
    ∙ ap (λ (n : ℕ). record { first = c.first; next = n; words = live_of v.slots }) stands.next
    ∙ ap (λ (l : List Word). record { first = c.first; next = c.next; words = l }) stands.words

agree_over : (v w : VersionContent) (c d : Collection) (from upto : ℕ) → StandsFor v c → StandsFor w d → AgreeOutside (text_of c) (text_of d) from upto → AgreeOutside (version_text v) (version_text w) from upto
agree_over v w c d from upto old new agree =
    subst (λ (t : Text). AgreeOutside t (version_text w) from upto) (sym (text_is v c old)) (subst (λ (t : Text). AgreeOutside (text_of c) t from upto) (sym (text_is w d new)) agree)

pub versions_agree_after_add : (v w : VersionContent) (c : Collection) (name : List ℕ) (tokens : List (List ℕ)) → StandsFor v c → StandsFor w (with_file c name tokens)
    → AgreeOutside (version_text v) (version_text w) v.next (v.next + width_of tokens - 1)
versions_agree_after_add v w c name tokens old new =
    let last : c.next + length tokens + 1 ≡ c.next + width_of tokens - 1 = omega arith in
    subst (λ (n : ℕ). AgreeOutside (version_text v) (version_text w) n (n + width_of tokens - 1)) (sym old.next)
    (subst (λ (n : ℕ). AgreeOutside (version_text v) (version_text w) c.next n) last
    (agree_over v w c (with_file c name tokens) c.next (c.next + length tokens + 1) old new (added_agree c name tokens)))

pub versions_agree_after_delete : (v w : VersionContent) (c : Collection) (id : ℕ) (entry : FileEntry) → IsSound c → StandsFor v c → StandsFor w (without_file c id)
    → file_with_id id (files_of v.slots) ≡ Some entry → AgreeOutside (version_text v) (version_text w) entry.base (entry.base + entry.len - 1)
versions_agree_after_delete v w c id entry sound old new found =
    agree_over v w c (without_file c id) entry.base (entry.base + entry.len - 1) old new
    (deleted_agree c id entry.base (entry.base + entry.len - 1)
    (lies_alone c c.first 0 c.files sound.files id entry (ap (file_with_id id) (sym old.files) ∙ found)))
