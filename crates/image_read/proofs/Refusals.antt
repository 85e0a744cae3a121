-- If a part of an image is refused, the bytes are no image.
use Rattle.std.proofs.Common.{◌≡◌, ℕ, ◌+◌, ◌-◌, ◌*◌, ◌^◌, ◌≤◌, List, [], ◌∷◌, ◌++◌, length, map, flat_map, refl, sym, ap, ◌∙◌, subst, arith}
use Rattle.std.proofs.lemmas.List.{append-nil}
use Rattle.gcl_model.specs.Collections.{Collection, File, AreFilesFrom, width_of}
use Rattle.address_space.specs.Runs.{FileEntry}
use Rattle.index_shard.specs.Tables.{TermEntry}
use Rattle.live_version.specs.StandsFor.{entry_of}
use Rattle.image_file.specs.declared.format.Format.{Format}
use Rattle.image_file.specs.Fields.{eight_bytes, files_bytes, mark, term_bytes}
use Rattle.image_file.specs.Images.{Spells, end_of, fields_of}
use Rattle.image_file.specs.Written.{ArePacked}
use Rattle.image_file.proofs.Decoding.{eight_same, files_same, image-parts}
use Rattle.image_file.proofs.ImageLaws.{are_writable}
use Rattle.image_read.specs.Answers.{IsNoImage}
use Rattle.image_read.specs.Reading.{AreAllFiles, AreTermBytes, HasNoFiles, HasNoHead, HasNoTerms, IsFilesFront, IsHead, files_from}
use Rattle.image_read.proofs.Candidates.{all_entries, all_files}
use Rattle.image_read.proofs.FileTracking.{files_told, next_packs}
use Rattle.image_read.proofs.Fronts.{behind_mark}

-- a hole has two addresses for each id at least, and so has what files fill
holes_up : (c : Collection) (at id : ℕ) (files : List File) → AreFilesFrom c at id files → 2 * (c.next_id - id) ≤ c.next - at
holes_up c at id [] h = h.2.1
holes_up c at id (file ∷ files) h =
    let base : at ≤ file.base = h.0 in
    let least : id ≤ file.id = h.1 in
    let hole : 2 * (file.id - id) ≤ file.base - at = h.2.1 in
    let rest : 2 * (c.next_id - (file.id + 1)) ≤ c.next - (file.base + width_of file.tokens) = holes_up c (file.base + width_of file.tokens) (file.id + 1) files h.5 in
    let end : file.base + width_of file.tokens ≤ c.next = bounded c (file.base + width_of file.tokens) (file.id + 1) files h.5 in
    omega (arith, base, least, hole, rest, end)
  where
    bounded : (c : Collection) (at id : ℕ) (files : List File) → AreFilesFrom c at id files → at ≤ c.next
    bounded c at id [] h = h.0
    bounded c at id (file ∷ files) h =
        let rest : file.base + width_of file.tokens ≤ c.next = bounded c (file.base + width_of file.tokens) (file.id + 1) files h.5 in
        let base : at ≤ file.base = h.0 in
        omega (arith, rest, base)

-- what comes after the head of an image
abbrev terms_of : Format → Collection → List TermEntry → List ℕ
terms_of format c terms = eight_bytes (length terms) ++ flat_map (term_bytes format c.first) terms

abbrev behind_of : Format → Collection → List TermEntry → List ℕ
behind_of format c terms = files_from format 0 c.first (map entry_of c.files) ++ terms_of format c terms

head_of : (format : Format) (bytes : List ℕ) (c : Collection) → (s : Spells format bytes c) → IsHead format c.first c.next c.next_id (length (map entry_of c.files)) bytes (behind_of format c s.spelled.0)
head_of format bytes c s =
    let terms = s.spelled.0 in
    let files = map entry_of c.files in
    let sound = s.said.sound in
    let write = are_writable format bytes c terms s.said s.spelled.1 in
    let few = write.few_files in
    let last = append-nil (flat_map (term_bytes format c.first) terms) in
    record {
      bytes =
          s.spelled.1.bytes ∙ image-parts format (fields_of c terms)
          ∙ ap (λ l. mark format ++ (eight_bytes c.first ++ (eight_bytes c.next ++ (eight_bytes c.next_id ++ (eight_bytes (length files) ++ (files_bytes format c.first files ++ (eight_bytes (length terms) ++ l))))))) last
          ∙ ap (λ l. mark format ++ (eight_bytes c.first ++ (eight_bytes c.next ++ (eight_bytes c.next_id ++ (eight_bytes (length files) ++ (l ++ terms_of format c terms)))))) (files_told format c.first files);
      ordered = sound.ordered;
      in_range = s.said.in_range;
      ids = let holes = holes_up c c.first 0 c.files sound.files in omega (arith, holes);
      few = omega (arith, few);
    }

pub no_head : (bytes : List ℕ) → HasNoHead bytes → IsNoImage bytes
no_head bytes none format c s = none format c.first c.next c.next_id (length (map entry_of c.files)) (behind_of format c s.spelled.0) (head_of format bytes c s)

-- the numbers at the front of an image, in one
record HeadFields : Type 0 where
  pub kind : Format
  pub low : ℕ
  pub high : ℕ
  pub number : ℕ
  pub count : ℕ
  pub behind : List ℕ

abbrev head_fields : Format → ℕ → ℕ → ℕ → ℕ → List ℕ → HeadFields
head_fields kind low high number count behind = record { kind = kind; low = low; high = high; number = number; count = count; behind = behind }

head_bound : (format : Format) (first next next_id count : ℕ) (bytes rest : List ℕ) → IsHead format first next next_id count bytes rest → next ≤ 2 ^ 56
head_bound format first next next_id count bytes rest is = end_small format next is.in_range
  where
    end_small : (f : Format) (n : ℕ) → n ≤ end_of f → n ≤ 2 ^ 56
    end_small Format.One n le = omega (arith, le)
    end_small Format.Two n le = le

-- bytes begin with one head
head_same : (f g : Format) (a1 a2 a3 a4 b1 b2 b3 b4 : ℕ) (bytes r s : List ℕ) → IsHead f a1 a2 a3 a4 bytes r → IsHead g b1 b2 b3 b4 bytes s → head_fields f a1 a2 a3 a4 r ≡ head_fields g b1 b2 b3 b4 s
head_same f g a1 a2 a3 a4 b1 b2 b3 b4 bytes r s x y =
    let xo = x.ordered in
    let xe = head_bound f a1 a2 a3 a4 bytes r x in
    let xi = x.ids in
    let yo = y.ordered in
    let ye = head_bound g b1 b2 b3 b4 bytes s y in
    let yi = y.ids in
    let behind = behind_mark f g b1 b2 b3 b4 bytes s (eight_bytes a1 ++ (eight_bytes a2 ++ (eight_bytes a3 ++ (eight_bytes a4 ++ r)))) x.bytes y in
    let one = eight_same a1 b1 (eight_bytes a2 ++ (eight_bytes a3 ++ (eight_bytes a4 ++ r))) (eight_bytes b2 ++ (eight_bytes b3 ++ (eight_bytes b4 ++ s))) (omega (arith, xo, xe)) (omega (arith, yo, ye)) behind.1 in
    let two = eight_same a2 b2 (eight_bytes a3 ++ (eight_bytes a4 ++ r)) (eight_bytes b3 ++ (eight_bytes b4 ++ s)) (omega (arith, xe)) (omega (arith, ye)) one.1 in
    let three = eight_same a3 b3 (eight_bytes a4 ++ r) (eight_bytes b4 ++ s) (omega (arith, xi, xe)) (omega (arith, yi, ye)) two.1 in
    let four = eight_same a4 b4 r s x.few y.few three.1 in
    ap (λ k. head_fields k a1 a2 a3 a4 r) behind.0
    ∙ ap (λ n. head_fields g n a2 a3 a4 r) one.0
    ∙ ap (λ n. head_fields g b1 n a3 a4 r) two.0
    ∙ ap (λ n. head_fields g b1 b2 n a4 r) three.0
    ∙ ap (λ n. head_fields g b1 b2 b3 n r) four.0
    ∙ ap (head_fields g b1 b2 b3 b4) four.1

files_front_of : (format : Format) (bytes : List ℕ) (c : Collection) → (s : Spells format bytes c) →
    IsFilesFront format c.first c.next c.next_id (length (map entry_of c.files)) (behind_of format c s.spelled.0) (map entry_of c.files) (terms_of format c s.spelled.0)
files_front_of format bytes c s = record { all = all_files c c.first 0 c.files s.said.sound.files; count = refl; bytes = refl }

-- the files after the head of the image of a collection, if the head is one that was read
same_files_front : (format : Format) (first next next_id count : ℕ) (bytes rest : List ℕ) → IsHead format first next next_id count bytes rest → (other : Format) (c : Collection) → (s : Spells other bytes c) →
    IsFilesFront format first next next_id count rest (map entry_of c.files) (terms_of other c s.spelled.0)
same_files_front format first next next_id count bytes rest head other c s =
    let same = head_same other format c.first c.next c.next_id (length (map entry_of c.files)) first next next_id count bytes (behind_of other c s.spelled.0) rest (head_of other bytes c s) head in
    subst (λ (h : HeadFields). IsFilesFront h.kind h.low h.high h.number h.count h.behind (map entry_of c.files) (terms_of other c s.spelled.0)) same (files_front_of other bytes c s)

pub no_files : (format : Format) (first next next_id count : ℕ) (bytes rest : List ℕ) → IsHead format first next next_id count bytes rest → HasNoFiles format first next next_id count rest → IsNoImage bytes
no_files format first next next_id count bytes rest head none other c s =
    none (map entry_of c.files) (terms_of other c s.spelled.0) (same_files_front format first next next_id count bytes rest head other c s)

all_packed : (next next_id id at : ℕ) (files : List FileEntry) → next ≤ 2 ^ 56 → next_id ≤ 2 ^ 56 → AreAllFiles next next_id id at files → ArePacked id at files
all_packed next next_id id at [] small ids all = tt
all_packed next next_id id at (e ∷ es) small ids all = (next_packs next next_id id at e small ids all.0, all_packed next next_id (e.id + 1) (e.base + e.len) es small ids all.1)

-- bytes begin with one list of files
files_front_same : (format : Format) (first next next_id count : ℕ) (whole r s : List ℕ) (xs ys : List FileEntry) → next ≤ 2 ^ 56 → next_id ≤ 2 ^ 56 → IsFilesFront format first next next_id count whole xs r →
    IsFilesFront format first next next_id count whole ys s → (xs ≡ ys) × (r ≡ s)
files_front_same format first next next_id count whole r s xs ys small ids x y =
    files_same format first xs ys r s (x.count ∙ sym y.count) (all_packed next next_id 0 first xs small ids x.all) (all_packed next next_id 0 first ys small ids y.all)
    (ap (λ l. l ++ r) (files_told format first xs) ∙ sym x.bytes ∙ y.bytes ∙ ap (λ l. l ++ s) (sym (files_told format first ys)))

terms_front_of : (format : Format) (bytes : List ℕ) (c : Collection) → (s : Spells format bytes c) → AreTermBytes format c.first c.next (length s.spelled.0) (map entry_of c.files) (flat_map (term_bytes format c.first) s.spelled.0) s.spelled.0
terms_front_of format bytes c s = record { all = all_entries format bytes c s.spelled.0 s.said s.spelled.1; count = refl; bytes = refl }

pub no_terms : (format : Format) (first next next_id count : ℕ) (bytes rest end : List ℕ) (files : List FileEntry) → IsHead format first next next_id count bytes rest → IsFilesFront format first next next_id count rest files end →
    HasNoTerms format first next files end → IsNoImage bytes
no_terms format first next next_id count bytes rest end files head front none other c s =
    let terms = s.spelled.0 in
    let small = head_bound format first next next_id count bytes rest head in
    let ids = head.ids in
    let same = head_same other format c.first c.next c.next_id (length (map entry_of c.files)) first next next_id count bytes (behind_of other c terms) rest (head_of other bytes c s) head in
    let both = files_front_same format first next next_id count rest (terms_of other c terms) end (map entry_of c.files) files small (omega (arith, ids, small))
    (same_files_front format first next next_id count bytes rest head other c s) front in
    let few = (are_writable other bytes c terms s.said s.spelled.1).few_terms in
    let there : AreTermBytes format first next (length terms) (map entry_of c.files) (flat_map (term_bytes other c.first) terms) terms =
    subst (λ (h : HeadFields). AreTermBytes h.kind h.low h.high (length terms) (map entry_of c.files) (flat_map (term_bytes other c.first) terms) terms) same (terms_front_of other bytes c s) in
    none terms (omega (arith, few)) (flat_map (term_bytes other c.first) terms) (sym both.1)
    (subst (λ fs. AreTermBytes format first next (length terms) fs (flat_map (term_bytes other c.first) terms) terms) both.0 there)
