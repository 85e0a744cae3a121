-- The files that were read, and those that any image of the bytes still has.
use Rattle.std.proofs.Common.{◌≡◌, ℕ, ◌+◌, ◌-◌, ◌^◌, ◌<◌, ◌≤◌, List, [], ◌∷◌, ◌++◌, length, flat_map, refl, sym, ap, ◌∙◌, subst, arith, length-append}
use Rattle.std.specs.Option.{IfSome}
use Rattle.std.proofs.lemmas.List.{append_assoc, append-nil}
use Rattle.gcl_model.specs.Collections.{FitsHole}
use Rattle.address_space.specs.Runs.{FileEntry, Precedes, last_file}
use Rattle.image_file.specs.declared.format.Format.{Format}
use Rattle.image_file.specs.declared.format.Format.TheVariants.{One, Two}
use Rattle.image_file.specs.Fields.{files_bytes, long_file, short_file, short_files}
use Rattle.image_file.specs.Written.{CanPack}
use Rattle.image_file.proofs.Decoding.{long_file_same, packs_long, packs_short, short_file_same}
use Rattle.image_file.proofs.Packing.{name_fits}
use Rattle.image_read.specs.Reading.{AreAllFiles, AreFilesUpTo, FitsFields, HasNoFile, HasNoFiles, IsFileFront, IsFilesFront, IsNextFile, file_bytes, files_from}

-- what comes next fits its fields
pub next_packs : (next next_id id at : ℕ) (file : FileEntry) → next ≤ 2 ^ 56 → next_id ≤ 2 ^ 56 → IsNextFile next next_id id at file → CanPack id at file
next_packs next next_id id at file le ids is =
    let small = is.small in
    let end = is.end in
    record { id = is.id; small = omega (arith, small, ids); base = is.base; end = omega (arith, end, le); len = is.len; name = name_fits file.name is.named }

pub next_fits : (format : Format) (next next_id id at : ℕ) (file : FileEntry) → next ≤ 2 ^ 56 → next_id ≤ 2 ^ 56 → IsNextFile next next_id id at file → FitsFields format id at file
next_fits One next next_id id at file le ids is = packs_long id at file (next_packs next next_id id at file le ids is)
next_fits Two next next_id id at file le ids is = packs_short id at file (next_packs next next_id id at file le ids is)

pub file_front_same : (format : Format) (id at : ℕ) (whole : List ℕ) (x y : FileEntry) (r s : List ℕ) → IsFileFront format id at whole x r → IsFileFront format id at whole y s → (x ≡ y) × (r ≡ s)
file_front_same One id at whole x y r s px py = long_file_same x y r s px.fits py.fits (sym px.bytes ∙ py.bytes)
file_front_same Two id at whole x y r s px py = short_file_same id at x y r s px.fits py.fits (sym px.bytes ∙ py.bytes)

-- files, one after the other
long_from : (id at : ℕ) (files : List FileEntry) → flat_map long_file files ≡ files_from One id at files
long_from id at [] = refl
long_from id at (file ∷ files) = ap (λ l. long_file file ++ l) (long_from (file.id + 1) (file.base + file.len) files)

short_from : (id at : ℕ) (files : List FileEntry) → short_files id at files ≡ files_from Two id at files
short_from id at [] = refl
short_from id at (file ∷ files) = ap (λ l. short_file id at file ++ l) (short_from (file.id + 1) (file.base + file.len) files)

pub files_told : (format : Format) (first : ℕ) (files : List FileEntry) → files_bytes format first files ≡ files_from format 0 first files
files_told One first files = long_from 0 first files
files_told Two first files = short_from 0 first files

files_push : (format : Format) (next next_id id at last_id last : ℕ) (files : List FileEntry) (file : FileEntry) → AreFilesUpTo next next_id id at files last_id last →
    files_from format id at (files ++ file ∷ []) ≡ files_from format id at files ++ file_bytes format last_id last file
files_push format next next_id id at last_id last [] file upto =
    append-nil (file_bytes format id at file) ∙ ap (λ n. file_bytes format n at file) upto.0 ∙ ap (λ p. file_bytes format last_id p file) upto.1
files_push format next next_id id at last_id last (f ∷ files) file upto =
    let rest = files_push format next next_id (f.id + 1) (f.base + f.len) last_id last files file upto.1 in
    ap (λ l. file_bytes format id at f ++ l) rest ∙ sym (append_assoc (file_bytes format id at f) (files_from format (f.id + 1) (f.base + f.len) files) (file_bytes format last_id last file))

upto_push : (next next_id id at last_id last : ℕ) (files : List FileEntry) (file : FileEntry) → AreFilesUpTo next next_id id at files last_id last → IsNextFile next next_id last_id last file →
    AreFilesUpTo next next_id id at (files ++ file ∷ []) (file.id + 1) (file.base + file.len)
upto_push next next_id id at last_id last [] file upto is =
    (subst (λ n. IsNextFile next next_id n at file) (sym upto.0) (subst (λ p. IsNextFile next next_id last_id p file) (sym upto.1) is), (refl, refl))
upto_push next next_id id at last_id last (f ∷ files) file upto is = (upto.0, upto_push next next_id (f.id + 1) (f.base + f.len) last_id last files file upto.1 is)

upto_all : (next next_id id at last_id last : ℕ) (files : List FileEntry) → AreFilesUpTo next next_id id at files last_id last → AreAllFiles next next_id last_id last [] → AreAllFiles next next_id id at files
upto_all next next_id id at last_id last [] upto all =
    subst (λ n. AreAllFiles next next_id n at []) (sym upto.0) (subst (λ p. AreAllFiles next next_id last_id p []) (sym upto.1) all)
upto_all next next_id id at last_id last (f ∷ files) upto all = (upto.0, upto_all next next_id (f.id + 1) (f.base + f.len) last_id last files upto.1 all)

-- the last of the files ends where the next one may begin
pub upto_last : (next next_id id at last_id last : ℕ) (files : List FileEntry) (file : FileEntry) → AreFilesUpTo next next_id id at files last_id last → last_id ≤ file.id → last ≤ file.base → IfSome (last_file files) (λ f. Precedes f file)
upto_last next next_id id at last_id last [] file upto ids bases = tt
upto_last next next_id id at last_id last (f ∷ []) file upto ids bases =
    let a = upto.1.0 in
    let b = upto.1.1 in
    record { ids = omega (arith, a, ids); addresses = omega (arith, b, bases) }
upto_last next next_id id at last_id last (f ∷ g ∷ files) file upto ids bases = upto_last next next_id (f.id + 1) (f.base + f.len) last_id last (g ∷ files) file upto.1 ids bases

-- what an image of the bytes has besides the files that were read
pub record IsLeft (format : Format) (next next_id id at : ℕ) (files : List FileEntry) (rest : List ℕ) (all : List FileEntry) (end : List ℕ) (left : List FileEntry) : Type 0 where
  pub whole : all ≡ files ++ left
  pub bytes : rest ≡ files_from format id at left ++ end
  pub fill : AreAllFiles next next_id id at left

-- i files were read
pub record AreReadFiles (format : Format) (first next next_id number : ℕ) (whole : List ℕ) (i : ℕ) (files : List FileEntry) (id at : ℕ) (rest : List ℕ) : Type 0 where
  pub counted : length files ≡ i
  pub upto : AreFilesUpTo next next_id 0 first files id at
  pub bytes : whole ≡ files_from format 0 first files ++ rest
  pub ids : id ≤ next_id
  pub bases : at ≤ next
  pub track : (all : List FileEntry) (end : List ℕ) → IsFilesFront format first next next_id number whole all end → (left : List FileEntry) × IsLeft format next next_id id at files rest all end left

-- the file that an image of the bytes has next
pub record HasNext (format : Format) (next next_id id at : ℕ) (files : List FileEntry) (rest : List ℕ) (all : List FileEntry) (end : List ℕ) (file : FileEntry) (more : List FileEntry) : Type 0 where
  pub whole : all ≡ files ++ (file ∷ more)
  pub stands : IsNextFile next next_id id at file
  pub front : IsFileFront format id at rest file (files_from format (file.id + 1) (file.base + file.len) more ++ end)
  pub fill : AreAllFiles next next_id (file.id + 1) (file.base + file.len) more

has_next : (format : Format) (first next next_id number : ℕ) (whole : List ℕ) (i : ℕ) (files : List FileEntry) (id at : ℕ) (rest : List ℕ) → next ≤ 2 ^ 56 → next_id ≤ 2 ^ 56 → i < number →
    AreReadFiles format first next next_id number whole i files id at rest → (all : List FileEntry) (end : List ℕ) → IsFilesFront format first next next_id number whole all end →
    (file : FileEntry) × (more : List FileEntry) × HasNext format next next_id id at files rest all end file more
has_next format first next next_id number whole i files id at rest le ids lt read all end is =
    let track = read.track all end is in
    by_left track.0 track.1
  where
    by_left : (left : List FileEntry) → IsLeft format next next_id id at files rest all end left → (file : FileEntry) × (more : List FileEntry) × HasNext format next next_id id at files rest all end file more
    by_left [] left =
        let long = is.count in
        let same : length all ≡ length files = ap length (left.whole ∙ append-nil files) in
        let counted = read.counted in
        absurd (omega (arith, long, same, counted, lt))
    by_left (file ∷ more) left = (
      file,
      more,
      record {
        whole = left.whole;
        stands = left.fill.0;
        front = record {
          fits = next_fits format next next_id id at file le ids left.fill.0;
          bytes = left.bytes ∙ append_assoc (file_bytes format id at file) (files_from format (file.id + 1) (file.base + file.len) more) end;
        };
        fill = left.fill.1;
      },
    )

pub files_step : (format : Format) (first next next_id number : ℕ) (whole : List ℕ) (i : ℕ) (files : List FileEntry) (id at : ℕ) (rest : List ℕ) (file : FileEntry) (behind : List ℕ) → next ≤ 2 ^ 56 → next_id ≤ 2 ^ 56 → i < number →
    AreReadFiles format first next next_id number whole i files id at rest → IsFileFront format id at rest file behind → IsNextFile next next_id id at file →
    AreReadFiles format first next next_id number whole (i + 1) (files ++ file ∷ []) (file.id + 1) (file.base + file.len) behind
files_step format first next next_id number whole i files id at rest file behind le ids lt read front is =
    let counted = read.counted in
    let small = is.small in
    record {
      counted = omega (arith, counted, length-append files (file ∷ []));
      upto = upto_push next next_id 0 first id at files file read.upto is;
      bytes =
          read.bytes ∙ ap (λ l. files_from format 0 first files ++ l) front.bytes ∙ sym (append_assoc (files_from format 0 first files) (file_bytes format id at file) behind)
          ∙ ap (λ l. l ++ behind) (sym (files_push format next next_id 0 first id at files file read.upto));
      ids = omega (arith, small);
      bases = is.end;
      track = λ all end image.
          let has = has_next format first next next_id number whole i files id at rest le ids lt read all end image in
          let other = has.0 in
          let more = has.1 in
          let same = file_front_same format id at rest file other behind (files_from format (other.id + 1) (other.base + other.len) more ++ end) front has.2.front in (
            more,
            record {
              whole = has.2.whole ∙ ap (λ (f : FileEntry). files ++ (f ∷ more)) (sym same.0) ∙ sym (append_assoc files (file ∷ []) more);
              bytes = same.1 ∙ ap (λ (f : FileEntry). files_from format (f.id + 1) (f.base + f.len) more ++ end) (sym same.0);
              fill = subst (λ (f : FileEntry). AreAllFiles next next_id (f.id + 1) (f.base + f.len) more) (sym same.0) has.2.fill;
            },
          );
    }

-- if no file comes next, the bytes are no image
pub files_stop : (format : Format) (first next next_id number : ℕ) (whole : List ℕ) (i : ℕ) (files : List FileEntry) (id at : ℕ) (rest : List ℕ) → next ≤ 2 ^ 56 → next_id ≤ 2 ^ 56 → i < number →
    AreReadFiles format first next next_id number whole i files id at rest → HasNoFile format id at rest → HasNoFiles format first next next_id number whole
files_stop format first next next_id number whole i files id at rest le ids lt read none all end is =
    let has = has_next format first next next_id number whole i files id at rest le ids lt read all end is in
    none has.0 (files_from format (has.0.id + 1) (has.0.base + has.0.len) has.1 ++ end) has.2.front

-- and so if the file that is there may not come next
pub files_refuse : (format : Format) (first next next_id number : ℕ) (whole : List ℕ) (i : ℕ) (files : List FileEntry) (id at : ℕ) (rest : List ℕ) (file : FileEntry) (behind : List ℕ) → next ≤ 2 ^ 56 → next_id ≤ 2 ^ 56 → i < number →
    AreReadFiles format first next next_id number whole i files id at rest → IsFileFront format id at rest file behind → (IsNextFile next next_id id at file → ⊥) → HasNoFiles format first next next_id number whole
files_refuse format first next next_id number whole i files id at rest file behind le ids lt read front none all end is =
    let has = has_next format first next next_id number whole i files id at rest le ids lt read all end is in
    let same = file_front_same format id at rest file has.0 behind (files_from format (has.0.id + 1) (has.0.base + has.0.len) has.1 ++ end) front has.2.front in
    none (subst (IsNextFile next next_id id at) (sym same.0) has.2.stands)

-- the same, if the new values were computed otherwise
pub files_read_as : (format : Format) (first next next_id number : ℕ) (whole : List ℕ) (i : ℕ) (files more : List FileEntry) (id id' at at' : ℕ) (rest : List ℕ) →
    AreReadFiles format first next next_id number whole i files id at rest → more ≡ files → id' ≡ id → at' ≡ at → AreReadFiles format first next next_id number whole i more id' at' rest
files_read_as format first next next_id number whole i files more id id' at at' rest read same_files same_id same_at =
    subst (λ fs. AreReadFiles format first next next_id number whole i fs id' at' rest) (sym same_files)
    (subst (λ n. AreReadFiles format first next next_id number whole i files n at' rest) (sym same_id)
    (subst (λ p. AreReadFiles format first next next_id number whole i files id p rest) (sym same_at) read))

-- at the end the last hole decides
pub files_end : (format : Format) (first next next_id number : ℕ) (whole : List ℕ) (i : ℕ) (files : List FileEntry) (id at : ℕ) (rest : List ℕ) → i ≡ number →
    AreReadFiles format first next next_id number whole i files id at rest → FitsHole (next - at) (next_id - id) → IsFilesFront format first next next_id number whole files rest
files_end format first next next_id number whole i files id at rest done read hole = record {
  all = upto_all next next_id 0 first id at files read.upto (read.bases, read.ids, hole);
  count = read.counted ∙ done;
  bytes = read.bytes;
}
