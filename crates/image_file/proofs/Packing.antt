-- The numbers of a sound collection are small enough for each field.
use Rattle.std.proofs.Common.{◌≡◌, ℕ, ◌+◌, ◌-◌, ◌*◌, ◌^◌, ◌<◌, ◌≤◌, leb, Bool, true, false, not, ◌&&◌, List, [], ◌∷◌, ◌++◌, length, map, drop, slice_get, Some, zero, suc, refl, sym, ap, ◌∙◌, subst, arith}
use Rattle.std.specs.List.{list_all}
use Rattle.std.specs.Str.{is_utf8}
use Rattle.std.proofs.lemmas.Bool.{leb-true}
use Rattle.gcl_model.specs.Collections.{Collection, File, AreFilesFrom, IsSound, width_of}
use Rattle.gcl_model.specs.Texts.{Word, AreRisingBelow}
use Rattle.gcl_model.specs.Names.{is_name, is_plain_byte}
use Rattle.gcl_model.specs.Tokens.{starts_with_byte, ends_with_byte}
use Rattle.gcl_model.specs.Limits.{most_name}
use Rattle.address_space.specs.Runs.{FileEntry}
use Rattle.address_space.proofs.CollectionLemmas.{up_to}
use Rattle.live_version.specs.StandsFor.{entry_of}
use Rattle.std.proofs.lemmas.List.{append_assoc}
use Rattle.image_file.specs.Fields.{short_file, short_files}
use Rattle.image_file.specs.Images.{forgotten}
use Rattle.image_file.specs.Written.{CanPack, ArePacked}

pub name_fits : (name : List ℕ) → is_name name ≡ true → length name < 2 ^ 32
name_fits name is =
    let most : length name ≤ most_name = leb-true (length name) most_name (fits (leb 1 (length name)) (leb (length name) most_name) (is_utf8 name) (list_all is_plain_byte name) (not (starts_with_byte 32 name)) (not (ends_with_byte 32 name)) is) in
    omega arith
  where
    fits : (a b c d e f : Bool) → (a && b && c && d && e && f) ≡ true → b ≡ true
    fits true true c d e f is = refl
    fits true false c d e f is = absurd cc
    fits false b c d e f is = absurd cc

pub files_pack : (c : Collection) (at id : ℕ) (files : List File) → c.next ≤ 2 ^ 56 → 2 * id ≤ at → AreFilesFrom c at id files → ArePacked id at (map entry_of files)
files_pack c at id [] end half h = tt
files_pack c at id (file ∷ files) end half h =
    let behind = up_to c (file.base + width_of file.tokens) (file.id + 1) files h.5 in
    let last : file.base + width_of file.tokens ≤ c.next = behind.address in
    let base : at ≤ file.base = h.0 in
    let least : id ≤ file.id = h.1 in
    let hole : 2 * (file.id - id) ≤ file.base - at = h.2.1 in (
      record {
        id = least;
        small = omega arith;
        base = base;
        end = omega (arith, last, end);
        len = omega arith;
        name = name_fits file.name h.3;
      },
      files_pack c (file.base + width_of file.tokens) (file.id + 1) files end (omega arith) h.5,
    )

pub sound_packs : (c : Collection) → IsSound c → ArePacked 0 c.first (map entry_of c.files)
sound_packs c sound = files_pack c c.first 0 c.files sound.in_range (omega arith) sound.files

pub packed_few : (id at : ℕ) (files : List FileEntry) → id ≤ 2 ^ 56 → ArePacked id at files → id + length files ≤ 2 ^ 56
packed_few id at [] le all = omega arith
packed_few id at (file ∷ files) le all =
    let small = all.0.small in
    let least = all.0.id in
    let rest = packed_few (file.id + 1) (file.base + file.len) files (omega arith) all.1 in
    omega arith

-- deletions are no part of what makes a collection sound
forgotten_files : (c : Collection) (at id : ℕ) (files : List File) → AreFilesFrom c at id files → AreFilesFrom (forgotten c) at id files
forgotten_files c at id [] h = h
forgotten_files c at id (file ∷ files) h = (h.0, h.1, h.2, h.3, h.4, forgotten_files c (file.base + width_of file.tokens) (file.id + 1) files h.5)

pub forgotten_sound : (c : Collection) → IsSound c → IsSound (forgotten c)
forgotten_sound c sound = record { ordered = sound.ordered; in_range = sound.in_range; files = forgotten_files c c.first 0 c.files sound.files }

-- there are fewer words than addresses
pub few_words : (next low : ℕ) (words : List Word) → low ≤ next → AreRisingBelow next low words → length words + low ≤ next
few_words next low [] le rising = omega arith
few_words next low (w ∷ ws) le rising =
    let a = rising.0 in
    let b = rising.1 in
    let rest = few_words next (w.address + 1) ws (omega arith) rising.2 in
    omega arith

-- the next file of a version is packed next
drop_at : (files : List FileEntry) (i : ℕ) (file : FileEntry) → slice_get files i ≡ Some file → drop i files ≡ file ∷ drop (i + 1) files
drop_at [] i file is = absurd cc
drop_at (f ∷ files) zero file is = let same : f ≡ file = cc in ap (λ g. g ∷ files) same
drop_at (f ∷ files) (suc i) file is = let more : suc i + 1 ≡ suc (i + 1) = omega arith in drop_at files i file is ∙ ap (λ n. file ∷ drop n (f ∷ files)) (sym more)

pub record IsPackedNext (id at i : ℕ) (files : List FileEntry) (file : FileEntry) : Type 0 where
  pub rest : drop i files ≡ file ∷ drop (i + 1) files
  pub can : CanPack id at file
  pub later : ArePacked (file.id + 1) (file.base + file.len) (drop (i + 1) files)

pub packed_next : (id at i : ℕ) (files : List FileEntry) (file : FileEntry) → slice_get files i ≡ Some file → ArePacked id at (drop i files) → IsPackedNext id at i files file
packed_next id at i files file is packed =
    let rest = drop_at files i file is in
    let both : ArePacked id at (file ∷ drop (i + 1) files) = subst (ArePacked id at) rest packed in
    record { rest = rest; can = both.0; later = both.1 }

pub put_next : (id at i : ℕ) (files : List FileEntry) (file : FileEntry) (now more whole : List ℕ) → IsPackedNext id at i files file → now ++ short_files id at (drop i files) ≡ whole → more ≡ now ++ short_file id at file →
    more ++ short_files (file.id + 1) (file.base + file.len) (drop (i + 1) files) ≡ whole
put_next id at i files file now more whole next together is =
    let left = short_files (file.id + 1) (file.base + file.len) (drop (i + 1) files) in
    ap (λ l. l ++ left) is ∙ append_assoc now (short_file id at file) left ∙ ap (λ fs. now ++ short_files id at fs) (sym next.rest) ∙ together
