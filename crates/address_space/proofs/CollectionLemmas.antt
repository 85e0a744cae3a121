-- Adding a file and deleting one keep a collection sound.
use Rattle.std.proofs.Common.{◌≡◌, ℕ, ◌+◌, ◌-◌, ◌*◌, ◌≤◌, Bool, true, false, not, cond, eqb, List, [], ◌∷◌, ◌++◌, filter, arith, inl, inr, sym, subst}
use Rattle.std.specs.List.{AllByRecursion}
use Rattle.gcl_model.specs.Collections.{File, Collection, FitsHole, AreFilesFrom, IsToken, IsSound, with_file, without_file, width_of}
use Rattle.gcl_model.specs.Laws.{StartIsSound, AddingKeepsSoundness, DeletingKeepsSoundness, StepsKeepSoundness}
use Rattle.gcl_model.specs.Names.{is_name}

pub start_is_sound : StartIsSound
start_is_sound first le = record {
  ordered = omega arith;
  in_range = le;
  files = (omega arith, omega arith, (λ e. omega arith, omega arith));
}

-- a new file comes right after the last hole, with no id left out
added_files : (c : Collection) (name : List ℕ) (tokens : List (List ℕ)) (at id : ℕ) (files : List File) → is_name name ≡ true → AllByRecursion IsToken tokens
    → AreFilesFrom c at id files → AreFilesFrom (with_file c name tokens) at id (files ++ record { id = c.next_id; name = name; base = c.next; tokens = tokens } ∷ [])
added_files c name tokens at id [] named are_tokens h =
    (h.0, h.1, h.2, named, are_tokens, (omega arith, omega arith, (λ e. omega arith, omega arith)))
added_files c name tokens at id (file ∷ files) named are_tokens h =
    (h.0, h.1, h.2, h.3, h.4, added_files c name tokens (file.base + width_of file.tokens) (file.id + 1) files named are_tokens h.5)

pub adding_keeps_soundness : AddingKeepsSoundness
adding_keeps_soundness c name tokens sound can = record {
  ordered = let h : c.first ≤ c.next = sound.ordered in omega arith;
  in_range = can.fits;
  files = added_files c name tokens c.first 0 c.files can.named can.are_tokens sound.files;
}

-- the address and the id are within a collection, if the files starting at them fill it
pub record IsUpTo (c : Collection) (at id : ℕ) : Type 0 where
  pub address : at ≤ c.next
  pub number : id ≤ c.next_id

pub up_to : (c : Collection) (at id : ℕ) (files : List File) → AreFilesFrom c at id files → IsUpTo c at id
up_to c at id [] h = record { address = h.0; number = h.1 }
up_to c at id (file ∷ files) h =
    let rest = up_to c (file.base + width_of file.tokens) (file.id + 1) files h.5 in
    let p : file.base + width_of file.tokens ≤ c.next = rest.address in
    let q : file.id + 1 ≤ c.next_id = rest.number in
    let a : at ≤ file.base = h.0 in
    let b : id ≤ file.id = h.1 in
    record { address = omega arith; number = omega arith }

-- two holes with a file between them are a hole for one id more
joined_holes : (at base width next id number end : ℕ) → at ≤ base → id ≤ number → 2 ≤ width → base + width ≤ next → number + 1 ≤ end
    → FitsHole (base - at) (number - id) → FitsHole (next - (base + width)) (end - (number + 1)) → FitsHole (next - at) (end - id)
joined_holes at base width next id number end a b w p q h k =
    let first : 2 * (number - id) ≤ base - at = h.1 in
    let second : 2 * (end - (number + 1)) ≤ next - (base + width) = k.1 in
    (λ e. absurd (omega arith), omega arith)

-- the files may begin earlier, before a file that is gone
earlier : (c : Collection) (at base width id number : ℕ) (files : List File) → at ≤ base → id ≤ number → 2 ≤ width → FitsHole (base - at) (number - id)
    → AreFilesFrom c (base + width) (number + 1) files → AreFilesFrom c at id files
earlier c at base width id number [] a b w h k =
    let p : base + width ≤ c.next = k.0 in
    let q : number + 1 ≤ c.next_id = k.1 in
    (omega arith, omega arith, joined_holes at base width c.next id number c.next_id a b w p q h k.2)
earlier c at base width id number (file ∷ files) a b w h k =
    let p : base + width ≤ file.base = k.0 in
    let q : number + 1 ≤ file.id = k.1 in
    (omega arith, omega arith, joined_holes at base width file.base id number file.id a b w p q h k.2, k.3, k.4, k.5)

deleted_files : (c : Collection) (gone at id : ℕ) (files : List File) → AreFilesFrom c at id files → AreFilesFrom (without_file c gone) at id (filter (λ file. not (eqb file.id gone)) files)
deleted_files c gone at id [] h = h
deleted_files c gone at id (file ∷ files) h = by_test (eqb file.id gone) (deleted_files c gone (file.base + width_of file.tokens) (file.id + 1) files h.5)
  where
    by_test : (t : Bool) → AreFilesFrom (without_file c gone) (file.base + width_of file.tokens) (file.id + 1) (filter (λ other. not (eqb other.id gone)) files)
        → AreFilesFrom (without_file c gone) at id (cond (not t) (file ∷ filter (λ other. not (eqb other.id gone)) files) (filter (λ other. not (eqb other.id gone)) files))
    by_test true rest = earlier (without_file c gone) at file.base (width_of file.tokens) id file.id (filter (λ other. not (eqb other.id gone)) files) h.0 h.1 (omega arith) h.2 rest
    by_test false rest = (h.0, h.1, h.2, h.3, h.4, rest)

pub deleting_keeps_soundness : DeletingKeepsSoundness
deleting_keeps_soundness c id sound = record {
  ordered = sound.ordered;
  in_range = sound.in_range;
  files = deleted_files c id c.first 0 c.files sound.files;
}

pub steps_keep_soundness : StepsKeepSoundness
steps_keep_soundness c d sound (inl (name, tokens, can, is)) = subst IsSound (sym is) (adding_keeps_soundness c name tokens sound can)
steps_keep_soundness c d sound (inr (inl (id, has, is))) = subst IsSound (sym is) (deleting_keeps_soundness c id sound)
steps_keep_soundness c d sound (inr (inr opens)) = opens.sound
