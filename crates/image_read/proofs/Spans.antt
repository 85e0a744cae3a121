-- The one range from the first of some files to the last.
use Rattle.std.proofs.Common.{◌≡◌, ℕ, ◌+◌, ◌-◌, ◌^◌, ◌<◌, ◌≤◌, List, [], ◌∷◌, length, map, get_or, Some, refl, sym, ap, ◌∙◌, subst, arith, le_refl}
use Rattle.std.specs.List.{AllByRecursion}
use Rattle.gcl_model.specs.Slots.{SlotRange, ranges_spanned, slot_range, spanned}
use Rattle.gcl_model.proofs.Lists.{all_both, all_weaker}
use Rattle.address_space.specs.Runs.{FileEntry, IsFileRun, Precedes, last_file, range_of}
use Rattle.live_version.specs.Contents.{LiesIn}
use Rattle.image_read.specs.Reading.{AreAllFiles}
use Rattle.image_read.specs.Tables.{IsRangeOf}
use Rattle.image_read.proofs.Made.{EndsBy}

-- a range that begins at p and reaches beyond q and all files, but no further
pub record IsSpanned (p q : ℕ) (files : List FileEntry) (range : SlotRange) : Type 0 where
  pub begins : range.first ≡ p
  pub more : q ≤ range.last
  pub ends : EndsBy files (range.last + 1)
  pub least : (end : ℕ) → q + 1 ≤ end → EndsBy files end → range.last + 1 ≤ end

pub spans : (p q : ℕ) (files : List FileEntry) → IsFileRun files → AllByRecursion (λ (f : FileEntry). q < f.base) files → IsSpanned p q files (spanned (slot_range p q) (map range_of files))
spans p q [] run behind = record { begins = refl; more = le_refl q; ends = tt; least = λ end le ends. le }
spans p q (e ∷ es) run behind =
    let two : 2 ≤ e.len = run.0.bounded in
    let after : q < e.base = behind.0 in
    let r = spanned (slot_range p (e.base + e.len - 1)) (map range_of es) in
    let rest : IsSpanned p (e.base + e.len - 1) es r = spans p (e.base + e.len - 1) es run.2
    (all_weaker (Precedes e) (λ (f : FileEntry). e.base + e.len - 1 < f.base) (λ f is. let order : e.base + e.len ≤ f.base = is.addresses in omega (arith, order, two)) es run.1) in
    let more : e.base + e.len - 1 ≤ r.last = rest.more in
    record {
      begins = rest.begins;
      more = omega (arith, more, after, two);
      ends = (omega (arith, more, two), rest.ends);
      least = λ end le ends. let here : e.base + e.len ≤ end = ends.0 in rest.least end (omega (arith, here, two)) ends.1;
    }

pub span_of : (e : FileEntry) (es : List FileEntry) → IsFileRun (e ∷ es) → IsSpanned e.base (e.base + e.len - 1) (e ∷ es) (spanned (range_of e) (map range_of es))
span_of e es run =
    let two : 2 ≤ e.len = run.0.bounded in
    let r = spanned (range_of e) (map range_of es) in
    let rest : IsSpanned e.base (e.base + e.len - 1) es r = spans e.base (e.base + e.len - 1) es run.2
    (all_weaker (Precedes e) (λ (f : FileEntry). e.base + e.len - 1 < f.base) (λ f is. let order : e.base + e.len ≤ f.base = is.addresses in omega (arith, order, two)) es run.1) in
    let more : e.base + e.len - 1 ≤ r.last = rest.more in
    record { begins = rest.begins; more = more; ends = (omega (arith, more, two), rest.ends); least = λ end le ends. rest.least end le ends.1 }

-- the files lie in it
pub span_lies : (e : FileEntry) (es : List FileEntry) → IsFileRun (e ∷ es) → IsRangeOf (spanned (range_of e) (map range_of es)) (e ∷ es)
span_lies e es run =
    let r = spanned (range_of e) (map range_of es) in
    let is = span_of e es run in
    let begins : r.first ≡ e.base = is.begins in
    let from : AllByRecursion (λ (f : FileEntry). r.first ≤ f.base) (e ∷ es) = (
      omega (arith, begins),
      all_weaker (Precedes e) (λ (f : FileEntry). r.first ≤ f.base) (λ f next. let order : e.base + e.len ≤ f.base = next.addresses in omega (arith, order, begins)) es run.1,
    ) in
    all_both (λ (f : FileEntry). r.first ≤ f.base) (λ (f : FileEntry). f.base + f.len ≤ r.last + 1) (LiesIn r) (λ f a b. (a, b)) (e ∷ es) from is.ends

-- the last file ends it
pub span_last : (e : FileEntry) (es : List FileEntry) (last : FileEntry) → last_file (e ∷ es) ≡ Some last → spanned (range_of e) (map range_of es) ≡ slot_range e.base (last.base + last.len - 1)
span_last e es last is = by_last (e.base) e es last is
  where
    by_last : (p : ℕ) (e : FileEntry) (es : List FileEntry) (last : FileEntry) → last_file (e ∷ es) ≡ Some last → spanned (slot_range p (e.base + e.len - 1)) (map range_of es) ≡ slot_range p (last.base + last.len - 1)
    by_last p e [] last is = let same : e ≡ last = cc in ap (λ (f : FileEntry). slot_range p (f.base + f.len - 1)) same
    by_last p e (f ∷ es) last is = by_last p f es last is

-- all files of an image end by its last address, and the ids are below its number of ids
pub all_end : (next next_id id at : ℕ) (files : List FileEntry) → AreAllFiles next next_id id at files → EndsBy files next
all_end next next_id id at [] all = tt
all_end next next_id id at (e ∷ es) all = (all.0.end, all_end next next_id (e.id + 1) (e.base + e.len) es all.1)

pub all_small : (next next_id id at : ℕ) (files : List FileEntry) → AreAllFiles next next_id id at files → AllByRecursion (λ (f : FileEntry). f.id < next_id) files
all_small next next_id id at [] all = tt
all_small next next_id id at (e ∷ es) all = (all.0.small, all_small next next_id (e.id + 1) (e.base + e.len) es all.1)

-- they are a run
all_behind : (e : FileEntry) (next next_id id at : ℕ) (files : List FileEntry) → e.id < id → e.base + e.len ≤ at → AreAllFiles next next_id id at files → AllByRecursion (Precedes e) files
all_behind e next next_id id at [] lt le all = tt
all_behind e next next_id id at (f ∷ fs) lt le all =
    let ids : id ≤ f.id = all.0.id in
    let base : at ≤ f.base = all.0.base in
    (record { ids = omega arith; addresses = omega arith }, all_behind e next next_id (f.id + 1) (f.base + f.len) fs (omega arith) (omega arith) all.1)

pub all_run : (next next_id id at : ℕ) (files : List FileEntry) → next ≤ 2 ^ 56 → AreAllFiles next next_id id at files → IsFileRun files
all_run next next_id id at [] small all = tt
all_run next next_id id at (e ∷ es) small all =
    let end : e.base + e.len ≤ next = all.0.end in (
      record { bounded = all.0.len; in_range = omega (arith, end, small) },
      all_behind e next next_id (e.id + 1) (e.base + e.len) es (omega arith) (le_refl (e.base + e.len)) all.1,
      all_run next next_id (e.id + 1) (e.base + e.len) es small all.1,
    )

-- the same for a list of two files at least, by its first and its last one

last_at : (e : FileEntry) (es : List FileEntry) (d : FileEntry) → last_file (e ∷ es) ≡ Some (get_or (e ∷ es) (length es) d)
last_at e [] d = refl
last_at e (f ∷ es) d = last_at f es d

pub run_spanned : (files : List FileEntry) (first last : FileEntry) → 0 < length files → first ≡ get_or files 0 first → last ≡ get_or files (length files - 1) last → slot_range first.base (last.base + last.len - 1) ∷ [] ≡ ranges_spanned (map range_of files)
run_spanned [] first last some f l = absurd (omega arith)
run_spanned (e ∷ es) first last some f l =
    let at : length (e ∷ es) - 1 ≡ length es = omega arith in
    let end : last_file (e ∷ es) ≡ Some last = last_at e es last ∙ ap (λ o. Some o) (sym (l ∙ ap (λ n. get_or (e ∷ es) n last) at)) in
    ap (λ r. r ∷ []) (ap (λ (x : FileEntry). slot_range x.base (last.base + last.len - 1)) f ∙ sym (span_last e es last end))

pub run_lies : (files : List FileEntry) (range : SlotRange) → IsFileRun files → range ∷ [] ≡ ranges_spanned (map range_of files) → IsRangeOf range files
run_lies [] range run span = tt
run_lies (e ∷ es) range run span =
    let same : range ≡ spanned (range_of e) (map range_of es) = cc in
    subst (λ r. IsRangeOf r (e ∷ es)) (sym same) (span_lies e es run)
