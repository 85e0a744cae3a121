-- Two slots of one name, in an earlier and in a later version of one history, have the same files and live words.
use Rattle.std.proofs.Common.{◌≡◌, ◌⊎◌, ⊎_elim, ℕ, zero, suc, ◌+◌, ◌-◌, ◌<◌, ◌≤◌, Bool, true, false, cond, List, [], ◌∷◌, ◌++◌, length, map, filter, Some, slice_get, refl, sym, ap, ◌∙◌, subst, arith, append-nil, length-append, inl, inr}
use Rattle.std.specs.List.{AllByRecursion, flat_map}
use Rattle.std.proofs.lemmas.Bool.{cases_lt}
use Rattle.std.proofs.lemmas.List.{length-map, nil_from_length}
use Rattle.std.proofs.lemmas.List.Elements.{filter-append}
use Rattle.std.proofs.lemmas.Grind.{flat_map-append}
use mathlib.Core.List.{IsPrefix}
use Rattle.gcl_model.specs.Collections.{Collection, File, file_end, width_of, with_boundaries, words_from, words_of}
use Rattle.gcl_model.specs.Slots.{SlotRange, AreRangesWithin}
use Rattle.gcl_model.specs.Texts.{Word}
use Rattle.gcl_model.proofs.Lists.{all_append, all_weaker, all_kept, filter_gone, filter-map}
use Rattle.address_space.specs.Runs.{FileEntry}
use Rattle.delete_mask.specs.Masks.{is_within}
use Rattle.delete_mask.proofs.MaskLemmas.{is_within-inside, is_within-before, is_within-behind}
use Rattle.live_version.specs.Contents.{SlotContent, VersionContent, IsSlot, IsVersion, LiesIn, files_of, live_words, ranges_of}
use Rattle.live_version.specs.StandsFor.{StandsFor, entry_of}
use Rattle.live_version.proofs.PartLaws.{slots_are_parts}
use Rattle.live_version.proofs.WordLemmas.{no_live_words}
use Rattle.manifest_publish.specs.Histories.{IsLatest, IsLawful}
use Rattle.manifest_publish.specs.Laws.{HaveSame, SlotsKeepFiles}
use Rattle.manifest_publish.proofs.Stands.{latest-stands}
use Rattle.manifest_publish.proofs.Survivors.{IsLater, lawful-front, survivors}

-- the file lies inside the range, or before it, or behind it
abbrev InOrOut : SlotRange → FileEntry → Type 0
InOrOut range file = LiesIn range file ⊎ ((file.base + file.len ≤ range.first) ⊎ (range.last < file.base))

files_from : (low end : ℕ) (slots : List SlotContent) → AreRangesWithin low end (ranges_of slots) → AllByRecursion IsSlot slots → AllByRecursion (λ file. low ≤ file.base) (files_of slots)
files_from low end [] apart are = tt
files_from low end (slot ∷ slots) apart are =
    let first : low ≤ slot.range.first = apart.0 in
    let ordered : slot.range.first ≤ slot.range.last = apart.1 in
    all_append (λ file. low ≤ file.base) slot.files (files_of slots)
    (all_weaker (LiesIn slot.range) (λ file. low ≤ file.base) (λ file lies. let from : slot.range.first ≤ file.base = lies.0 in omega arith) slot.files are.0.files)
    (all_weaker (λ (file : FileEntry). slot.range.last + 1 ≤ file.base) (λ file. low ≤ file.base) (λ file from. omega arith) (files_of slots) (files_from (slot.range.last + 1) end slots apart.3 are.1))

-- where a slot of a list lies
pub range_at : (low end : ℕ) (slots : List SlotContent) (a : ℕ) (s : SlotContent) → AreRangesWithin low end (ranges_of slots) → slice_get slots a ≡ Some s → (low ≤ s.range.first) × (s.range.first ≤ s.range.last) × (s.range.last < end)
range_at low end [] a s apart at = absurd (cc at)
range_at low end (slot ∷ slots) zero s apart at =
    let same : slot ≡ s = cc at in
    subst (λ (x : SlotContent). (low ≤ x.range.first) × (x.range.first ≤ x.range.last) × (x.range.last < end)) same (apart.0, apart.1, apart.2)
range_at low end (slot ∷ slots) (suc a) s apart at =
    let rest = range_at (slot.range.last + 1) end slots a s apart.3 at in
    let first : low ≤ slot.range.first = apart.0 in
    let ordered : slot.range.first ≤ slot.range.last = apart.1 in
    let from : slot.range.last + 1 ≤ s.range.first = rest.0 in
    (omega arith, rest.1, rest.2)

-- each file of the slots lies inside a slot or outside of it
pub in_or_out : (low end : ℕ) (slots : List SlotContent) (a : ℕ) (s : SlotContent) → AreRangesWithin low end (ranges_of slots) → AllByRecursion IsSlot slots → slice_get slots a ≡ Some s
    → AllByRecursion (InOrOut s.range) (files_of slots)
in_or_out low end [] a s apart are at = absurd (cc at)
in_or_out low end (slot ∷ slots) zero s apart are at =
    let same : slot ≡ s = cc at in
    subst (λ (x : SlotContent). AllByRecursion (InOrOut x.range) (slot.files ++ files_of slots)) same
    (all_append (InOrOut slot.range) slot.files (files_of slots)
    (all_weaker (LiesIn slot.range) (InOrOut slot.range) (λ file lies. inl lies) slot.files are.0.files)
    (all_weaker (λ (file : FileEntry). slot.range.last + 1 ≤ file.base) (InOrOut slot.range) (λ file from. inr (inr (omega arith))) (files_of slots) (files_from (slot.range.last + 1) end slots apart.3 are.1)))
in_or_out low end (slot ∷ slots) (suc a) s apart are at =
    let where_is = range_at (slot.range.last + 1) end slots a s apart.3 at in
    let from : slot.range.last + 1 ≤ s.range.first = where_is.0 in
    all_append (InOrOut s.range) slot.files (files_of slots)
    (all_weaker (LiesIn slot.range) (InOrOut s.range) (λ file lies. let to : file.base + file.len ≤ slot.range.last + 1 = lies.1 in inr (inl (omega arith))) slot.files are.0.files)
    (in_or_out (slot.range.last + 1) end slots a s apart.3 are.1 at)

all_unmap : {X Y : Type 0} (P : Y → Type 0) (f : X → Y) (xs : List X) → AllByRecursion P (map f xs) → AllByRecursion (λ x. P (f x)) xs
all_unmap P f [] h = tt
all_unmap P f (x ∷ xs) h = (h.0, all_unmap P f xs h.1)

-- tokens at addresses of a range
words_in : (range : SlotRange) (p : ℕ) (tokens : List (List ℕ)) → range.first ≤ p → p + length tokens ≤ range.last + 1 → filter (λ (w : Word). is_within range w.address) (words_from p tokens) ≡ words_from p tokens
words_in range p [] from to = refl
words_in range p (token ∷ tokens) from to =
    let rest = words_from (p + 1) tokens in
    let w : Word = record { address = p; token = token } in
    ap (λ b. cond b (w ∷ filter (λ (x : Word). is_within range x.address) rest) (filter (λ (x : Word). is_within range x.address) rest)) (is_within-inside range p from (omega arith))
    ∙ ap (λ ws. w ∷ ws) (words_in range (p + 1) tokens (omega arith) (omega arith))

-- and outside of it
words_out : (range : SlotRange) (p : ℕ) (tokens : List (List ℕ)) → (p + length tokens ≤ range.first) ⊎ (range.last < p) → filter (λ (w : Word). is_within range w.address) (words_from p tokens) ≡ []
words_out range p [] out = refl
words_out range p (token ∷ tokens) (inl before) =
    let rest = words_from (p + 1) tokens in
    let w : Word = record { address = p; token = token } in
    ap (λ b. cond b (w ∷ filter (λ (x : Word). is_within range x.address) rest) (filter (λ (x : Word). is_within range x.address) rest)) (is_within-before range p (omega arith))
    ∙ words_out range (p + 1) tokens (inl (omega arith))
words_out range p (token ∷ tokens) (inr behind) =
    let rest = words_from (p + 1) tokens in
    let w : Word = record { address = p; token = token } in
    ap (λ b. cond b (w ∷ filter (λ (x : Word). is_within range x.address) rest) (filter (λ (x : Word). is_within range x.address) rest)) (is_within-behind range p behind)
    ∙ words_out range (p + 1) tokens (inr (omega arith))

abbrev words_of_file : File → List Word
words_of_file file = words_from file.base (with_boundaries file.tokens)

all_length : (tokens : List (List ℕ)) → length (with_boundaries tokens) ≡ width_of tokens
all_length tokens = let n = length-append tokens (file_end ∷ []) in omega (arith, n)

abbrev in_range : SlotRange → Word → Bool
in_range range w = is_within range w.address

abbrev files_in : SlotRange → List File → List File
files_in range files = filter (λ f. is_within range f.base) files

one_file : (range : SlotRange) (file : File) (files : List File) (b : Bool) → is_within range file.base ≡ b → filter (in_range range) (words_of_file file) ≡ cond b (words_of_file file) []
    → filter (in_range range) (flat_map words_of_file files) ≡ flat_map words_of_file (files_in range files)
    → filter (in_range range) (words_of_file file) ++ filter (in_range range) (flat_map words_of_file files) ≡ flat_map words_of_file (files_in range (file ∷ files))
one_file range file files true e ws rest =
    ap (λ l. l ++ filter (in_range range) (flat_map words_of_file files)) ws ∙ ap (λ l. words_of_file file ++ l) rest
    ∙ sym (ap (λ k. flat_map words_of_file (cond k (file ∷ files_in range files) (files_in range files))) e)
one_file range file files false e ws rest =
    ap (λ l. l ++ filter (in_range range) (flat_map words_of_file files)) ws ∙ rest
    ∙ sym (ap (λ k. flat_map words_of_file (cond k (file ∷ files_in range files) (files_in range files))) e)

by_place : (range : SlotRange) (file : File) (files : List File) → InOrOut range (entry_of file)
    → filter (in_range range) (flat_map words_of_file files) ≡ flat_map words_of_file (files_in range files)
    → filter (in_range range) (words_of_file file) ++ filter (in_range range) (flat_map words_of_file files) ≡ flat_map words_of_file (files_in range (file ∷ files))
by_place range file files (inl lies) rest =
    let n : length (with_boundaries file.tokens) ≡ width_of file.tokens = all_length file.tokens in
    let from : range.first ≤ file.base = lies.0 in
    let to : file.base + width_of file.tokens ≤ range.last + 1 = lies.1 in
    one_file range file files true (is_within-inside range file.base from (omega arith)) (words_in range file.base (with_boundaries file.tokens) from (omega (arith, n))) rest
by_place range file files (inr (inl before)) rest =
    let n : length (with_boundaries file.tokens) ≡ width_of file.tokens = all_length file.tokens in
    let under : file.base + width_of file.tokens ≤ range.first = before in
    one_file range file files false (is_within-before range file.base (omega arith)) (words_out range file.base (with_boundaries file.tokens) (inl (omega (arith, n)))) rest
by_place range file files (inr (inr behind)) rest =
    one_file range file files false (is_within-behind range file.base behind) (words_out range file.base (with_boundaries file.tokens) (inr behind)) rest

-- the words of files that each lie inside a range or outside of it: those in the range are those of the files in it
words_of_those : (range : SlotRange) (files : List File) → AllByRecursion (λ f. InOrOut range (entry_of f)) files
    → filter (in_range range) (flat_map words_of_file files) ≡ flat_map words_of_file (files_in range files)
words_of_those range [] all = refl
words_of_those range (file ∷ files) all =
    filter-append (in_range range) (words_of_file file) (flat_map words_of_file files) ∙ by_place range file files all.0 (words_of_those range files all.1)

-- if no fewer of the left ones pass a test, all that pass it are left
filter-less : {X : Type 0} (p left : X → Bool) (xs : List X) → length (filter p (filter left xs)) ≤ length (filter p xs)
filter-less p left [] = omega arith
filter-less p left (x ∷ xs) = by_case (left x) (p x) refl (filter-less p left xs)
  where
    by_case : (b k : Bool) → p x ≡ k → length (filter p (filter left xs)) ≤ length (filter p xs) → length (filter p (cond b (x ∷ filter left xs) (filter left xs))) ≤ length (cond (p x) (x ∷ filter p xs) (filter p xs))
    by_case true true e h = rw e (omega arith)
    by_case true false e h = rw e h
    by_case false true e h = rw e (omega arith)
    by_case false false e h = rw e h

filter-same : {X : Type 0} (p left : X → Bool) (xs : List X) → length (filter p (filter left xs)) ≡ length (filter p xs) → filter p (filter left xs) ≡ filter p xs
filter-same p left [] same = refl
filter-same p left (x ∷ xs) same = by_case (left x) (p x) refl same (filter-same p left xs) (filter-less p left xs)
  where
    by_case : (b k : Bool) → p x ≡ k → length (filter p (cond b (x ∷ filter left xs) (filter left xs))) ≡ length (cond (p x) (x ∷ filter p xs) (filter p xs))
        → (length (filter p (filter left xs)) ≡ length (filter p xs) → filter p (filter left xs) ≡ filter p xs) → length (filter p (filter left xs)) ≤ length (filter p xs)
        → filter p (cond b (x ∷ filter left xs) (filter left xs)) ≡ cond (p x) (x ∷ filter p xs) (filter p xs)
    by_case true true e same next less = let s = rw e at same in rw e (ap (λ l. x ∷ l) (next (omega (arith, s))))
    by_case true false e same next less = let s = rw e at same in rw e (next s)
    by_case false true e same next less = let s = rw e at same in absurd (omega (arith, s, less))
    by_case false false e same next less = let s = rw e at same in rw e (next s)

-- no word of files that lie behind a range is in it
words_behind : (range : SlotRange) (next : ℕ) (files : List File) → range.last < next → AllByRecursion (λ file. next ≤ file.base) files → filter (in_range range) (flat_map words_of_file files) ≡ []
words_behind range next [] lt all = refl
words_behind range next (file ∷ files) lt all =
    let from : next ≤ file.base = all.0 in
    filter-append (in_range range) (words_of_file file) (flat_map words_of_file files)
    ∙ ap (λ l. l ++ filter (in_range range) (flat_map words_of_file files)) (words_out range file.base (with_boundaries file.tokens) (inr (omega arith)))
    ∙ words_behind range next files lt all.1

files_behind : (range : SlotRange) (next : ℕ) (files : List File) → range.last < next → AllByRecursion (λ file. next ≤ file.base) files → files_in range files ≡ []
files_behind range next files lt all =
    filter_gone (λ (f : File). is_within range f.base) files
    (all_weaker (λ (f : File). next ≤ f.base) (λ f. is_within range f.base ≡ false) (λ f from. is_within-behind range f.base (omega arith)) files all)

-- a slot's files are those of the collection that begin in its range
slot_files : (v : VersionContent) (c : Collection) (a : ℕ) (s : SlotContent) → IsVersion v → StandsFor v c → slice_get v.slots a ≡ Some s → s.files ≡ map entry_of (files_in s.range c.files)
slot_files v c a s is stands at =
    (slots_are_parts v a s is at).files ∙ ap (filter (λ (f : FileEntry). is_within s.range f.base)) stands.files ∙ filter-map (λ (f : FileEntry). is_within s.range f.base) entry_of c.files

slot_words : (v : VersionContent) (c : Collection) (a : ℕ) (s : SlotContent) → IsVersion v → StandsFor v c → slice_get v.slots a ≡ Some s → live_words s ≡ filter (in_range s.range) (flat_map words_of_file c.files)
slot_words v c a s is stands at = (slots_are_parts v a s is at).words ∙ ap (filter (in_range s.range)) stands.words

same_later : (v w : VersionContent) (c d : Collection) (a b : ℕ) (s t : SlotContent) → IsVersion v → IsVersion w → StandsFor v c → StandsFor w d → IsLater c d → slice_get v.slots a ≡ Some s → slice_get w.slots b ≡ Some t
    → t.range ≡ s.range → length t.files ≡ length s.files → HaveSame s t
same_later v w c d a b s t isv isw sv sw later sat bt range count =
    let r = s.range in
    let under : r.last < v.next = (range_at v.first v.next v.slots a s isv.apart sat).2 in
    let lt : r.last < c.next = subst (λ n. r.last < n) sv.next under in
    let left = filter later.left c.files in
    let all : files_in r d.files ≡ files_in r left =
    ap (files_in r) later.files ∙ filter-append (λ (f : File). is_within r f.base) left later.new ∙ ap (λ l. files_in r left ++ l) (files_behind r c.next later.new lt later.behind) ∙ append-nil (files_in r left) in
    let mine : s.files ≡ map entry_of (files_in r c.files) = slot_files v c a s isv sv sat in
    let theirs : t.files ≡ map entry_of (files_in r left) =
    slot_files w d b t isw sw bt ∙ ap (λ (x : SlotRange). map entry_of (files_in x d.files)) range ∙ ap (map entry_of) all in
    let m : length s.files ≡ length (files_in r c.files) = ap length mine ∙ length-map (files_in r c.files) entry_of in
    let n : length t.files ≡ length (files_in r left) = ap length theirs ∙ length-map (files_in r left) entry_of in
    let same : files_in r left ≡ files_in r c.files = filter-same (λ (f : File). is_within r f.base) later.left c.files (omega (arith, m, n, count)) in
    let places : AllByRecursion (λ f. InOrOut r (entry_of f)) c.files =
    all_unmap (InOrOut r) entry_of c.files (subst (AllByRecursion (InOrOut r)) sv.files (in_or_out v.first v.next v.slots a s isv.apart isv.slots sat)) in
    let words : filter (in_range r) (flat_map words_of_file d.files) ≡ filter (in_range r) (flat_map words_of_file left) =
    ap (λ (l : List File). filter (in_range r) (flat_map words_of_file l)) later.files
    ∙ ap (filter (in_range r)) (flat_map-append words_of_file left later.new)
    ∙ filter-append (in_range r) (flat_map words_of_file left) (flat_map words_of_file later.new)
    ∙ ap (λ l. filter (in_range r) (flat_map words_of_file left) ++ l) (words_behind r c.next later.new lt later.behind)
    ∙ append-nil (filter (in_range r) (flat_map words_of_file left)) in
    record {
      files = theirs ∙ ap (map entry_of) same ∙ sym mine;
      words = slot_words w d b t isw sw bt ∙ ap (λ (x : SlotRange). filter (in_range x) (flat_map words_of_file d.files)) range ∙ words
          ∙ words_of_those r left (all_kept (λ f. InOrOut r (entry_of f)) later.left c.files places)
          ∙ ap (flat_map words_of_file) same
          ∙ sym (words_of_those r c.files places)
          ∙ sym (slot_words v c a s isv sv sat);
    }

slot_is : (slots : List SlotContent) (a : ℕ) (s : SlotContent) → AllByRecursion IsSlot slots → slice_get slots a ≡ Some s → IsSlot s
slot_is [] a s are at = absurd (cc at)
slot_is (slot ∷ slots) zero s are at = let same : slot ≡ s = cc at in subst IsSlot same are.0
slot_is (slot ∷ slots) (suc a) s are at = slot_is slots a s are.1 at

-- if no id was given, a slot has no files
none_given : (v : VersionContent) (c : Collection) (a : ℕ) (s : SlotContent) → IsVersion v → StandsFor v c → c.next_id ≡ 0 → slice_get v.slots a ≡ Some s → s.files ≡ []
none_given v c a s is stands none at =
    let used = is.used in
    let ids : v.next_id ≡ c.next_id = stands.next_id in
    let empty : files_of v.slots ≡ [] = nil_from_length (files_of v.slots) (omega arith) in
    (slots_are_parts v a s is at).files ∙ ap (filter (λ (f : FileEntry). is_within s.range f.base)) empty

-- two slots of one range and one number of files, of the last versions of a history and of its beginning
pub same_slots : (list rest : List VersionContent) (v w : VersionContent) (c : Collection) (a b : ℕ) (s t : SlotContent) → IsLawful (list ++ rest) → IsLatest list v → IsLatest (list ++ rest) w → StandsFor v c → IsVersion v → IsVersion w
    → slice_get v.slots a ≡ Some s → slice_get w.slots b ≡ Some t → t.range ≡ s.range → length t.files ≡ length s.files → HaveSame s t
same_slots list rest v w c a b s t lawful latest last stands isv isw sat bt range count = ⊎_elim some none (cases_lt 0 c.next_id)
  where
    some : 0 < c.next_id → HaveSame s t
    some lt = let l = survivors list rest v w c lawful latest last stands lt in same_later v w c l.0 a b s t isv isw stands l.1 l.2 sat bt range count

    none : c.next_id ≤ 0 → HaveSame s t
    none le =
        let mine : s.files ≡ [] = none_given v c a s isv stands (omega arith) sat in
        let theirs : t.files ≡ [] = nil_from_length t.files (count ∙ ap length mine) in
        record {
          files = theirs ∙ sym mine;
          words = no_live_words t (slot_is w.slots b t isw.slots bt) theirs ∙ sym (no_live_words s (slot_is v.slots a s isv.slots sat) mine);
        }

-- the collection that the earlier version stands for is found from its history
pub slots-keep-files : SlotsKeepFiles
slots-keep-files list rest v w a b s t lawful latest last isv isw sat bt range count =
    let stands = latest-stands list v (lawful-front list rest v lawful latest) latest in
    same_slots list rest v w stands.0 a b s t lawful latest last stands.1 isv isw sat bt range count
