-- Files by where they lie.
use Rattle.std.proofs.Common.{◌≡◌, ℕ, zero, suc, ◌+◌, ◌-◌, ◌<◌, ◌≤◌, Bool, true, cond, eqb, List, [], ◌∷◌, ◌++◌, length, take, get_or, Some, inl, inr, refl, sym, ap, ◌∙◌, subst, arith}
use Rattle.std.specs.List.{prefix_len}
use Rattle.std.proofs.lemmas.Bool.{cases_lt, cases_eq, eq-eqb, ne_eqb, le-leb, lt-leb, lt-ltb, le-ltb}
use Rattle.std.proofs.lemmas.List.{get_or_default}
use Rattle.gcl_model.proofs.Lists.{prefix_len_at_point}
use Rattle.address_space.specs.Runs.{FileEntry, IsFileRun, IsPlaced}
use Rattle.live_version.proofs.ChangeFiles.{is_of_file-inside}
use Rattle.live_version.specs.Contents.{is_of_file}
use Rattle.image_read.specs.declared.places.Role.{Role}
use Rattle.image_read.specs.declared.places.Role.TheVariants.{Start, Inner, End}
use Rattle.image_read.specs.declared.places.Stretch.{Stretch}
use Rattle.image_read.specs.Reading.{IsNear, IsPlaces, IsRankOf, IsTokenAt, ends_by, rank, role_in, role_of_file, widths}
use Rattle.image_read.specs.Stretches.{AreInRow, ends_before, role_of_stretch, stretch_of, stretches_from}
use Rattle.image_read.proofs.AddressTracking.{role_of_files}
use Rattle.image_read.proofs.PlaceLemmas.{IsFirstLeft, ends_rise, file_prefix, first_left, left_none, left_rank, left_role, not_some, past_none, rank-small, role_differs, widths_more, widths_take}

-- each file has a stretch
pub stretches_long : (before : ℕ) (files : List FileEntry) → length (stretches_from before files) ≡ length files
stretches_long before [] = refl
stretches_long before (file ∷ files) = let rest = stretches_long (before + file.len) files in omega (arith, rest)

pub stretch_at : (before : ℕ) (files : List FileEntry) (i : ℕ) (d : Stretch) (e : FileEntry) → i < length files → get_or (stretches_from before files) i d ≡ stretch_of (get_or files i e) (before + widths (take i files))
stretch_at before [] i d e lt = absurd (omega arith)
stretch_at before (file ∷ files) zero d e lt = let same : before ≡ before + 0 = omega arith in ap (stretch_of file) same
stretch_at before (file ∷ files) (suc i) d e lt =
    let same : before + file.len + widths (take i files) ≡ before + (file.len + widths (take i files)) = omega arith in
    stretch_at (before + file.len) files i d e (omega arith) ∙ ap (stretch_of (get_or files i e)) same

-- each file of a run is placed
pub placed_at : (files : List FileEntry) (i : ℕ) (e : FileEntry) → IsFileRun files → i < length files → IsPlaced (get_or files i e)
placed_at [] i e run lt = absurd (omega arith)
placed_at (file ∷ files) zero e run lt = run.0
placed_at (file ∷ files) (suc i) e run lt = placed_at files i e run.2 (omega arith)

-- a stretch ends before an address if its file ends by it
ends_same : (p before : ℕ) (file : FileEntry) → IsPlaced file → ends_before p (stretch_of file before) ≡ ends_by p file
ends_same p before file placed =
    let long = placed.bounded in
    elim (cases_lt (file.base + (file.len - 1)) p) [
      | inl less ↦ lt-ltb (file.base + (file.len - 1)) p less ∙ sym (le-leb (file.base + file.len) p (omega (arith, less, long)))
      | inr more ↦ le-ltb (file.base + (file.len - 1)) p more ∙ sym (lt-leb (file.base + file.len) p (omega (arith, more, long)))
    ]

-- as many stretches end before an address as files end by it
pub ended_same : (p before : ℕ) (files : List FileEntry) → IsFileRun files → prefix_len (ends_before p) (stretches_from before files) ≡ prefix_len (ends_by p) files
ended_same p before [] run = refl
ended_same p before (file ∷ files) run = rw (ends_same p before file run.0) (ap (λ n. cond (ends_by p file) (1 + n) 0) (ended_same p (before + file.len) files run.2))

-- the stretches of a run end one after the other
pub in_row : (before : ℕ) (files : List FileEntry) → IsFileRun files → AreInRow (stretches_from before files)
in_row before files run i j d le lt =
    let long = stretches_long before files in
    let none : FileEntry = record { id = 0; base = 0; len = 0; name = [] } in
    let within : j < length files = omega (arith, lt, long) in
    let here : i < length files = omega (arith, le, within) in
    let order = ends_rise files run i j none le within in
    let a = placed_at files i none run here in
    let b = placed_at files j none run within in
    let some = a.bounded in
    let more = b.bounded in
    let low = ap (λ (s : Stretch). s.last) (stretch_at before files i d none here) in
    let high = ap (λ (s : Stretch). s.last) (stretch_at before files j d none within) in
    omega (arith, order, some, more, low, high)

-- if one stretch does not end before an address and the one in front of it does, those in front are all that do
pub met_at : (p i : ℕ) (stretches : List Stretch) (d : Stretch) → AreInRow stretches → i < length stretches → p ≤ (get_or stretches i d).last → (0 < i → (get_or stretches (i - 1) d).last < p) → i ≡ prefix_len (ends_before p) stretches
met_at p i stretches d row lt until before =
    prefix_len_at_point (ends_before p) stretches i (omega (arith, lt)) (
      (λ k e ge less.
          let order = row k (i - 1) d (omega (arith, less)) (omega (arith, lt)) in
          let is = ap (λ (s : Stretch). s.last) (get_or_default stretches k e d (omega (arith, less, lt))) in
          let end = before (omega (arith, less)) in
          lt-ltb (get_or stretches k e).last p (omega (arith, order, is, end))),
      (λ k e ge less.
          let order = row i k d ge less in
          let is = ap (λ (s : Stretch). s.last) (get_or_default stretches k e d less) in
          le-ltb (get_or stretches k e).last p (omega (arith, order, is, until))),
    )

-- the role that an address has in a stretch is that in its file
role_same : (p before : ℕ) (file : FileEntry) → IsPlaced file → role_of_stretch p (stretch_of file before) ≡ role_of_file p file
role_same p before file placed =
    let long = placed.bounded in
    elim (cases_eq p (file.base + (file.len - 1))) [
      | inl same ↦ ap (λ b. cond (eqb p file.base) Start (cond b End Inner)) (eq-eqb p (file.base + (file.len - 1)) same ∙ sym (eq-eqb (p + 1) (file.base + file.len) (omega (arith, same, long))))
      | inr other ↦
          ap (λ b. cond (eqb p file.base) Start (cond b End Inner)) (ne_eqb p (file.base + (file.len - 1)) other ∙ sym (ne_eqb (p + 1) (file.base + file.len) (λ same. other (omega (arith, same, long)))))
    ]

role_inner : (p : ℕ) (file : FileEntry) → file.base < p → p < file.base + (file.len - 1) → role_of_file p file ≡ Inner
role_inner p file low high = rw (ne_eqb p file.base (λ same. omega arith), ne_eqb (p + 1) (file.base + file.len) (λ same. omega arith)) refl

-- the file whose stretch a search has found
pub record IsFound (files : List FileEntry) (p i : ℕ) (stretch : Stretch) (e : FileEntry) : Type 0 where
  pub left : IsFirstLeft files p i e
  pub placed : IsPlaced e
  pub is : stretch ≡ stretch_of e (widths (take i files))

found_of : (files : List FileEntry) (p i : ℕ) (stretch : Stretch) (e : FileEntry) → IsFileRun files → i ≡ prefix_len (ends_by p) files → i < length files → stretch ≡ get_or (stretches_from 0 files) i stretch →
    IsFound files p i stretch (get_or files i e)
found_of files p i stretch e run at lt is =
    let f = get_or files i e in
    let zeros : 0 + widths (take i files) ≡ widths (take i files) = omega arith in
    record {
      left = first_left files p i f at lt (get_or_default files i e f lt);
      placed = placed_at files i e run lt;
      is = is ∙ stretch_at 0 files i stretch e lt ∙ ap (stretch_of f) zeros;
    }

pub found_in : (files : List FileEntry) (stretches : List Stretch) (p i : ℕ) (stretch : Stretch) → IsFileRun files → stretches ≡ stretches_from 0 files → i ≡ prefix_len (ends_before p) stretches → i < length stretches →
    stretch ≡ get_or stretches i stretch → (e : FileEntry) × IsFound files p i stretch e
found_in files stretches p i stretch run each at lt is =
    let none : FileEntry = record { id = 0; base = 0; len = 0; name = [] } in
    let long = ap length each ∙ stretches_long 0 files in (
      get_or files i none,
      found_of files p i stretch none run (at ∙ ap (prefix_len (ends_before p)) each ∙ ended_same p 0 files run) (omega (arith, lt, long)) (is ∙ ap (λ l. get_or l i stretch) each),
    )

-- between the ends of the stretch of a file are its tokens
near_token : (files : List FileEntry) (i p : ℕ) (e : FileEntry) → IsFileRun files → i < length files → e ≡ get_or files i e → e.base < p → p < e.base + (e.len - 1) → IsTokenAt files p (widths (take i files) + (p - e.base))
near_token files i p e run lt here low high =
    let of : is_of_file p (get_or files i e) ≡ true = ap (is_of_file p) (sym here) ∙ is_of_file-inside p e (omega (arith, low)) (omega (arith, high)) in
    let left = first_left files p i e (file_prefix files i p e run lt of) lt here in
    record {
      token = left_role files p i e left (omega (arith, low)) ∙ ap (λ r. Some r) (role_inner p e low high);
      ranked = left_rank files p i e left (omega (arith, low));
    }

pub near_found : (files : List FileEntry) (p i : ℕ) (stretch : Stretch) (e : FileEntry) → IsFileRun files → IsFound files p i stretch e → IsNear files stretch
near_found files p i stretch e run found = subst (IsNear files) (sym found.is) (λ q low high. near_token files i q e run found.left.within found.left.here low high)

-- what a search among the stretches has found
pub searched : (files : List FileEntry) (stretches row : List Stretch) (seen : List Bool) (near : Stretch) (p i long : ℕ) (stretch : Stretch) → IsPlaces files stretches seen near → row ≡ stretches → i ≡ prefix_len (ends_before p) row →
    i ≤ length row → long ≡ length stretches → (i ≡ long → ⊥) → stretch ≡ get_or stretches i stretch → (e : FileEntry) × IsFound files p i stretch e
searched files stretches row seen near p i long stretch is same at within size other here =
    let rows = ap length same in
    found_in files stretches p i stretch is.run is.each (at ∙ ap (prefix_len (ends_before p)) same) (omega (arith, within, rows, size, other)) here

-- another stretch is near after that
pub near_now : (files : List FileEntry) (stretches : List Stretch) (seen : List Bool) (near : Stretch) (p i : ℕ) (stretch : Stretch) (e : FileEntry) → IsPlaces files stretches seen near → IsFound files p i stretch e → IsPlaces files stretches seen stretch
near_now files stretches seen near p i stretch e is found = record { run = is.run; each = is.each; marks = is.marks; small = is.small; tokens = near_found files p i stretch e is.run found }

-- behind all stretches no file has the address
pub found_none : (files : List FileEntry) (stretches : List Stretch) (p i : ℕ) (role : Role) → IsFileRun files → stretches ≡ stretches_from 0 files → i ≡ prefix_len (ends_before p) stretches → i ≡ length stretches → role_in files p ≡ Some role → ⊥
found_none files stretches p i role run each at end =
    not_some files p role (past_none files p i (at ∙ ap (prefix_len (ends_before p)) each ∙ ended_same p 0 files run) (end ∙ ap length each ∙ stretches_long 0 files))

-- nor does the one that was found if it begins behind the address, or holds another role there
pub found_behind : (files : List FileEntry) (p i : ℕ) (stretch : Stretch) (e : FileEntry) (role : Role) → IsFileRun files → IsFound files p i stretch e → p < stretch.first → role_in files p ≡ Some role → ⊥
found_behind files p i stretch e role run found lt =
    let first = ap (λ (s : Stretch). s.first) found.is in
    not_some files p role (left_none files p i e run found.left (omega (arith, lt, first)))

found_role : (files : List FileEntry) (p i : ℕ) (stretch : Stretch) (e : FileEntry) → IsFound files p i stretch e → stretch.first ≤ p → role_in files p ≡ Some (role_of_stretch p stretch)
found_role files p i stretch e found le =
    let first = ap (λ (s : Stretch). s.first) found.is in
    left_role files p i e found.left (omega (arith, le, first)) ∙ ap (λ r. Some r) (sym (ap (role_of_stretch p) found.is ∙ role_same p (widths (take i files)) e found.placed))

pub found_other : (files : List FileEntry) (p i : ℕ) (stretch : Stretch) (e : FileEntry) (role : Role) → IsFound files p i stretch e → stretch.first ≤ p → (role_of_stretch p stretch ≡ role → ⊥) → role_in files p ≡ Some role → ⊥
found_other files p i stretch e role found le differ = role_differs files p role (role_of_stretch p stretch) (found_role files p i stretch e found le) differ

-- and else it says where the mark of the address is
pub ranked_at : (files : List FileEntry) (seen : List Bool) (p at : ℕ) (role : Role) → length seen ≡ widths files → role_in files p ≡ Some role → at ≡ rank files p → IsRankOf files seen p role at
ranked_at files seen p at role marks place is =
    let small = rank-small files p (role_of_files files p role place) in
    record { place = place; ranked = is; marked = omega (arith, small, is, marks) }

pub found_rank : (files : List FileEntry) (seen : List Bool) (p i : ℕ) (stretch : Stretch) (e : FileEntry) (role : Role) → length seen ≡ widths files → IsFound files p i stretch e → stretch.first ≤ p → role_of_stretch p stretch ≡ role →
    IsRankOf files seen p role (stretch.before + (p - stretch.first))
found_rank files seen p i stretch e role marks found le is =
    let first = ap (λ (s : Stretch). s.first) found.is in
    let before = ap (λ (s : Stretch). s.before) found.is in
    let rank_is = left_rank files p i e found.left (omega (arith, le, first)) in
    let at : stretch.before + (p - stretch.first) ≡ rank files p = omega (arith, rank_is, first, before) in
    ranked_at files seen p (stretch.before + (p - stretch.first)) role marks (found_role files p i stretch e found le ∙ ap (λ r. Some r) is) at

-- this many files were gone through: where each lies is noted, and there are not too many addresses
pub record AreCounted (files : List FileEntry) (i : ℕ) (stretches : List Stretch) (total most : ℕ) : Type 0 where
  pub each : stretches ≡ stretches_from 0 (take i files)
  pub sum : total ≡ widths (take i files)
  pub few : total ≤ most

stretches_more : (before : ℕ) (files : List FileEntry) (i : ℕ) (d : FileEntry) → i < length files → stretches_from before (take (i + 1) files) ≡ stretches_from before (take i files) ++ stretch_of (get_or files i d) (before + widths (take i files)) ∷ []
stretches_more before [] i d lt = absurd (omega arith)
stretches_more before (file ∷ files) zero d lt = let same : before ≡ before + 0 = omega arith in ap (λ n. stretch_of file n ∷ []) same
stretches_more before (file ∷ files) (suc i) d lt =
    let next : suc i + 1 ≡ suc (i + 1) = omega arith in
    let same : before + file.len + widths (take i files) ≡ before + (file.len + widths (take i files)) = omega arith in
    ap (λ n. stretches_from before (take n (file ∷ files))) next
    ∙ ap (λ l. stretch_of file before ∷ l) (stretches_more (before + file.len) files i d (omega arith))
    ∙ ap (λ n. stretch_of file before ∷ (stretches_from (before + file.len) (take i files) ++ stretch_of (get_or files i d) n ∷ [])) same

-- one file more
pub counted_step : (files : List FileEntry) (i : ℕ) (stretches more : List Stretch) (total most len : ℕ) (e : FileEntry) → AreCounted files i stretches total most → i < length files → e ≡ get_or files i e → len ≡ e.len → len ≤ most - total →
    more ≡ stretches ++ stretch_of e total ∷ [] → AreCounted files (i + 1) more (total + len) most
counted_step files i stretches more total most len e are lt here same fits pushed =
    let sum = are.sum in
    let few = are.few in
    let wide : widths (take (i + 1) files) ≡ widths (take i files) + e.len = widths_more files i e lt ∙ ap (λ (f : FileEntry). widths (take i files) + f.len) (sym here) in
    let zeros : total ≡ 0 + widths (take i files) = omega (arith, sum) in
    record {
      each = pushed ∙ ap (λ l. l ++ stretch_of e total ∷ []) are.each ∙ ap (λ n. stretches_from 0 (take i files) ++ stretch_of e n ∷ []) zeros
          ∙ ap (λ (f : FileEntry). stretches_from 0 (take i files) ++ stretch_of f (0 + widths (take i files)) ∷ []) here
          ∙ sym (stretches_more 0 files i e lt);
      sum = omega (arith, wide, sum, same);
      few = omega (arith, fits, few);
    }

pub counted_full : (files : List FileEntry) (i : ℕ) (stretches : List Stretch) (total most len : ℕ) (e : FileEntry) → AreCounted files i stretches total most → i < length files → e ≡ get_or files i e → len ≡ e.len → most - total < len → most < widths files
counted_full files i stretches total most len e are lt here same more =
    let sum = are.sum in
    let few = are.few in
    let wide : widths (take (i + 1) files) ≡ widths (take i files) + e.len = widths_more files i e lt ∙ ap (λ (f : FileEntry). widths (take i files) + f.len) (sym here) in
    let part = widths_take files (i + 1) in
    omega (arith, wide, part, sum, few, same, more)
