-- Each address of some files has a rank of its own.
use Rattle.std.proofs.Common.{◌≡◌, ℕ, zero, suc, ◌+◌, ◌-◌, ◌<◌, ◌≤◌, Bool, true, false, ◌||◌, eqb, List, [], ◌∷◌, length, take, get_or, set, Some, None, inl, inr, refl, sym, ap, ◌∙◌, subst, arith, le_refl}
use Rattle.std.specs.List.{AllByRecursion, prefix_len}
use Rattle.std.specs.List.Sorted.{IsNonDecreasingBy}
use Rattle.std.proofs.lemmas.Bool.{cases_Bool, cases_lt, or_cases, or_left, or_right, eqb-true, eqb-false, leb-true, leb-false, le-leb, lt-leb}
use Rattle.std.proofs.lemmas.List.{get_or-set_other, get_or-set_same}
use Rattle.std.proofs.lemmas.List.Sums.{prefix_len_stops}
use Rattle.address_space.specs.Runs.{FileEntry, IsFileRun, Precedes}
use Rattle.live_version.specs.Contents.{is_of_file, is_of_files}
use Rattle.live_version.proofs.ChangeFiles.{is_of_file-inside, is_of_file-behind, is_of_file-bounds, is_of_file-before}
use Rattle.image_read.specs.declared.places.Role.{Role}
use Rattle.image_read.specs.Reading.{IsRankOf, Sees, ends_by, rank, role_in, role_of_file, widths}
use Rattle.image_read.proofs.AddressTracking.{role_of_files}
use Rattle.image_read.proofs.Candidates.{role_here, role_later}

pub rank-small : (files : List FileEntry) (p : ℕ) → is_of_files files p ≡ true → rank files p < widths files
rank-small [] p is = absurd cc
rank-small (file ∷ files) p is = elim (cases_Bool (is_of_file p file)) [
  | inl h ↦ let at = is_of_file-bounds p file h in let a : file.base ≤ p = at.0 in let b : p < file.base + file.len = at.1 in rw h (omega arith)
  | inr h ↦ let rest : is_of_files files p ≡ true = rw h at is in let small = rank-small files p rest in rw h (omega (arith, small))
]

pub rank-same : (files : List FileEntry) (p q : ℕ) → is_of_files files p ≡ true → is_of_files files q ≡ true → rank files p ≡ rank files q → p ≡ q
rank-same [] p q ip iq same = absurd cc
rank-same (file ∷ files) p q ip iq same = elim (cases_Bool (is_of_file p file)) [
  | inl h ↦ elim (cases_Bool (is_of_file q file)) [
    | inl g ↦
        let same : p - file.base ≡ q - file.base = rw (h, g) at same in
        let a = is_of_file-bounds p file h in
        let b = is_of_file-bounds q file g in
        let c : file.base ≤ p = a.0 in
        let d : file.base ≤ q = b.0 in
        omega arith
    | inr g ↦
        let same : p - file.base ≡ file.len + rank files q = rw (h, g) at same in
        let a = is_of_file-bounds p file h in
        let c : file.base ≤ p = a.0 in
        let d : p < file.base + file.len = a.1 in
        absurd (omega (arith, same))
  ]
  | inr h ↦
      let rp : is_of_files files p ≡ true = rw h at ip in
      elim (cases_Bool (is_of_file q file)) [
        | inl g ↦
            let same : file.len + rank files p ≡ q - file.base = rw (h, g) at same in
            let b = is_of_file-bounds q file g in
            let c : file.base ≤ q = b.0 in
            let d : q < file.base + file.len = b.1 in
            absurd (omega (arith, same))
        | inr g ↦
            let rq : is_of_files files q ≡ true = rw g at iq in
            let same : file.len + rank files p ≡ file.len + rank files q = rw (h, g) at same in
            rank-same files p q rp rq (omega (arith, same))
      ]
]

-- the files before a place all end before the address
abbrev pub EndBefore : List FileEntry → ℕ → ℕ → Type 0
EndBefore files i p = AllByRecursion (λ (file : FileEntry). file.base + file.len ≤ p) (take i files)

pub rank-at : (files : List FileEntry) (i p : ℕ) (d : FileEntry) → i < length files → EndBefore files i p → is_of_file p (get_or files i d) ≡ true → rank files p ≡ widths (take i files) + (p - (get_or files i d).base)
rank-at [] i p d lt before is = absurd (omega arith)
rank-at (file ∷ files) zero p d lt before is = rw is (omega arith)
rank-at (file ∷ files) (suc i) p d lt before is =
    let rest = rank-at files i p d (omega arith) before.1 is in
    let skip = is_of_file-behind p file before.0 in
    rw skip (omega (arith, rest))

pub role-at : (files : List FileEntry) (i p : ℕ) (d : FileEntry) → i < length files → EndBefore files i p → is_of_file p (get_or files i d) ≡ true → role_in files p ≡ Some (role_of_file p (get_or files i d))
role-at [] i p d lt before is = absurd (omega arith)
role-at (file ∷ files) zero p d lt before is = role_here p file files is
role-at (file ∷ files) (suc i) p d lt before is = role_later p file files (is_of_file-behind p file before.0) ∙ role-at files i p d (omega arith) before.1 is

pub of_files_at : (files : List FileEntry) (i p : ℕ) (d : FileEntry) → i < length files → is_of_file p (get_or files i d) ≡ true → is_of_files files p ≡ true
of_files_at [] i p d lt is = absurd (omega arith)
of_files_at (file ∷ files) zero p d lt is = or_left (is_of_file p file) (is_of_files files p) is
of_files_at (file ∷ files) (suc i) p d lt is = or_right (is_of_file p file) (is_of_files files p) (of_files_at files i p d (omega arith) is)

none_after : (p : ℕ) (file : FileEntry) (files : List FileEntry) → p < file.base → AllByRecursion (Precedes file) files → role_in files p ≡ None
none_after p file [] lt all = refl
none_after p file (next ∷ files) lt all =
    let order : file.base + file.len ≤ next.base = all.0.addresses in
    role_later p next files (is_of_file-before p next (omega arith)) ∙ none_after p file files lt all.1

-- between the files before a place and the one there is no file
pub role-none : (files : List FileEntry) (i p : ℕ) (d : FileEntry) → IsFileRun files → i < length files → EndBefore files i p → p < (get_or files i d).base → role_in files p ≡ None
role-none [] i p d run lt before less = absurd (omega arith)
role-none (file ∷ files) zero p d run lt before less = role_later p file files (is_of_file-before p file less) ∙ none_after p file files less run.1
role-none (file ∷ files) (suc i) p d run lt before less = role_later p file files (is_of_file-behind p file before.0) ∙ role-none files i p d run.2 (omega arith) before.1 less

pub role-past : (files : List FileEntry) (p : ℕ) → EndBefore files (length files) p → role_in files p ≡ None
role-past [] p before = refl
role-past (file ∷ files) p before = role_later p file files (is_of_file-behind p file before.0) ∙ role-past files p before.1

-- the ends of files rise
ends_later : (e : FileEntry) (files : List FileEntry) → AllByRecursion (Precedes e) files → (j : ℕ) (d : FileEntry) → j < length files → e.base + e.len ≤ (get_or files j d).base + (get_or files j d).len
ends_later e [] all j d lt = absurd (omega arith)
ends_later e (f ∷ fs) all zero d lt = let order : e.base + e.len ≤ f.base = all.0.addresses in omega arith
ends_later e (f ∷ fs) all (suc j) d lt = ends_later e fs all.1 j d (omega arith)

pub ends_rise : (files : List FileEntry) → IsFileRun files → IsNonDecreasingBy (λ (f : FileEntry). f.base + f.len) files
ends_rise [] run i j d le lt = absurd (omega arith)
ends_rise (f ∷ fs) run zero zero d le lt = le_refl (f.base + f.len)
ends_rise (f ∷ fs) run zero (suc j) d le lt = ends_later f fs run.1 j d (omega arith)
ends_rise (f ∷ fs) run (suc i) zero d le lt = absurd (omega arith)
ends_rise (f ∷ fs) run (suc i) (suc j) d le lt = ends_rise fs run.2 i j d (omega arith) (omega arith)

-- if the files before a place are those that end by the address, the file there is the only one that may have it
pub record IsFirstLeft (files : List FileEntry) (p i : ℕ) (e : FileEntry) : Type 0 where
  pub here : e ≡ get_or files i e
  pub within : i < length files
  pub before : EndBefore files i p
  pub until : p < e.base + e.len

end_before : (files : List FileEntry) (p : ℕ) → EndBefore files (prefix_len (ends_by p) files) p
end_before [] p = tt
end_before (file ∷ files) p = elim (cases_Bool (ends_by p file)) [
  | inl h ↦
      let same : suc (prefix_len (ends_by p) files) ≡ 1 + prefix_len (ends_by p) files = omega arith in
      rw h (subst (λ n. EndBefore (file ∷ files) n p) same (leb-true (file.base + file.len) p h, end_before files p))
  | inr h ↦ rw h tt
]

pub first_left : (files : List FileEntry) (p i : ℕ) (e : FileEntry) → i ≡ prefix_len (ends_by p) files → i < length files → e ≡ get_or files i e → IsFirstLeft files p i e
first_left files p i e at lt here =
    let stops : ends_by p (get_or files i e) ≡ false = subst (λ j. j < length files → ends_by p (get_or files j e) ≡ false) (sym at) (prefix_len_stops (ends_by p) files e) lt in
    let on : ends_by p e ≡ false = ap (ends_by p) here ∙ stops in
    record {
      here = here;
      within = lt;
      before = subst (λ j. EndBefore files j p) (sym at) (end_before files p);
      until = leb-false (e.base + e.len) p on;
    }

pub left_of : (files : List FileEntry) (p i : ℕ) (e : FileEntry) → IsFirstLeft files p i e → e.base ≤ p → is_of_file p e ≡ true
left_of files p i e left le = is_of_file-inside p e le left.until

pub left_rank : (files : List FileEntry) (p i : ℕ) (e : FileEntry) → IsFirstLeft files p i e → e.base ≤ p → widths (take i files) + (p - e.base) ≡ rank files p
left_rank files p i e left le =
    let of : is_of_file p (get_or files i e) ≡ true = ap (is_of_file p) (sym left.here) ∙ left_of files p i e left le in
    sym (rank-at files i p e left.within left.before of ∙ ap (λ (f : FileEntry). widths (take i files) + (p - f.base)) (sym left.here))

pub left_role : (files : List FileEntry) (p i : ℕ) (e : FileEntry) → IsFirstLeft files p i e → e.base ≤ p → role_in files p ≡ Some (role_of_file p e)
left_role files p i e left le =
    let of : is_of_file p (get_or files i e) ≡ true = ap (is_of_file p) (sym left.here) ∙ left_of files p i e left le in
    role-at files i p e left.within left.before of ∙ ap (λ (f : FileEntry). Some (role_of_file p f)) (sym left.here)

pub left_none : (files : List FileEntry) (p i : ℕ) (e : FileEntry) → IsFileRun files → IsFirstLeft files p i e → p < e.base → role_in files p ≡ None
left_none files p i e run left lt = role-none files i p e run left.within left.before (subst (λ (f : FileEntry). p < f.base) left.here lt)

pub past_none : (files : List FileEntry) (p i : ℕ) → i ≡ prefix_len (ends_by p) files → i ≡ length files → role_in files p ≡ None
past_none files p i at end = role-past files p (subst (λ j. EndBefore files j p) (sym at ∙ end) (end_before files p))

pub not_some : (files : List FileEntry) (p : ℕ) (role : Role) → role_in files p ≡ None → role_in files p ≡ Some role → ⊥
not_some files p role none some = let no : None ≡ Some role = sym none ∙ some in absurd cc

pub role_differs : (files : List FileEntry) (p : ℕ) (role other : Role) → role_in files p ≡ Some other → (other ≡ role → ⊥) → role_in files p ≡ Some role → ⊥
role_differs files p role other is differ some = let same : Some other ≡ Some role = sym is ∙ some in differ cc

-- each rank is that of an address
later_from : (p : ℕ) (file : FileEntry) (files : List FileEntry) → AllByRecursion (Precedes file) files → is_of_files files p ≡ true → file.base + file.len ≤ p
later_from p file [] all is = absurd cc
later_from p file (next ∷ files) all is = elim (or_cases (is_of_file p next) (is_of_files files p) is) [
  | inl h ↦ let at = is_of_file-bounds p next h in let a : next.base ≤ p = at.0 in let order : file.base + file.len ≤ next.base = all.0.addresses in omega arith
  | inr h ↦ later_from p file files all.1 h
]

-- if the file at a place has an address, those that end by it are the ones before
pub file_prefix : (files : List FileEntry) (i p : ℕ) (d : FileEntry) → IsFileRun files → i < length files → is_of_file p (get_or files i d) ≡ true → i ≡ prefix_len (ends_by p) files
file_prefix [] i p d run lt is = absurd (omega arith)
file_prefix (file ∷ files) zero p d run lt is = let at = is_of_file-bounds p file is in rw (lt-leb (file.base + file.len) p at.1) refl
file_prefix (file ∷ files) (suc i) p d run lt is =
    let end : file.base + file.len ≤ p = later_from p file files run.1 (of_files_at files i p d (omega arith) is) in
    let rest = file_prefix files i p d run.2 (omega arith) is in
    rw (le-leb (file.base + file.len) p end) (omega (arith, rest))

pub record IsRanked (files : List FileEntry) (k p : ℕ) : Type 0 where
  pub of : is_of_files files p ≡ true
  pub at : rank files p ≡ k

pub unrank : (files : List FileEntry) (k : ℕ) → IsFileRun files → k < widths files → (p : ℕ) × IsRanked files k p
unrank [] k run lt = absurd (omega arith)
unrank (file ∷ files) k run lt = elim (cases_lt k file.len) [
  | inl less ↦
      let p = file.base + k in
      let here = is_of_file-inside p file (omega arith) (omega arith) in
      let is : p - file.base ≡ k = omega arith in
      (p, record { of = or_left (is_of_file p file) (is_of_files files p) here; at = rw here is })
  | inr more ↦
      let later = unrank files (k - file.len) run.2 (omega arith) in
      let p = later.0 in
      let skip = is_of_file-behind p file (later_from p file files run.1 later.1.of) in
      let is = later.1.at in
      (p, record { of = or_right (is_of_file p file) (is_of_files files p) later.1.of; at = rw skip (omega (arith, is)) })
]

-- a mark is set for one address and for no other
pub marked : (files : List FileEntry) (seen : List Bool) (p q : ℕ) → rank files p < length seen → is_of_files files p ≡ true → is_of_files files q ≡ true → get_or (set seen (rank files p) true) (rank files q) false ≡ (eqb q p || get_or seen (rank files q) false)
marked files seen p q lt ip iq = elim (cases_Bool (eqb q p)) [
  | inl h ↦ let same : q ≡ p = eqb-true q p h in rw h (ap (λ r. get_or (set seen (rank files p) true) (rank files r) false) same ∙ get_or-set_same seen (rank files p) true false lt)
  | inr h ↦ rw h (get_or-set_other seen (rank files p) (rank files q) true false (λ same. eqb-false q p h (rank-same files q p iq ip same)))
]

-- if each address of the files was seen, so was each rank
pub full_from : (files : List FileEntry) (seen : List Bool) → IsFileRun files → length seen ≡ widths files → ((p : ℕ) → is_of_files files p ≡ true → get_or seen (rank files p) false ≡ true) → (i : ℕ) → i < length seen → get_or seen i false ≡ true
full_from files seen run marks full i lt =
    let place = unrank files i run (omega (arith, marks, lt)) in
    subst (λ k. get_or seen k false ≡ true) place.1.at (full place.0 place.1.of)

pub full_at : (files : List FileEntry) (seen : List Bool) → length seen ≡ widths files → ((i : ℕ) → i < length seen → get_or seen i false ≡ true) → (p : ℕ) → is_of_files files p ≡ true → get_or seen (rank files p) false ≡ true
full_at files seen marks all p of = let small = rank-small files p of in all (rank files p) (omega (arith, small, marks))

pub widths_more : (files : List FileEntry) (i : ℕ) (d : FileEntry) → i < length files → widths (take (i + 1) files) ≡ widths (take i files) + (get_or files i d).len
widths_more [] i d lt = absurd (omega arith)
widths_more (file ∷ files) zero d lt = omega arith
widths_more (file ∷ files) (suc i) d lt =
    let rest = widths_more files i d (omega arith) in
    let next : suc i + 1 ≡ suc (i + 1) = omega arith in
    ap (λ n. widths (take n (file ∷ files))) next ∙ omega (arith, rest)

pub widths_take : (files : List FileEntry) (n : ℕ) → widths (take n files) ≤ widths files
widths_take [] zero = omega arith
widths_take [] (suc n) = omega arith
widths_take (file ∷ files) zero = omega arith
widths_take (file ∷ files) (suc n) = let rest = widths_take files n in omega (arith, rest)

-- a marked rank is a mark for the address alone
pub sees_marked : (files : List FileEntry) (seen : List Bool) (p at : ℕ) (role : Role) → IsRankOf files seen p role at → Sees (record { files = files; seen = seen }) (record { files = files; seen = set seen at true }) p
sees_marked files seen p at role is =
    let small = is.marked in
    let same = is.ranked in
    record {
      files = refl;
      seen = λ q of. ap (λ r. get_or (set seen r true) (rank files q) false) is.ranked ∙ marked files seen p q (omega (arith, small, same)) (role_of_files files p role is.place) of;
    }
