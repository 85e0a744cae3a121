-- The terms of an image take a byte at least for each address of its files.
use Rattle.std.proofs.Common.{◌≡◌, ℕ, zero, suc, ◌+◌, ◌-◌, ◌^◌, ◌<◌, ◌≤◌, Bool, true, false, ◌||◌, eqb, ltb, List, [], ◌∷◌, ◌++◌, length, flat_map, inl, inr, refl, ap, ◌∙◌, subst, arith, length-append}
use Rattle.std.specs.List.{AllByRecursion}
use Rattle.std.proofs.lemmas.Bool.{cases_Bool, or_left, or_right, eqb-true}
use Rattle.gcl_model.proofs.Lists.{all_weaker}
use Rattle.posting_code.specs.Numbers.{spelling}
use Rattle.posting_code.specs.Packed.{packed_from}
use Rattle.posting_code.specs.Postings.{RiseWithin}
use Rattle.address_space.specs.Runs.{FileEntry, IsFileRun}
use Rattle.index_shard.specs.Tables.{TermEntry, has_address}
use Rattle.live_version.specs.Contents.{is_of_file, is_of_files}
use Rattle.live_version.proofs.ChangeFiles.{is_of_file-inside}
use Rattle.image_file.specs.declared.format.Format.{Format}
use Rattle.image_file.specs.Fields.{eight_bytes, term_bytes}
use Rattle.image_read.specs.Reading.{AreTermBytes, HasNoTerms, count_bytes, is_covered, text_bytes, widths}
use Rattle.image_read.proofs.TermTracking.{term_parts}

abbrev one_if : Bool → ℕ
one_if true = 1
one_if false = 0

-- how many of some addresses are one of these
abbrev hits : List ℕ → List ℕ → ℕ
hits ps [] = 0
hits ps (q ∷ qs) = one_if (has_address ps q) + hits ps qs

-- and how often one is p
abbrev times : ℕ → List ℕ → ℕ
times p [] = 0
times p (q ∷ qs) = one_if (eqb p q) + times p qs

hits-none : (qs : List ℕ) → hits [] qs ≡ 0
hits-none [] = refl
hits-none (q ∷ qs) = let rest = hits-none qs in omega (arith, rest)

either : (a b : Bool) → one_if (a || b) ≤ one_if a + one_if b
either true b = omega arith
either false b = omega arith

hits-more : (p : ℕ) (ps qs : List ℕ) → hits (p ∷ ps) qs ≤ times p qs + hits ps qs
hits-more p ps [] = omega arith
hits-more p ps (q ∷ qs) =
    let here = either (eqb p q) (has_address ps q) in
    let rest = hits-more p ps qs in
    omega (arith, here, rest)

times-later : (p low end : ℕ) (qs : List ℕ) → RiseWithin low end qs → p < low → times p qs ≡ 0
times-later p low end [] rise lt = refl
times-later p low end (q ∷ qs) rise lt =
    let from : low ≤ q = rise.0 in
    let rest = times-later p (q + 1) end qs rise.2 (omega arith) in
    let other : eqb p q ≡ false = by_test (eqb p q) refl in
    rw other (omega (arith, rest))
  where
    by_test : (b : Bool) → eqb p q ≡ b → eqb p q ≡ false
    by_test false is = is
    by_test true is = let same = eqb-true p q is in let from : low ≤ q = rise.0 in absurd (omega (arith, same, from, lt))

-- rising addresses have each address once at most
times-once : (p low end : ℕ) (qs : List ℕ) → RiseWithin low end qs → times p qs ≤ 1
times-once p low end [] rise = omega arith
times-once p low end (q ∷ qs) rise = elim (cases_Bool (eqb p q)) [
  | inl h ↦
      let same = eqb-true p q h in
      let rest = times-later p (q + 1) end qs rise.2 (omega (arith, same)) in
      rw h (omega (arith, rest))
  | inr h ↦ let rest = times-once p (q + 1) end qs rise.2 in rw h (omega (arith, rest))
]

hits-few : (low end : ℕ) (ps qs : List ℕ) → RiseWithin low end qs → hits ps qs ≤ length ps
hits-few low end [] qs rise = let none = hits-none qs in omega (arith, none)
hits-few low end (p ∷ ps) qs rise =
    let more = hits-more p ps qs in
    let once = times-once p low end qs rise in
    let rest = hits-few low end ps qs rise in
    omega (arith, more, once, rest)

-- how many addresses all terms have, and how often they have some
abbrev total : List TermEntry → ℕ
total [] = 0
total (e ∷ es) = length e.addresses + total es

abbrev all_hits : List TermEntry → List ℕ → ℕ
all_hits [] qs = 0
all_hits (e ∷ es) qs = hits e.addresses qs + all_hits es qs

all_hits-few : (low end : ℕ) (es : List TermEntry) (qs : List ℕ) → RiseWithin low end qs → all_hits es qs ≤ total es
all_hits-few low end [] qs rise = omega arith
all_hits-few low end (e ∷ es) qs rise =
    let here = hits-few low end e.addresses qs rise in
    let rest = all_hits-few low end es qs rise in
    omega (arith, here, rest)

all_hits-more : (es : List TermEntry) (q : ℕ) (qs : List ℕ) → one_if (is_covered es q) + all_hits es qs ≤ all_hits es (q ∷ qs)
all_hits-more [] q qs = omega arith
all_hits-more (e ∷ es) q qs =
    let here = either (has_address e.addresses q) (is_covered es q) in
    let rest = all_hits-more es q qs in
    omega (arith, here, rest)

-- if each address is under a term, the terms have as many
covered_few : (es : List TermEntry) (qs : List ℕ) → AllByRecursion (λ q. is_covered es q ≡ true) qs → length qs ≤ all_hits es qs
covered_few es [] all = omega arith
covered_few es (q ∷ qs) all =
    let more = all_hits-more es q qs in
    let rest = covered_few es qs all.1 in
    let one : one_if (is_covered es q) ≡ 1 = ap one_if all.0 in
    omega (arith, more, rest, one)

-- the addresses of files, in order
abbrev from_to : ℕ → ℕ → List ℕ → List ℕ
from_to p zero rest = rest
from_to p (suc n) rest = p ∷ from_to (p + 1) n rest

abbrev places_of : List FileEntry → List ℕ
places_of [] = []
places_of (e ∷ es) = from_to e.base e.len (places_of es)

length-from_to : (p n : ℕ) (rest : List ℕ) → length (from_to p n rest) ≡ n + length rest
length-from_to p zero rest = omega arith
length-from_to p (suc n) rest = let more = length-from_to (p + 1) n rest in omega (arith, more)

length-places : (es : List FileEntry) → length (places_of es) ≡ widths es
length-places [] = refl
length-places (e ∷ es) =
    let more = length-from_to e.base e.len (places_of es) in
    let rest = length-places es in
    omega (arith, more, rest)

rise-from_to : (low end p n : ℕ) (rest : List ℕ) → low ≤ p → p + n ≤ end → RiseWithin (p + n) end rest → RiseWithin low end (from_to p n rest)
rise-from_to low end p zero rest le within rise = lower (p + 0) rest (omega arith) rise
  where
    lower : (high : ℕ) (ps : List ℕ) → low ≤ high → RiseWithin high end ps → RiseWithin low end ps
    lower high [] le rise = tt
    lower high (q ∷ qs) le rise = let from : high ≤ q = rise.0 in (omega arith, rise.1, rise.2)
rise-from_to low end p (suc n) rest le within rise =
    let next : p + suc n ≡ p + 1 + n = omega arith in
    (le, omega arith, rise-from_to (p + 1) end (p + 1) n rest (omega arith) (omega arith) (subst (λ q. RiseWithin q end rest) next rise))

all-from_to : (P : ℕ → Type 0) (p n : ℕ) (rest : List ℕ) → ((q : ℕ) → p ≤ q → q < p + n → P q) → AllByRecursion P rest → AllByRecursion P (from_to p n rest)
all-from_to P p zero rest each all = all
all-from_to P p (suc n) rest each all = (each p (omega arith) (omega arith), all-from_to P (p + 1) n rest (λ q le lt. each q (omega arith) (omega arith)) all)

all-places : (es : List FileEntry) → AllByRecursion (λ q. is_of_files es q ≡ true) (places_of es)
all-places [] = tt
all-places (e ∷ es) =
    all-from_to (λ q. is_of_files (e ∷ es) q ≡ true) e.base e.len (places_of es) (λ q le lt. or_left (is_of_file q e) (is_of_files es q) (is_of_file-inside q e le lt))
    (all_weaker (λ q. is_of_files es q ≡ true) (λ q. is_of_files (e ∷ es) q ≡ true) (λ q of. or_right (is_of_file q e) (is_of_files es q) of) (places_of es) (all-places es))

-- those of files at or after an address rise
rise-places : (low : ℕ) (es : List FileEntry) → IsFileRun es → AllByRecursion (λ (e : FileEntry). low ≤ e.base) es → RiseWithin low (2 ^ 56) (places_of es)
rise-places low [] run from = tt
rise-places low (e ∷ es) run from =
    let end = run.0.in_range in
    rise-from_to low (2 ^ 56) e.base e.len (places_of es) from.0 (omega (arith, end))
    (rise-places (e.base + e.len) es run.2 (all_weaker _ (λ (f : FileEntry). e.base + e.len ≤ f.base) (λ f next. next.addresses) es run.1))

-- each address takes a byte at least
spelling_some : (n : ℕ) → 1 ≤ length (spelling n)
spelling_some n = elim (cases_Bool (ltb n 128)) [
  | inl h ↦ rw h (omega arith)
  | inr h ↦ rw h (omega arith)
]

packed_from-long : (from : ℕ) (ps : List ℕ) → length ps ≤ length (packed_from from ps)
packed_from-long from [] = omega arith
packed_from-long from (p ∷ ps) =
    let here = spelling_some (p - from) in
    let rest = packed_from-long p ps in
    let long = length-append (spelling (p - from)) (packed_from p ps) in
    omega (arith, here, rest, long)

term_long : (format : Format) (first : ℕ) (e : TermEntry) (rest : List ℕ) → length e.addresses + length rest ≤ length (term_bytes format first e ++ rest)
term_long format first e rest =
    let parts = ap length (term_parts format first e rest) in
    let one = length-append (text_bytes format e.term) (count_bytes format (length e.addresses) ++ (packed_from first e.addresses ++ rest)) in
    let two = length-append (count_bytes format (length e.addresses)) (packed_from first e.addresses ++ rest) in
    let three = length-append (packed_from first e.addresses) rest in
    let long = packed_from-long first e.addresses in
    omega (arith, parts, one, two, three, long)

terms_long : (format : Format) (first : ℕ) (es : List TermEntry) → total es ≤ length (flat_map (term_bytes format first) es)
terms_long format first [] = omega arith
terms_long format first (e ∷ es) =
    let here = term_long format first e (flat_map (term_bytes format first) es) in
    let rest = terms_long format first es in
    omega (arith, here, rest)

all_from : (es : List FileEntry) → AllByRecursion (λ (e : FileEntry). 0 ≤ e.base) es
all_from [] = tt
all_from (e ∷ es) = (omega arith, all_from es)

terms_fill : (format : Format) (first next number : ℕ) (files : List FileEntry) (whole : List ℕ) (terms : List TermEntry) → IsFileRun files → AreTermBytes format first next number files whole terms → widths files ≤ length whole
terms_fill format first next number files whole terms run are =
    let covered = all_weaker (λ q. is_of_files files q ≡ true) (λ q. is_covered terms q ≡ true) (λ q of. are.all.covered q of) (places_of files) (all-places files) in
    let few = covered_few terms (places_of files) covered in
    let hit = all_hits-few 0 (2 ^ 56) terms (places_of files) (rise-places 0 files run (all_from files)) in
    let long = terms_long format first terms in
    let bytes = ap length are.bytes in
    let wide = length-places files in
    omega (arith, few, hit, long, bytes, wide)

-- fewer bytes than addresses are the terms of no image
pub no_room : (format : Format) (first next : ℕ) (files : List FileEntry) (whole : List ℕ) → IsFileRun files → length whole < widths files → HasNoTerms format first next files whole
no_room format first next files whole run less terms few rest at are =
    let fill = terms_fill format first next (length terms) files rest terms run are in
    let long = ap length at ∙ length-append (eight_bytes (length terms)) rest in
    omega (arith, fill, long, less)
