-- No bytes are the image of two lists of fields.
use Rattle.std.proofs.Common.{◌≡◌, ℕ, ◌+◌, ◌-◌, ◌^◌, ◌<◌, ◌≤◌, List, [], ◌∷◌, ◌++◌, length, flat_map, get_or, refl, sym, ap, ◌∙◌, subst, arith}
use Rattle.std.specs.List.{AllByRecursion}
use Rattle.std.proofs.lemmas.List.{append_assoc, append_cancel_left, append-nil}
use Rattle.std.proofs.Math.Nat.{ne_of_lt}
use Rattle.byteorder.specs.Endian.{little_bytes, little_number}
use Rattle.byteorder.specs.Numbers.{little_number-reads_back, length-bytes_low_first}
use Rattle.posting_code.specs.Numbers.{spelling}
use Rattle.posting_code.specs.Packed.{packed_from}
use Rattle.posting_code.specs.Postings.{RiseWithin}
use Rattle.posting_code.proofs.Numbers.{prefix_free}
use Rattle.posting_code.proofs.Rising.{rise_length}
use Rattle.address_space.specs.Runs.{FileEntry}
use Rattle.index_shard.specs.Tables.{TermEntry}
use Rattle.image_file.specs.declared.format.Format.{Format}
use Rattle.image_file.specs.declared.format.Format.TheVariants.{One, Two}
use Rattle.image_file.specs.Fields.{Fields, eight_bytes, long_text, short_text, long_file, short_file, short_files, mark, files_bytes, term_bytes, head_bytes, image_bytes}
use Rattle.image_file.specs.Images.{most_term}
use Rattle.image_file.specs.Written.{CanPack, ArePacked, FitsLong, FitsShort}
use Rattle.image_file.proofs.TermTables.{entry_is}

-- lists of the same length, and what comes after them
pub split_same : (xs ys r s : List ℕ) → length xs ≡ length ys → xs ++ r ≡ ys ++ s → (xs ≡ ys) × (r ≡ s)
split_same [] [] r s long is = (refl, is)
split_same [] (y ∷ ys) r s long is = absurd (omega arith)
split_same (x ∷ xs) [] r s long is = absurd (omega arith)
split_same (x ∷ xs) (y ∷ ys) r s long is =
    let here : x ≡ y = cc in
    let rest = split_same xs ys r s (omega arith) cc in
    (ap (λ z. z ∷ xs) here ∙ ap (λ zs. y ∷ zs) rest.0, rest.1)

-- a fixed number, and what comes after it
pub little_same : (n x y : ℕ) (r s : List ℕ) → x < 256 ^ n → y < 256 ^ n → little_bytes n x ++ r ≡ little_bytes n y ++ s → (x ≡ y) × (r ≡ s)
little_same n x y r s lx ly is =
    let same : x ≡ y = sym (little_number-reads_back n x r lx) ∙ ap (little_number n) is ∙ little_number-reads_back n y s ly in
    (same, (split_same (little_bytes n x) (little_bytes n y) r s (length-bytes_low_first 0 n x ∙ sym (length-bytes_low_first 0 n y)) is).1)

pub eight_same : (x y : ℕ) (r s : List ℕ) → x < 2 ^ 64 → y < 2 ^ 64 → eight_bytes x ++ r ≡ eight_bytes y ++ s → (x ≡ y) × (r ≡ s)
eight_same x y r s lx ly is = little_same 8 x y r s (omega (arith, lx)) (omega (arith, ly)) is

pub long_text_same : (x y r s : List ℕ) → length x < 2 ^ 32 → length y < 2 ^ 32 → long_text x ++ r ≡ long_text y ++ s → (x ≡ y) × (r ≡ s)
long_text_same x y r s lx ly is =
    let whole : little_bytes 4 (length x) ++ (x ++ r) ≡ little_bytes 4 (length y) ++ (y ++ s) = sym (append_assoc (little_bytes 4 (length x)) x r) ∙ is ∙ append_assoc (little_bytes 4 (length y)) y s in
    let cut = little_same 4 (length x) (length y) (x ++ r) (y ++ s) (omega (arith, lx)) (omega (arith, ly)) whole in
    split_same x y r s cut.0 cut.1

pub short_text_same : (x y r s : List ℕ) → length x < 2 ^ 56 → length y < 2 ^ 56 → short_text x ++ r ≡ short_text y ++ s → (x ≡ y) × (r ≡ s)
short_text_same x y r s lx ly is =
    let whole : spelling (length x) ++ (x ++ r) ≡ spelling (length y) ++ (y ++ s) = sym (append_assoc (spelling (length x)) x r) ∙ is ∙ append_assoc (spelling (length y)) y s in
    let cut = prefix_free (length x) (length y) (x ++ r) (y ++ s) lx ly whole in
    split_same x y r s cut.0 cut.1

-- four parts and what comes after them
pub four : (a b c d r : List ℕ) → a ++ b ++ c ++ d ++ r ≡ a ++ (b ++ (c ++ (d ++ r)))
four a b c d r = append_assoc (a ++ b ++ c) d r ∙ append_assoc (a ++ b) c (d ++ r) ∙ append_assoc a b (c ++ (d ++ r))

pub three : (a b c r : List ℕ) → a ++ b ++ c ++ r ≡ a ++ (b ++ (c ++ r))
three a b c r = append_assoc (a ++ b) c r ∙ append_assoc a b (c ++ r)

file_is : (x y : FileEntry) → x.id ≡ y.id → x.base ≡ y.base → x.len ≡ y.len → x.name ≡ y.name → x ≡ y
file_is x y id base len name =
    ap (λ n. record { id = n; base = x.base; len = x.len; name = x.name }) id
    ∙ ap (λ n. record { id = y.id; base = n; len = x.len; name = x.name }) base
    ∙ ap (λ n. record { id = y.id; base = y.base; len = n; name = x.name }) len
    ∙ ap (λ n. record { id = y.id; base = y.base; len = y.len; name = n }) name

pub packs_long : (id at : ℕ) (file : FileEntry) → CanPack id at file → FitsLong file
packs_long id at file can =
    let small = can.small in
    let end = can.end in
    record { id = omega (arith, small); base = omega (arith, end); len = omega (arith, end); name = can.name }

pub packs_short : (id at : ℕ) (file : FileEntry) → CanPack id at file → FitsShort id at file
packs_short id at file can =
    let small = can.small in
    let end = can.end in
    let name = can.name in
    record {
      least_id = can.id;
      id = omega (arith, small);
      least_base = can.base;
      base = omega (arith, end);
      least_len = can.len;
      len = omega (arith, end);
      name = omega (arith, name);
    }

pub long_file_same : (x y : FileEntry) (r s : List ℕ) → FitsLong x → FitsLong y → long_file x ++ r ≡ long_file y ++ s → (x ≡ y) × (r ≡ s)
long_file_same x y r s px py is =
    let whole = sym (four (eight_bytes x.id) (eight_bytes x.base) (eight_bytes x.len) (long_text x.name) r) ∙ is ∙ four (eight_bytes y.id) (eight_bytes y.base) (eight_bytes y.len) (long_text y.name) s in
    let id = eight_same x.id y.id (eight_bytes x.base ++ (eight_bytes x.len ++ (long_text x.name ++ r))) (eight_bytes y.base ++ (eight_bytes y.len ++ (long_text y.name ++ s))) px.id py.id whole in
    let base = eight_same x.base y.base (eight_bytes x.len ++ (long_text x.name ++ r)) (eight_bytes y.len ++ (long_text y.name ++ s)) px.base py.base id.1 in
    let len = eight_same x.len y.len (long_text x.name ++ r) (long_text y.name ++ s) px.len py.len base.1 in
    let name = long_text_same x.name y.name r s px.name py.name len.1 in
    (file_is x y id.0 base.0 len.0 name.0, name.1)

pub short_file_same : (id at : ℕ) (x y : FileEntry) (r s : List ℕ) → FitsShort id at x → FitsShort id at y → short_file id at x ++ r ≡ short_file id at y ++ s → (x ≡ y) × (r ≡ s)
short_file_same id at x y r s px py is =
    let whole =
    sym (four (spelling (x.id - id)) (spelling (x.base - at)) (spelling (x.len - 2)) (short_text x.name) r) ∙ is
    ∙ four (spelling (y.id - id)) (spelling (y.base - at)) (spelling (y.len - 2)) (short_text y.name) s in
    let one = prefix_free (x.id - id) (y.id - id) (spelling (x.base - at) ++ (spelling (x.len - 2) ++ (short_text x.name ++ r))) (spelling (y.base - at) ++ (spelling (y.len - 2) ++ (short_text y.name ++ s)))
    px.id py.id whole in
    let two = prefix_free (x.base - at) (y.base - at) (spelling (x.len - 2) ++ (short_text x.name ++ r)) (spelling (y.len - 2) ++ (short_text y.name ++ s)) px.base py.base one.1 in
    let len = prefix_free (x.len - 2) (y.len - 2) (short_text x.name ++ r) (short_text y.name ++ s) px.len py.len two.1 in
    let name = short_text_same x.name y.name r s px.name py.name len.1 in
    let is_id = one.0 in
    let is_base = two.0 in
    let is_len = len.0 in
    let xi = px.least_id in
    let yi = py.least_id in
    let xb = px.least_base in
    let yb = py.least_base in
    let xl = px.least_len in
    let yl = py.least_len in
    (file_is x y (omega (arith, is_id, xi, yi)) (omega (arith, is_base, xb, yb)) (omega (arith, is_len, xl, yl)) name.0, name.1)

pub long_files_same : (ix ax iy ay : ℕ) (xs ys : List FileEntry) (r s : List ℕ) → length xs ≡ length ys → ArePacked ix ax xs → ArePacked iy ay ys → flat_map long_file xs ++ r ≡ flat_map long_file ys ++ s → (xs ≡ ys) × (r ≡ s)
long_files_same ix ax iy ay [] [] r s long px py is = (refl, is)
long_files_same ix ax iy ay [] (y ∷ ys) r s long px py is = absurd (omega arith)
long_files_same ix ax iy ay (x ∷ xs) [] r s long px py is = absurd (omega arith)
long_files_same ix ax iy ay (x ∷ xs) (y ∷ ys) r s long px py is =
    let whole = sym (append_assoc (long_file x) (flat_map long_file xs) r) ∙ is ∙ append_assoc (long_file y) (flat_map long_file ys) s in
    let here = long_file_same x y (flat_map long_file xs ++ r) (flat_map long_file ys ++ s) (packs_long ix ax x px.0) (packs_long iy ay y py.0) whole in
    let rest = long_files_same (x.id + 1) (x.base + x.len) (y.id + 1) (y.base + y.len) xs ys r s (omega arith) px.1 py.1 here.1 in
    (ap (λ z. z ∷ xs) here.0 ∙ ap (λ zs. y ∷ zs) rest.0, rest.1)

pub short_files_same : (id at : ℕ) (xs ys : List FileEntry) (r s : List ℕ) → length xs ≡ length ys → ArePacked id at xs → ArePacked id at ys → short_files id at xs ++ r ≡ short_files id at ys ++ s → (xs ≡ ys) × (r ≡ s)
short_files_same id at [] [] r s long px py is = (refl, is)
short_files_same id at [] (y ∷ ys) r s long px py is = absurd (omega arith)
short_files_same id at (x ∷ xs) [] r s long px py is = absurd (omega arith)
short_files_same id at (x ∷ xs) (y ∷ ys) r s long px py is =
    let left = short_files (x.id + 1) (x.base + x.len) xs in
    let right = short_files (y.id + 1) (y.base + y.len) ys in
    let whole = sym (append_assoc (short_file id at x) left r) ∙ is ∙ append_assoc (short_file id at y) right s in
    let here = short_file_same id at x y (left ++ r) (right ++ s) (packs_short id at x px.0) (packs_short id at y py.0) whole in
    let same : x ≡ y = here.0 in
    let moved : left ++ r ≡ short_files (x.id + 1) (x.base + x.len) ys ++ s = here.1 ∙ ap (λ (z : FileEntry). short_files (z.id + 1) (z.base + z.len) ys ++ s) (sym same) in
    let packed : ArePacked (x.id + 1) (x.base + x.len) ys = subst (λ (z : FileEntry). ArePacked (z.id + 1) (z.base + z.len) ys) (sym same) py.1 in
    let rest = short_files_same (x.id + 1) (x.base + x.len) xs ys r s (omega arith) px.1 packed moved in
    (ap (λ z. z ∷ xs) same ∙ ap (λ zs. y ∷ zs) rest.0, rest.1)

pub files_same : (format : Format) (first : ℕ) (xs ys : List FileEntry) (r s : List ℕ) → length xs ≡ length ys → ArePacked 0 first xs → ArePacked 0 first ys →
    files_bytes format first xs ++ r ≡ files_bytes format first ys ++ s → (xs ≡ ys) × (r ≡ s)
files_same One first xs ys r s long px py is = long_files_same 0 first 0 first xs ys r s long px py is
files_same Two first xs ys r s long px py is = short_files_same 0 first xs ys r s long px py is

-- rising addresses from their differences
pub differences_same : (from low low' : ℕ) (xs ys r s : List ℕ) → length xs ≡ length ys → from ≤ low → from ≤ low' → RiseWithin low (2 ^ 56) xs → RiseWithin low' (2 ^ 56) ys →
    packed_from from xs ++ r ≡ packed_from from ys ++ s → (xs ≡ ys) × (r ≡ s)
differences_same from low low' [] [] r s long lx ly rx ry is = (refl, is)
differences_same from low low' [] (y ∷ ys) r s long lx ly rx ry is = absurd (omega arith)
differences_same from low low' (x ∷ xs) [] r s long lx ly rx ry is = absurd (omega arith)
differences_same from low low' (x ∷ xs) (y ∷ ys) r s long lx ly rx ry is =
    let whole = sym (append_assoc (spelling (x - from)) (packed_from x xs) r) ∙ is ∙ append_assoc (spelling (y - from)) (packed_from y ys) s in
    let xa = rx.0 in
    let xb = rx.1 in
    let ya = ry.0 in
    let yb = ry.1 in
    let cut = prefix_free (x - from) (y - from) (packed_from x xs ++ r) (packed_from y ys ++ s) (omega (arith, xb)) (omega (arith, yb)) whole in
    let gap = cut.0 in
    let same : x ≡ y = omega (arith, gap, xa, ya, lx, ly) in
    let moved : packed_from x xs ++ r ≡ packed_from x ys ++ s = cut.1 ∙ ap (λ z. packed_from z ys ++ s) (sym same) in
    let rest = differences_same x (x + 1) (y + 1) xs ys r s (omega arith) (omega arith) (omega (arith, same)) rx.2 ry.2 moved in
    (ap (λ z. z ∷ xs) same ∙ ap (λ zs. y ∷ zs) rest.0, rest.1)

-- an entry that both versions can write
pub record CanWrite (format : Format) (first : ℕ) (e : TermEntry) : Type 0 where
  pub short : length e.term < most_term format
  pub some : 0 < length e.addresses
  pub rising : RiseWithin first (2 ^ 56) e.addresses

pub term_same : (format : Format) (first : ℕ) (x y : TermEntry) (r s : List ℕ) → CanWrite format first x → CanWrite format first y → term_bytes format first x ++ r ≡ term_bytes format first y ++ s → (x ≡ y) × (r ≡ s)
term_same One first x y r s px py is =
    let whole = sym (three (long_text x.term) (eight_bytes (length x.addresses)) (packed_from first x.addresses) r) ∙ is
    ∙ three (long_text y.term) (eight_bytes (length y.addresses)) (packed_from first y.addresses) s in
    let text = long_text_same x.term y.term (eight_bytes (length x.addresses) ++ (packed_from first x.addresses ++ r)) (eight_bytes (length y.addresses) ++ (packed_from first y.addresses ++ s)) px.short py.short whole in
    let xl = rise_length first (2 ^ 56) x.addresses px.rising in
    let yl = rise_length first (2 ^ 56) y.addresses py.rising in
    let count = eight_same (length x.addresses) (length y.addresses) (packed_from first x.addresses ++ r) (packed_from first y.addresses ++ s) (omega (arith, xl)) (omega (arith, yl)) text.1 in
    let list = differences_same first first first x.addresses y.addresses r s count.0 (omega arith) (omega arith) px.rising py.rising count.1 in
    (entry_is x y text.0 list.0, list.1)
term_same Two first x y r s px py is =
    let whole = sym (three (short_text x.term) (spelling (length x.addresses - 1)) (packed_from first x.addresses) r) ∙ is
    ∙ three (short_text y.term) (spelling (length y.addresses - 1)) (packed_from first y.addresses) s in
    let text = short_text_same x.term y.term (spelling (length x.addresses - 1) ++ (packed_from first x.addresses ++ r)) (spelling (length y.addresses - 1) ++ (packed_from first y.addresses ++ s)) px.short py.short whole in
    let xl = rise_length first (2 ^ 56) x.addresses px.rising in
    let yl = rise_length first (2 ^ 56) y.addresses py.rising in
    let count = prefix_free (length x.addresses - 1) (length y.addresses - 1) (packed_from first x.addresses ++ r) (packed_from first y.addresses ++ s) (omega (arith, xl)) (omega (arith, yl)) text.1 in
    let less = count.0 in
    let xs = px.some in
    let ys = py.some in
    let list = differences_same first first first x.addresses y.addresses r s (omega (arith, less, xs, ys)) (omega arith) (omega arith) px.rising py.rising count.1 in
    (entry_is x y text.0 list.0, list.1)

pub terms_same : (format : Format) (first : ℕ) (xs ys : List TermEntry) (r s : List ℕ) → length xs ≡ length ys → AllByRecursion (CanWrite format first) xs → AllByRecursion (CanWrite format first) ys →
    flat_map (term_bytes format first) xs ++ r ≡ flat_map (term_bytes format first) ys ++ s → (xs ≡ ys) × (r ≡ s)
terms_same format first [] [] r s long px py is = (refl, is)
terms_same format first [] (y ∷ ys) r s long px py is = absurd (omega arith)
terms_same format first (x ∷ xs) [] r s long px py is = absurd (omega arith)
terms_same format first (x ∷ xs) (y ∷ ys) r s long px py is =
    let left = flat_map (term_bytes format first) xs in
    let right = flat_map (term_bytes format first) ys in
    let whole = sym (append_assoc (term_bytes format first x) left r) ∙ is ∙ append_assoc (term_bytes format first y) right s in
    let here = term_same format first x y (left ++ r) (right ++ s) px.0 py.0 whole in
    let rest = terms_same format first xs ys r s (omega arith) px.1 py.1 here.1 in
    (ap (λ z. z ∷ xs) here.0 ∙ ap (λ zs. y ∷ zs) rest.0, rest.1)

-- every field can be written
pub record AreWritable (format : Format) (f : Fields) : Type 0 where
  pub ordered : f.first ≤ f.next
  pub in_range : f.next ≤ 2 ^ 56
  pub ids : f.next_id ≤ 2 ^ 56
  pub files : ArePacked 0 f.first f.files
  pub few_files : length f.files ≤ 2 ^ 56
  pub few_terms : length f.terms ≤ 2 ^ 56
  pub terms : AllByRecursion (CanWrite format f.first) f.terms

pub marks_same : (a b : Format) (r s : List ℕ) → mark a ++ r ≡ mark b ++ s → a ≡ b
marks_same One One r s is = refl
marks_same Two Two r s is = refl
marks_same One Two r s is = absurd (ne_of_lt {a = 49} {b = 50} (omega arith) (ap (λ l. get_or l 7 0) is))
marks_same Two One r s is = absurd (ne_of_lt {a = 49} {b = 50} (omega arith) (sym (ap (λ l. get_or l 7 0) is)))

-- the fields of an image, one after the other
pub image-parts : (format : Format) (f : Fields) → image_bytes format f ≡
    mark format ++ (eight_bytes f.first ++ (eight_bytes f.next ++ (eight_bytes f.next_id ++ (eight_bytes (length f.files)
    ++ (files_bytes format f.first f.files ++ (eight_bytes (length f.terms) ++ (flat_map (term_bytes format f.first) f.terms ++ [])))))))
image-parts format f =
    let terms = flat_map (term_bytes format f.first) f.terms in
    let files = files_bytes format f.first f.files in
    let count = eight_bytes (length f.terms) in
    four (mark format) (head_bytes f) files count terms
    ∙ ap (λ l. mark format ++ l) (four (eight_bytes f.first) (eight_bytes f.next) (eight_bytes f.next_id) (eight_bytes (length f.files)) (files ++ (count ++ terms)))
    ∙ ap (λ l. mark format ++ (eight_bytes f.first ++ (eight_bytes f.next ++ (eight_bytes f.next_id ++ (eight_bytes (length f.files) ++ (files ++ (count ++ l))))))) (sym (append-nil terms))

pub fields_is : (f g : Fields) → f.first ≡ g.first → f.next ≡ g.next → f.next_id ≡ g.next_id → f.files ≡ g.files → f.terms ≡ g.terms → f ≡ g
fields_is f g first next next_id files terms =
    ap (λ n. record { first = n; next = f.next; next_id = f.next_id; files = f.files; terms = f.terms }) first
    ∙ ap (λ n. record { first = g.first; next = n; next_id = f.next_id; files = f.files; terms = f.terms }) next
    ∙ ap (λ n. record { first = g.first; next = g.next; next_id = n; files = f.files; terms = f.terms }) next_id
    ∙ ap (λ l. record { first = g.first; next = g.next; next_id = g.next_id; files = l; terms = f.terms }) files
    ∙ ap (λ l. record { first = g.first; next = g.next; next_id = g.next_id; files = g.files; terms = l }) terms

-- what comes after the mark
abbrev behind_mark : Format → Fields → List ℕ
behind_mark format f =
    eight_bytes f.first ++ (eight_bytes f.next ++ (eight_bytes f.next_id ++ (eight_bytes (length f.files)
    ++ (files_bytes format f.first f.files ++ (eight_bytes (length f.terms) ++ (flat_map (term_bytes format f.first) f.terms ++ []))))))

behind_same : (format : Format) (f g : Fields) → AreWritable format f → AreWritable format g → behind_mark format f ≡ behind_mark format g → f ≡ g
behind_same format f g wf wg is =
    let fo = wf.ordered in
    let fr = wf.in_range in
    let fi = wf.ids in
    let ff = wf.few_files in
    let ft = wf.few_terms in
    let go = wg.ordered in
    let gr = wg.in_range in
    let gi = wg.ids in
    let gf = wg.few_files in
    let gt = wg.few_terms in
    let first = eight_same f.first g.first _ _ (omega (arith, fo, fr)) (omega (arith, go, gr)) is in
    let next = eight_same f.next g.next _ _ (omega (arith, fr)) (omega (arith, gr)) first.1 in
    let next_id = eight_same f.next_id g.next_id _ _ (omega (arith, fi)) (omega (arith, gi)) next.1 in
    let count = eight_same (length f.files) (length g.files) _ _ (omega (arith, ff)) (omega (arith, gf)) next_id.1 in
    let at : g.first ≡ f.first = sym first.0 in
    let moved = count.1 ∙ ap (λ p. files_bytes format p g.files ++ (eight_bytes (length g.terms) ++ (flat_map (term_bytes format g.first) g.terms ++ []))) at in
    let files = files_same format f.first f.files g.files _ _ count.0 wf.files (subst (λ p. ArePacked 0 p g.files) at wg.files) moved in
    let terms = eight_same (length f.terms) (length g.terms) _ _ (omega (arith, ft)) (omega (arith, gt)) files.1 in
    let last = terms.1 ∙ ap (λ p. flat_map (term_bytes format p) g.terms ++ []) at in
    let table = terms_same format f.first f.terms g.terms [] [] terms.0 wf.terms (subst (λ p. AllByRecursion (CanWrite format p) g.terms) at wg.terms) last in
    fields_is f g first.0 next.0 next_id.0 files.0 table.0

pub image_same : (format other : Format) (f g : Fields) → AreWritable format f → AreWritable other g → image_bytes format f ≡ image_bytes other g → (format ≡ other) × (f ≡ g)
image_same format other f g wf wg is =
    let whole : mark format ++ behind_mark format f ≡ mark other ++ behind_mark other g = sym (image-parts format f) ∙ is ∙ image-parts other g in
    let same : format ≡ other = marks_same format other (behind_mark format f) (behind_mark other g) whole in
    let moved : AreWritable format g = subst (λ v. AreWritable v g) (sym same) wg in
    let there : mark format ++ behind_mark format f ≡ mark format ++ behind_mark format g = whole ∙ ap (λ v. mark v ++ behind_mark v g) (sym same) in
    (same, behind_same format f g wf moved (append_cancel_left (mark format) (behind_mark format f) (behind_mark format g) there))
