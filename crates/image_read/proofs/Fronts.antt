-- What is at the front of some bytes.
use Rattle.std.proofs.Common.{◌≡◌, ℕ, zero, suc, ◌+◌, ◌-◌, ◌*◌, ◌/◌, ◌%◌, ◌^◌, ◌<◌, ◌≤◌, List, [], ◌∷◌, ◌++◌, length, get_or, refl, sym, ap, ◌∙◌, subst, arith, length-append}
use Rattle.std.proofs.Math.Nat.{div-div-eq-div-mul, div-one, pow-suc}
use Rattle.std.proofs.lemmas.List.{append_assoc, append_cancel_left}
use Rattle.std.specs.Int.{byte_at, bytes_low_first}
use Rattle.byteorder.specs.Endian.{little_bytes, little_from, little_number}
use Rattle.byteorder.specs.Numbers.{little_from-cons, little_from-lt}
use Rattle.posting_code.specs.Numbers.{spelling}
use Rattle.image_file.specs.declared.format.Format.{Format}
use Rattle.image_file.specs.declared.format.Format.TheVariants.{One, Two}
use Rattle.image_file.specs.Fields.{eight_bytes, mark, short_text}
use Rattle.posting_code.proofs.Numbers.{prefix_free}
use Rattle.address_space.specs.Runs.{FileEntry}
use Rattle.image_file.specs.Images.{end_of}
use Rattle.image_file.specs.Written.{FitsShort}
use Rattle.image_file.proofs.Decoding.{eight_same, four, marks_same}
use Rattle.image_read.specs.Reading.{IsText, IsFixed, IsPacked, HasNoPacked, IsHead, HasNoFile, HasNoHead, IsFileFront}

-- a byte of a number, by its place
byte_at-pow : (k x : ℕ) → byte_at k x ≡ x / 256 ^ k % 256
byte_at-pow zero x = ap (λ (y : ℕ). y % 256) (sym (div-one x))
byte_at-pow (suc k) x = refl

-- the number of some bytes, in as many bytes, is these bytes
little_back : (k j n : ℕ) (xs : List ℕ) → length xs ≡ k → ((i : ℕ) → get_or xs i 0 < 256) → n / 256 ^ j ≡ little_from 0 k xs → bytes_low_first j k n ≡ xs
little_back zero j n [] long small is = refl
little_back zero j n (x ∷ xs) long small is = absurd (omega arith)
little_back (suc k) j n [] long small is = absurd (omega arith)
little_back (suc k) j n (x ∷ xs) long small is =
    let least : x < 256 = small 0 in
    let moved = little_from-cons 0 k x xs in
    let whole : n / 256 ^ j ≡ x + 256 * little_from 0 k xs = is ∙ ap (λ m. x + 256 * m) moved in
    let byte : byte_at j n ≡ x = byte_is n j x (little_from 0 k xs) least whole in
    let next : n / 256 ^ suc j ≡ little_from 0 k xs =
    ap (λ p. n / p) (pow-suc 256 j) ∙ sym (div-div-eq-div-mul n (256 ^ j) 256) ∙ omega (arith, whole, least) in
    ap (λ b. b ∷ bytes_low_first (suc j) k n) byte ∙ ap (λ bs. x ∷ bs) (little_back k (suc j) n xs (omega (arith, long)) (λ i. small (suc i)) next)
  where
    byte_is : (n j x m : ℕ) → x < 256 → n / 256 ^ j ≡ x + 256 * m → byte_at j n ≡ x
    byte_is n j x m least whole = byte_at-pow j n ∙ omega (arith, whole, least)

small_front : (xs ys : List ℕ) → ((i : ℕ) → get_or (xs ++ ys) i 0 < 256) → (i : ℕ) → get_or xs i 0 < 256
small_front [] ys small zero = omega arith
small_front [] ys small (suc i) = omega arith
small_front (x ∷ xs) ys small zero = small 0
small_front (x ∷ xs) ys small (suc i) = small_front xs ys (λ j. small (suc j)) i

pub fixed_front : (n : ℕ) (whole text rest : List ℕ) (value : ℕ) → ((i : ℕ) → get_or whole i 0 < 256) → IsText n whole text rest → value ≡ little_number n text → IsFixed n whole value rest
fixed_front n whole text rest value small is at =
    let bytes = small_front text rest (subst (λ bs. (i : ℕ) → get_or bs i 0 < 256) is.bytes small) in
    let back : little_bytes n (little_number n text) ≡ text = little_back n 0 (little_number n text) text is.long bytes (div-one (little_number n text)) in
    record {
      small = subst (λ v. v < 256 ^ n) (sym at) (little_from-lt 0 n text bytes);
      bytes = is.bytes ∙ ap (λ t. t ++ rest) (sym (ap (little_bytes n) at ∙ back));
    }

pub eight_front : (whole rest s : List ℕ) (value n : ℕ) → IsFixed 8 whole value rest → n < 2 ^ 64 → whole ≡ eight_bytes n ++ s → (value ≡ n) × (rest ≡ s)
eight_front whole rest s value n is small at = eight_same value n rest s (let v = is.small in omega (arith, v)) small (sym is.bytes ∙ at)

pub behind_mark : (format other : Format) (first next next_id count : ℕ) (whole rest behind : List ℕ) → whole ≡ mark format ++ behind → IsHead other first next next_id count whole rest →
    (format ≡ other) × (behind ≡ eight_bytes first ++ (eight_bytes next ++ (eight_bytes next_id ++ (eight_bytes count ++ rest))))
behind_mark format other first next next_id count whole rest behind at is =
    let same : format ≡ other = marks_same format other behind (eight_bytes first ++ (eight_bytes next ++ (eight_bytes next_id ++ (eight_bytes count ++ rest)))) (sym at ∙ is.bytes) in (
      same,
      append_cancel_left (mark format) behind (eight_bytes first ++ (eight_bytes next ++ (eight_bytes next_id ++ (eight_bytes count ++ rest))))
          (sym at ∙ is.bytes ∙ ap (λ f. mark f ++ (eight_bytes first ++ (eight_bytes next ++ (eight_bytes next_id ++ (eight_bytes count ++ rest))))) (sym same)),
    )

-- the numbers that were read are those of any head of the bytes
pub head_refuse : (format : Format) (whole b1 b2 b3 b4 b5 : List ℕ) (v1 v2 v3 v4 : ℕ) → whole ≡ mark format ++ b1 → IsFixed 8 b1 v1 b2 → IsFixed 8 b2 v2 b3 → IsFixed 8 b3 v3 b4 → IsFixed 8 b4 v4 b5 →
    ((v1 ≤ v2) × (v2 ≤ end_of format) × (2 * v3 ≤ v2 - v1) → ⊥) → HasNoHead whole
head_refuse format whole b1 b2 b3 b4 b5 v1 v2 v3 v4 at f1 f2 f3 f4 none other first next next_id count rest is =
    let behind = behind_mark format other first next next_id count whole rest b1 at is in
    let ordered = is.ordered in
    let end : next ≤ 2 ^ 56 = end_small other next is.in_range in
    let ids = is.ids in
    let one = eight_front b1 b2 (eight_bytes next ++ (eight_bytes next_id ++ (eight_bytes count ++ rest))) v1 first f1 (omega (arith, ordered, end)) behind.1 in
    let two = eight_front b2 b3 (eight_bytes next_id ++ (eight_bytes count ++ rest)) v2 next f2 (omega (arith, end)) one.1 in
    let three = eight_front b3 b4 (eight_bytes count ++ rest) v3 next_id f3 (omega (arith, ids, end)) two.1 in
    none (subst (λ v. (v ≤ v2) × (v2 ≤ end_of format) × (2 * v3 ≤ v2 - v)) (sym one.0)
    (subst (λ v. (first ≤ v) × (v ≤ end_of format) × (2 * v3 ≤ v - first)) (sym two.0)
    (subst (λ v. (first ≤ next) × (next ≤ end_of format) × (2 * v ≤ next - first)) (sym three.0) (is.ordered, subst (λ f. next ≤ end_of f) (sym behind.0) is.in_range, is.ids))))
  where
    end_small : (f : Format) (n : ℕ) → n ≤ end_of f → n ≤ 2 ^ 56
    end_small One n le = omega (arith, le)
    end_small Two n le = le

packed_same : (whole r s : List ℕ) (v n : ℕ) → IsPacked whole v r → n < 2 ^ 56 → whole ≡ spelling n ++ s → (v ≡ n) × (r ≡ s)
packed_same whole r s v n is lt at = prefix_free v n r s is.small lt (sym is.bytes ∙ at)

-- a file in version 2, part by part
pub record IsShortFile (least at : ℕ) (whole : List ℕ) (file : FileEntry) (end : List ℕ) : Type 0 where
  pub fits : FitsShort least at file
  pub bytes : whole ≡ spelling (file.id - least) ++ (spelling (file.base - at) ++ (spelling (file.len - 2) ++ (spelling (length file.name) ++ (file.name ++ end))))

short_parts : (least at : ℕ) (whole : List ℕ) (file : FileEntry) (end : List ℕ) → IsFileFront Two least at whole file end → IsShortFile least at whole file end
short_parts least at whole file end is = record {
  fits = is.fits;
  bytes =
      is.bytes ∙ four (spelling (file.id - least)) (spelling (file.base - at)) (spelling (file.len - 2)) (short_text file.name) end
      ∙ ap (λ l. spelling (file.id - least) ++ (spelling (file.base - at) ++ (spelling (file.len - 2) ++ l))) (append_assoc (spelling (length file.name)) file.name end);
}

pub short_base : (least at : ℕ) (whole r1 : List ℕ) (v1 : ℕ) → IsPacked whole v1 r1 → HasNoPacked r1 → HasNoFile Two least at whole
short_base least at whole r1 v1 p1 none file end is =
    let s = short_parts least at whole file end is in
    let one = packed_same whole r1 (spelling (file.base - at) ++ (spelling (file.len - 2) ++ (spelling (length file.name) ++ (file.name ++ end)))) v1 (file.id - least) p1 s.fits.id s.bytes in
    none (file.base - at) (spelling (file.len - 2) ++ (spelling (length file.name) ++ (file.name ++ end))) s.fits.base one.1

pub short_len : (least at : ℕ) (whole r1 r2 : List ℕ) (v1 v2 : ℕ) → IsPacked whole v1 r1 → IsPacked r1 v2 r2 → HasNoPacked r2 → HasNoFile Two least at whole
short_len least at whole r1 r2 v1 v2 p1 p2 none file end is =
    let s = short_parts least at whole file end is in
    let one = packed_same whole r1 (spelling (file.base - at) ++ (spelling (file.len - 2) ++ (spelling (length file.name) ++ (file.name ++ end)))) v1 (file.id - least) p1 s.fits.id s.bytes in
    let two = packed_same r1 r2 (spelling (file.len - 2) ++ (spelling (length file.name) ++ (file.name ++ end))) v2 (file.base - at) p2 s.fits.base one.1 in
    none (file.len - 2) (spelling (length file.name) ++ (file.name ++ end)) s.fits.len two.1

pub short_size : (least at : ℕ) (whole r1 r2 r3 : List ℕ) (v1 v2 v3 : ℕ) → IsPacked whole v1 r1 → IsPacked r1 v2 r2 → IsPacked r2 v3 r3 → HasNoPacked r3 → HasNoFile Two least at whole
short_size least at whole r1 r2 r3 v1 v2 v3 p1 p2 p3 none file end is =
    let s = short_parts least at whole file end is in
    let one = packed_same whole r1 (spelling (file.base - at) ++ (spelling (file.len - 2) ++ (spelling (length file.name) ++ (file.name ++ end)))) v1 (file.id - least) p1 s.fits.id s.bytes in
    let two = packed_same r1 r2 (spelling (file.len - 2) ++ (spelling (length file.name) ++ (file.name ++ end))) v2 (file.base - at) p2 s.fits.base one.1 in
    let three = packed_same r2 r3 (spelling (length file.name) ++ (file.name ++ end)) v3 (file.len - 2) p3 s.fits.len two.1 in
    none (length file.name) (file.name ++ end) s.fits.name three.1

pub short_name : (least at : ℕ) (whole r1 r2 r3 r4 : List ℕ) (v1 v2 v3 v4 : ℕ) → IsPacked whole v1 r1 → IsPacked r1 v2 r2 → IsPacked r2 v3 r3 → IsPacked r3 v4 r4 → length r4 < v4 → HasNoFile Two least at whole
short_name least at whole r1 r2 r3 r4 v1 v2 v3 v4 p1 p2 p3 p4 less file end is =
    let s = short_parts least at whole file end is in
    let one = packed_same whole r1 (spelling (file.base - at) ++ (spelling (file.len - 2) ++ (spelling (length file.name) ++ (file.name ++ end)))) v1 (file.id - least) p1 s.fits.id s.bytes in
    let two = packed_same r1 r2 (spelling (file.len - 2) ++ (spelling (length file.name) ++ (file.name ++ end))) v2 (file.base - at) p2 s.fits.base one.1 in
    let three = packed_same r2 r3 (spelling (length file.name) ++ (file.name ++ end)) v3 (file.len - 2) p3 s.fits.len two.1 in
    let last = packed_same r3 r4 (file.name ++ end) v4 (length file.name) p4 s.fits.name three.1 in
    let same = last.0 in
    let long : length r4 ≡ length file.name + length end = ap length last.1 ∙ length-append file.name end in
    omega (arith, same, long, less)

pub short_read : (least at : ℕ) (whole r1 r2 r3 r4 name end : List ℕ) (v1 v2 v3 v4 : ℕ) → IsPacked whole v1 r1 → IsPacked r1 v2 r2 → IsPacked r2 v3 r3 → IsPacked r3 v4 r4 → IsText v4 r4 name end →
    IsFileFront Two least at whole (record { id = least + v1; base = at + v2; len = v3 + 2; name = name }) end
short_read least at whole r1 r2 r3 r4 name end v1 v2 v3 v4 p1 p2 p3 p4 text =
    let file : FileEntry = record { id = least + v1; base = at + v2; len = v3 + 2; name = name } in
    let a : least + v1 - least ≡ v1 = omega arith in
    let b : at + v2 - at ≡ v2 = omega arith in
    let c : v3 + 2 - 2 ≡ v3 = omega arith in
    let l1 = p1.small in
    let l2 = p2.small in
    let l3 = p3.small in
    let l4 = p4.small in
    let long = text.long in
    record {
      fits = record { least_id = omega arith; id = omega (arith, l1); least_base = omega arith; base = omega (arith, l2); least_len = omega arith; len = omega (arith, l3); name = omega (arith, l4, long) };
      bytes =
          p1.bytes ∙ ap (λ l. spelling v1 ++ l) (p2.bytes ∙ ap (λ l. spelling v2 ++ l) (p3.bytes ∙ ap (λ l. spelling v3 ++ l) (p4.bytes ∙ ap (λ l. spelling v4 ++ l) text.bytes)))
          ∙ ap (λ n. spelling v1 ++ (spelling v2 ++ (spelling v3 ++ (spelling n ++ (name ++ end))))) (sym long)
          ∙ ap (λ l. spelling v1 ++ (spelling v2 ++ (spelling v3 ++ l))) (sym (append_assoc (spelling (length name)) name end))
          ∙ ap (λ n. spelling n ++ (spelling v2 ++ (spelling v3 ++ (short_text name ++ end)))) (sym a)
          ∙ ap (λ n. spelling (least + v1 - least) ++ (spelling n ++ (spelling v3 ++ (short_text name ++ end)))) (sym b)
          ∙ ap (λ n. spelling (least + v1 - least) ++ (spelling (at + v2 - at) ++ (spelling n ++ (short_text name ++ end)))) (sym c)
          ∙ sym (four (spelling (file.id - least)) (spelling (file.base - at)) (spelling (file.len - 2)) (short_text file.name) end);
    }
