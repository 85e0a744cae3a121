-- Packed numbers, written and read.
use Rattle.std.proofs.Common.{◌≡◌, ℕ, zero, suc, ◌+◌, ◌-◌, ◌*◌, ◌/◌, ◌%◌, ◌^◌, ◌<◌, ◌≤◌, false, cond, ltb, mul-add, List, [], ◌∷◌, ◌++◌, length, drop, drop-cons, get_or, Option, Some, None, inl, inr, ◌↔◌, refl, sym, ap, ◌∙◌, subst, arith}
use Rattle.std.proofs.lemmas.Bool.{lt-ltb, le-ltb, cases_lt}
use Rattle.std.proofs.Math.Nat.{pow-suc, one-le-pow, pow-le-pow_right, mul-le-mul_left}
use Rattle.std.proofs.lemmas.List.{append_cancel_left, drop-drop, get_or-drop}
use Rattle.std.specs.Option.{IfSome, IsNone}
use Rattle.std.proofs.Math.ListN.{drop_of_length-le}
use Rattle.std.proofs.lemmas.Option.{none-some, same_Some}
use Rattle.std.proofs.Math.Nat.{mul_assoc}
use Rattle.posting_code.specs.Reader.{Read, read, behind_value, behind, reads, number_at}
use Rattle.posting_code.specs.declared.number.Number.{Number}
use Rattle.posting_code.specs.Numbers.{IsNumberAt, HasNoNumberAt, spelling_within, spelling}

pub within-small : (k n : ℕ) → n < 128 → spelling_within (suc k) n ≡ n ∷ []
within-small k n lt = rw (lt-ltb n 128 lt) refl

pub within-more : (k n : ℕ) → 128 ≤ n → spelling_within (suc k) n ≡ (128 + n % 128) ∷ spelling_within k (n / 128)
within-more k n le = rw (le-ltb n 128 le) refl

-- room for more bytes changes nothing
within-room : (k n : ℕ) → n < 128 ^ suc k → spelling_within (suc (suc k)) n ≡ spelling_within (suc k) n
within-room zero n lt =
    let small : n < 128 = omega (arith, lt) in
    within-small 1 n small ∙ sym (within-small 0 n small)
within-room (suc k) n lt =
    let m = 128 ^ suc k in
    let whole : 128 ^ suc (suc k) ≡ 128 ^ suc k * 128 = pow-suc 128 (suc k) in
    let less : n < m * 128 = omega (arith, lt, whole) in
    let part : n / 128 < m = omega (arith, less) in
    elim (cases_lt n 128) [
      | inl small ↦ within-small (suc (suc k)) n small ∙ sym (within-small (suc k) n small)
      | inr large ↦ within-more (suc (suc k)) n large ∙ ap (λ bs. (128 + n % 128) ∷ bs) (within-room k (n / 128) part) ∙ sym (within-more (suc k) n large)
    ]

pub spelling-small : (n : ℕ) → n < 128 → spelling n ≡ n ∷ []
spelling-small n lt = within-small 7 n lt

pub spelling-more : (n : ℕ) → 128 ≤ n → n < 2 ^ 56 → spelling n ≡ (128 + n % 128) ∷ spelling (n / 128)
spelling-more n le lt =
    let part : n / 128 < 128 ^ 7 = omega (arith, lt) in
    within-more 7 n le ∙ ap (λ bs. (128 + n % 128) ∷ bs) (sym (within-room 6 (n / 128) part))

behind-some : (b v s : ℕ) → 0 < v → behind b (Some (read v s)) ≡ Some (read (b - 128 + 128 * v) (s + 1))
behind-some b zero s lt = absurd (omega arith)
behind-some b (suc v) s lt = refl

-- a spelling is read, whatever follows
pub reads-spelling : (k n : ℕ) (rest : List ℕ) → n < 128 ^ suc k → reads (suc k) (spelling_within (suc k) n ++ rest) ≡ Some (read n (length (spelling_within (suc k) n)))
reads-spelling zero n rest lt =
    let small : n < 128 = omega (arith, lt) in
    let yes = lt-ltb n 128 small in
    rw (yes, yes) refl
reads-spelling (suc k) n rest lt =
    let m = 128 ^ suc k in
    let whole : 128 ^ suc (suc k) ≡ 128 ^ suc k * 128 = pow-suc 128 (suc k) in
    let less : n < m * 128 = omega (arith, lt, whole) in
    let part : n / 128 < m = omega (arith, less) in
    elim (cases_lt n 128) [
      | inl small ↦ let yes = lt-ltb n 128 small in rw (yes, yes) refl
      | inr large ↦
          let top : ltb (128 + n % 128) 128 ≡ false = le-ltb (128 + n % 128) 128 (omega arith) in
          let inner = reads-spelling k (n / 128) rest part in
          let same : 128 + n % 128 - 128 + 128 * (n / 128) ≡ n = omega arith in
          let s = length (spelling_within (suc k) (n / 128)) in
          let one : s + 1 ≡ suc s = omega arith in
          rw (le-ltb n 128 large, top)
          (ap (behind (128 + n % 128)) inner ∙ behind-some (128 + n % 128) (n / 128) s (omega (arith, large))
          ∙ ap (λ v. Some (read v (s + 1))) same ∙ ap (λ l. Some (read n l)) one)
    ]

-- what a reader found is a spelling
pub record IsRead (k : ℕ) (bs : List ℕ) (r : Read) : Type 0 where
  pub small : r.value < 128 ^ k
  pub spelled : bs ≡ spelling_within k r.value ++ drop r.size bs
  pub size : r.size ≡ length (spelling_within k r.value)

none_is_not : {X : Type 0} {Y : Type 0} (x : X) → None ≡ Some x → Y
none_is_not x e = absurd (none-some x e)

read_alone : (k b : ℕ) (bs : List ℕ) → b < 128 → IsRead (suc k) (b ∷ bs) (read b 1)
read_alone k b bs lt =
    let one : spelling_within (suc k) b ≡ b ∷ [] = within-small k b lt in
    let positive : 1 ≤ 128 ^ k = one-le-pow k 128 (omega arith) in
    let whole : 128 ^ suc k ≡ 128 ^ k * 128 = pow-suc 128 k in
    record { small = omega (arith, lt, positive, whole); spelled = rw one refl; size = rw one refl }

read_behind : (k b v size : ℕ) (bs : List ℕ) → 128 ≤ b → b < 256 → IsRead k bs (read (suc v) size) → IsRead (suc k) (b ∷ bs) (read (b - 128 + 128 * suc v) (size + 1))
read_behind k b v size bs le lt r =
    let n = b - 128 + 128 * suc v in
    let large : 128 ≤ n = omega arith in
    let low : 128 + n % 128 ≡ b = omega arith in
    let high : n / 128 ≡ suc v = omega arith in
    let whole : 128 ^ suc k ≡ 128 ^ k * 128 = pow-suc 128 k in
    let small = r.small in
    let is : spelling_within (suc k) n ≡ b ∷ spelling_within k (suc v) =
    within-more k n large ∙ ap (λ c. c ∷ spelling_within k (n / 128)) low ∙ ap (λ m. b ∷ spelling_within k m) high in
    let next : size + 1 ≡ suc size = omega arith in
    let long = r.size in
    record {
      small = omega (arith, small, whole, lt, le);
      spelled = rw (is, next) (ap (λ cs. b ∷ cs) r.spelled);
      size = rw is (omega (arith, long));
    }

behind_sound : (k b : ℕ) (bs : List ℕ) (o : Option Read) (r : Read) → 128 ≤ b → b < 256 → ((q : Read) → o ≡ Some q → IsRead k bs q) → behind b o ≡ Some r → IsRead (suc k) (b ∷ bs) r
behind_sound k b bs None r le lt sound e = none_is_not r e
behind_sound k b bs (Some q) r le lt sound e = by_value q.value q.size (sound q refl) e
  where
    by_value : (v size : ℕ) → IsRead k bs (read v size) → behind_value b v size ≡ Some r → IsRead (suc k) (b ∷ bs) r
    by_value zero size is e = none_is_not r e
    by_value (suc v) size is e = subst (IsRead (suc k) (b ∷ bs)) (same_Some _ _ e) (read_behind k b v size bs le lt is)

pub reads-sound : (k : ℕ) (bs : List ℕ) (r : Read) → ((i : ℕ) → get_or bs i 0 < 256) → reads k bs ≡ Some r → IsRead k bs r
reads-sound zero bs r bytes e = none_is_not r e
reads-sound (suc k) [] r bytes e = none_is_not r e
reads-sound (suc k) (b ∷ bs) r bytes e =
    let whole = bytes 0 in
    elim (cases_lt b 128) [
      | inl small ↦ let e = rw (lt-ltb b 128 small) at e in subst (IsRead (suc k) (b ∷ bs)) (same_Some _ _ e) (read_alone k b bs small)
      | inr large ↦ let e = rw (le-ltb b 128 large) at e in behind_sound k b bs (reads k bs) r large whole (λ q is. reads-sound k bs q (λ i. bytes (suc i)) is) e
    ]

-- no spelling begins another
pub prefix_free : (a b : ℕ) (rest more : List ℕ) → a < 2 ^ 56 → b < 2 ^ 56 → spelling a ++ rest ≡ spelling b ++ more → (a ≡ b) × (rest ≡ more)
prefix_free a b rest more la lb e =
    let one = reads-spelling 7 a rest la in
    let two = reads-spelling 7 b more lb in
    let both : Some (read a (length (spelling a))) ≡ Some (read b (length (spelling b))) = sym one ∙ ap (reads 8) e ∙ two in
    let same : a ≡ b = ap (λ r. r.value) (same_Some _ _ both) in
    (same, append_cancel_left (spelling a) rest more (e ∙ ap (λ n. spelling n ++ more) (sym same)))

-- what is found after some bytes that were read
abbrev pub raised_by : ℕ → ℕ → ℕ → ℕ → ℕ → Option Read
raised_by i value scale zero size = None
raised_by i value scale (suc v) size = Some (read (value + scale * suc v) (i + size))

abbrev pub raised : ℕ → ℕ → ℕ → Option Read → Option Read
raised i value scale None = None
raised i value scale (Some r) = raised_by i value scale r.value r.size

raised-some : (i value scale v size : ℕ) → 0 < v → raised_by i value scale v size ≡ Some (read (value + scale * v) (i + size))
raised-some i value scale zero size lt = absurd (omega arith)
raised-some i value scale (suc v) size lt = refl

pub raised-more : (i value scale b : ℕ) (o : Option Read) → raised i value scale (behind b o) ≡ raised (i + 1) (value + scale * (b - 128)) (scale * 128) o
raised-more i value scale b None = refl
raised-more i value scale b (Some r) = by_value r.value r.size
  where
    by_value : (v size : ℕ) → raised i value scale (behind_value b v size) ≡ raised_by (i + 1) (value + scale * (b - 128)) (scale * 128) v size
    by_value zero size = refl
    by_value (suc v) size =
        let parts : scale * (b - 128 + 128 * suc v) ≡ scale * (b - 128) + scale * (128 * suc v) = mul-add scale (b - 128) (128 * suc v) in
        let turned : scale * 128 * suc v ≡ scale * (128 * suc v) = mul_assoc scale 128 (suc v) in
        let sum : value + scale * (b - 128 + 128 * suc v) ≡ value + scale * (b - 128) + scale * 128 * suc v = omega (arith, parts, turned) in
        let sizes : i + (size + 1) ≡ i + 1 + size = omega arith in
        raised-some i value scale (b - 128 + 128 * suc v) (size + 1) (omega arith) ∙ ap (λ n. Some (read n (i + (size + 1)))) sum
        ∙ ap (λ s. Some (read (value + scale * (b - 128) + scale * 128 * suc v) s)) sizes

-- what the whole reader finds is the number there
abbrev is_number : (bytes : List ℕ) (at : ℕ) (r : Read) → IsRead 8 (drop at bytes) r → IsNumberAt bytes at r.value (at + r.size)
is_number bytes at r is =
    let long = r.size in
    record {
      small = is.small;
      spelled = is.spelled ∙ ap (λ ds. spelling r.value ++ ds) (drop-drop r.size at bytes);
      behind = ap (λ n. at + n) is.size;
    }

pub number_some : (bytes : List ℕ) (at : ℕ) (result : Option Number) → ((i : ℕ) → get_or bytes i 0 < 256) → result ≡ number_at at (reads 8 (drop at bytes)) →
    IfSome result (λ n. IsNumberAt bytes at n.value n.after)
number_some bytes at result small is = subst (λ o. IfSome o (λ n. IsNumberAt bytes at n.value n.after)) (sym is) (by_reads (reads 8 (drop at bytes)) refl)
  where
    by_reads : (o : Option Read) → reads 8 (drop at bytes) ≡ o → IfSome (number_at at o) (λ n. IsNumberAt bytes at n.value n.after)
    by_reads None e = tt
    by_reads (Some r) e = is_number bytes at r (reads-sound 8 (drop at bytes) r (λ i. let s = small (at + i) in let g = get_or-drop at bytes i 0 in omega (arith, s, g)) e)

pub number_none : (bytes : List ℕ) (at : ℕ) (result : Option Number) → ((i : ℕ) → get_or bytes i 0 < 256) → result ≡ number_at at (reads 8 (drop at bytes)) →
    IsNone result ↔ HasNoNumberAt bytes at
number_none bytes at result small is = subst (λ o. IsNone o ↔ HasNoNumberAt bytes at) (sym is) (by_reads (reads 8 (drop at bytes)) refl)
  where
    by_reads : (o : Option Read) → reads 8 (drop at bytes) ≡ o → IsNone (number_at at o) ↔ HasNoNumberAt bytes at
    by_reads None e = ((λ none n rest lt spelled. none_is_not _ (sym e ∙ ap (reads 8) spelled ∙ reads-spelling 7 n rest lt)), (λ no. refl))
    by_reads (Some r) e =
        let is = reads-sound 8 (drop at bytes) r (λ i. let s = small (at + i) in let g = get_or-drop at bytes i 0 in omega (arith, s, g)) e in
        ((λ none. absurd cc), (λ no. absurd (no r.value (drop r.size (drop at bytes)) is.small is.spelled)))

-- a reader that has taken i bytes of a longer number
pub record IsReading (bytes : List ℕ) (at first i value scale : ℕ) : Type 0 where
  pub power : scale ≡ 128 ^ i
  pub small : value < scale
  pub left : behind first (reads 7 (drop (at + 1) bytes)) ≡ raised i value scale (reads (8 - i) (drop (at + i) bytes))

abbrev pub longer_at : List ℕ → ℕ → ℕ → Option Number
longer_at bytes at first = number_at at (behind first (reads 7 (drop (at + 1) bytes)))

reads-none : (k : ℕ) → reads k [] ≡ None
reads-none zero = refl
reads-none (suc k) = refl

pub reading_ends : (bytes : List ℕ) (at first i value scale : ℕ) → IsReading bytes at first i value scale → length bytes ≤ at + i → None ≡ longer_at bytes at first
reading_ends bytes at first i value scale r past =
    sym (ap (number_at at) (r.left ∙ ap (λ bs. raised i value scale (reads (8 - i) bs)) (drop_of_length-le bytes past) ∙ ap (raised i value scale) (reads-none (8 - i))))

pub reading_full : (bytes : List ℕ) (at first i value scale : ℕ) → IsReading bytes at first i value scale → 8 ≤ i → None ≡ longer_at bytes at first
reading_full bytes at first i value scale r past =
    let none : 8 - i ≡ 0 = omega (arith, past) in
    sym (ap (number_at at) (r.left ∙ ap (λ k. raised i value scale (reads k (drop (at + i) bytes))) none))

-- one byte more
reads_next : (bytes : List ℕ) (place i b : ℕ) → i < 8 → place < length bytes → b ≡ get_or bytes place 0 →
    reads (8 - i) (drop place bytes) ≡ cond (ltb b 128) (Some (read b 1)) (behind b (reads (8 - (i + 1)) (drop (place + 1) bytes)))
reads_next bytes place i b few lt is =
    let k : 8 - i ≡ suc (8 - (i + 1)) = omega (arith, few) in
    let next : suc place ≡ place + 1 = omega arith in
    ap (λ m. reads m (drop place bytes)) k
    ∙ ap (reads (suc (8 - (i + 1)))) (drop-cons bytes place 0 lt ∙ ap (λ n. get_or bytes place 0 ∷ drop n bytes) next ∙ ap (λ c. c ∷ drop (place + 1) bytes) (sym is))

pub reading_padded : (bytes : List ℕ) (at first i value scale b : ℕ) → IsReading bytes at first i value scale → i < 8 → at + i < length bytes → b ≡ get_or bytes (at + i) 0 → b ≡ 0 →
    None ≡ longer_at bytes at first
reading_padded bytes at first i value scale b r few lt is none =
    let here : reads (8 - i) (drop (at + i) bytes) ≡ Some (read 0 1) =
    reads_next bytes (at + i) i b few lt is ∙ ap (λ c. cond (ltb c 128) (Some (read c 1)) (behind c (reads (8 - (i + 1)) (drop (at + i + 1) bytes)))) none in
    sym (ap (number_at at) (r.left ∙ ap (raised i value scale) here))

pub reading_done : (bytes : List ℕ) (at first i value scale b : ℕ) → IsReading bytes at first i value scale → i < 8 → at + i < length bytes → b ≡ get_or bytes (at + i) 0 → 0 < b → b < 128 →
    Some (record { value = value + scale * b; after = at + i + 1 }) ≡ longer_at bytes at first
reading_done bytes at first i value scale b r few lt is some small =
    let here : reads (8 - i) (drop (at + i) bytes) ≡ Some (read b 1) =
    reads_next bytes (at + i) i b few lt is ∙ ap (λ t. cond t (Some (read b 1)) (behind b (reads (8 - (i + 1)) (drop (at + i + 1) bytes)))) (lt-ltb b 128 small) in
    let place : at + (i + 1) ≡ at + i + 1 = omega arith in
    sym (ap (number_at at) (r.left ∙ ap (raised i value scale) here ∙ raised-some i value scale b 1 some) ∙ ap (λ n. Some (record { value = value + scale * b; after = n })) place)

pub reading_more : (bytes : List ℕ) (at first i value scale b : ℕ) → IsReading bytes at first i value scale → i < 8 → at + i < length bytes → b ≡ get_or bytes (at + i) 0 → 128 ≤ b → b < 256 →
    IsReading bytes at first (i + 1) (value + scale * (b - 128)) (scale * 128)
reading_more bytes at first i value scale b r few lt is top fits =
    let here : reads (8 - i) (drop (at + i) bytes) ≡ behind b (reads (8 - (i + 1)) (drop (at + i + 1) bytes)) =
    reads_next bytes (at + i) i b few lt is ∙ ap (λ t. cond t (Some (read b 1)) (behind b (reads (8 - (i + 1)) (drop (at + i + 1) bytes)))) (le-ltb b 128 top) in
    let next : i + 1 ≡ suc i = omega arith in
    let whole : 128 ^ suc i ≡ 128 ^ i * 128 = pow-suc 128 i in
    let place : at + i + 1 ≡ at + (i + 1) = omega arith in
    let least = r.small in
    let digit : scale * (b - 128) ≤ scale * 127 = mul-le-mul_left scale (omega (arith, fits)) in
    record {
      power = ap (λ s. s * 128) r.power ∙ sym whole ∙ ap (λ n. 128 ^ n) (sym next);
      small = omega (arith, least, digit);
      left = r.left ∙ ap (raised i value scale) here ∙ raised-more i value scale b (reads (8 - (i + 1)) (drop (at + i + 1) bytes))
          ∙ ap (λ n. raised (i + 1) (value + scale * (b - 128)) (scale * 128) (reads (8 - (i + 1)) (drop n bytes))) place;
    }

pub reading_small : (bytes : List ℕ) (at first i value scale : ℕ) → IsReading bytes at first i value scale → i < 8 → scale ≤ 2 ^ 49
reading_small bytes at first i value scale r few =
    let up : i ≤ 7 = omega (arith, few) in
    let positive : 0 < 128 = omega arith in
    let most : 128 ^ i ≤ 128 ^ 7 = pow-le-pow_right positive up in
    let power = r.power in
    omega (arith, most, power)

pub reading_scaled : (bytes : List ℕ) (at first i value scale b : ℕ) → IsReading bytes at first i value scale → i < 8 → b < 256 → (scale * b < 2 ^ 57) × (value + scale * b < 2 ^ 58)
reading_scaled bytes at first i value scale b r few fits =
    let most = reading_small bytes at first i value scale r few in
    let least = r.small in
    let digit : scale * b ≤ scale * 255 = mul-le-mul_left scale (omega (arith, fits)) in
    (omega (arith, digit, most), omega (arith, digit, most, least))
