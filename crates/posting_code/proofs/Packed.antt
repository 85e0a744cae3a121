-- Lists that are kept by their packed differences.
use Rattle.std.proofs.Common.{◌≡◌, ℕ, zero, suc, ◌+◌, ◌-◌, ◌*◌, ◌/◌, ◌%◌, ◌^◌, ◌<◌, ◌≤◌, List, [], ◌∷◌, ◌++◌, length, drop, get_or, ltb, eqb, false, mul-add, append_assoc, length-append, inl, inr, refl, sym, ap, ◌∙◌, subst, arith}
use Rattle.std.proofs.lemmas.Bool.{lt-ltb, le-ltb, cases_lt, cases_Bool, eqb-true}
use Rattle.std.proofs.Math.Nat.{pow-suc, mul_assoc}
use Rattle.std.proofs.Math.ListN.{drop_of_length-le}
use Rattle.std.proofs.lemmas.List.{get_or_append_left, get_or-append-add, drop-append-le, append-nil}
use Rattle.posting_code.specs.Numbers.{spelling_within, spelling, IsNumberAt, HasNoNumberAt}
use Rattle.posting_code.specs.Postings.{RiseWithin, ArePostings}
use Rattle.posting_code.specs.Packed.{unpacked, members_behind, kept, packed_from, packed_of, CanUnpack, IsHead, IsKept, IsKeptTo, heads_behind, last_of}
use Rattle.posting_code.specs.Blocks.{count_in, first_in, heads_in, AreBlocks}
use Rattle.posting_code.specs.declared.head.Head.{Head}
use Rattle.posting_code.specs.declared.blocks.Blocks.{Blocks}
use Rattle.posting_code.proofs.Numbers.{within-small, within-more, prefix_free}
use Rattle.posting_code.proofs.Rising.{last_of-push}

-- a packed number is read in one go
unpacked-within : (k n before value scale : ℕ) (rest : List ℕ) → n < 128 ^ suc k →
    unpacked before value scale (spelling_within (suc k) n ++ rest) ≡ (before + (value + scale * n)) ∷ unpacked (before + (value + scale * n)) 0 1 rest
unpacked-within zero n before value scale rest lt =
    let small : n < 128 = omega (arith, lt) in
    ap (λ bs. unpacked before value scale (bs ++ rest)) (within-small 0 n small) ∙ rw (lt-ltb n 128 small) refl
unpacked-within (suc k) n before value scale rest lt =
    let whole : 128 ^ suc (suc k) ≡ 128 ^ suc k * 128 = pow-suc 128 (suc k) in
    let part : n / 128 < 128 ^ suc k = omega (arith, lt, whole) in
    elim (cases_lt n 128) [
      | inl small ↦ ap (λ bs. unpacked before value scale (bs ++ rest)) (within-small (suc k) n small) ∙ rw (lt-ltb n 128 small) refl
      | inr large ↦
          let b = 128 + n % 128 in
          let top : ltb b 128 ≡ false = le-ltb b 128 (omega arith) in
          let next = value + scale * (b - 128) in
          let digit : scale * (128 * (n / 128)) ≡ scale * 128 * (n / 128) = sym (mul_assoc scale 128 (n / 128)) in
          let split : n ≡ (b - 128) + 128 * (n / 128) = omega arith in
          let parts : scale * n ≡ scale * (b - 128) + scale * (128 * (n / 128)) = ap (λ m. scale * m) split ∙ mul-add scale (b - 128) (128 * (n / 128)) in
          let same : next + scale * 128 * (n / 128) ≡ value + scale * n = omega (arith, digit, parts) in
          ap (λ bs. unpacked before value scale (bs ++ rest)) (within-more (suc k) n large)
          ∙ rw top (unpacked-within k (n / 128) before next (scale * 128) rest part ∙ ap (λ v. (before + v) ∷ unpacked (before + v) 0 1 rest) same)
    ]

unpacked-spelling : (n before : ℕ) (rest : List ℕ) → n < 2 ^ 56 → unpacked before 0 1 (spelling n ++ rest) ≡ (before + n) ∷ unpacked (before + n) 0 1 rest
unpacked-spelling n before rest lt =
    let same : 0 + 1 * n ≡ n = omega arith in
    unpacked-within 7 n before 0 1 rest lt ∙ ap (λ v. (before + v) ∷ unpacked (before + v) 0 1 rest) same

-- members are what their differences unpack to
pub unpacked-packed : (before : ℕ) (ps : List ℕ) → RiseWithin (before + 1) (2 ^ 56) ps → unpacked before 0 1 (packed_from before ps) ≡ ps
unpacked-packed before [] r = refl
unpacked-packed before (p ∷ ps) r =
    let low = r.0 in
    let high = r.1 in
    let whole : before + (p - before) ≡ p = omega (arith, low) in
    unpacked-spelling (p - before) before (packed_from p ps) (omega (arith, high))
    ∙ ap (λ q. q ∷ unpacked q 0 1 (packed_from p ps)) whole
    ∙ ap (λ qs. p ∷ qs) (unpacked-packed p ps r.2)

pub can_unpack : (packed ps : List ℕ) (before at : ℕ) → RiseWithin (before + 1) (2 ^ 56) ps → drop at packed ≡ packed_from before ps → (members_behind packed before at ≡ ps) × CanUnpack packed before at
can_unpack packed ps before at rising spelled =
    let is : members_behind packed before at ≡ ps = ap (unpacked before 0 1) spelled ∙ unpacked-packed before ps rising in
    (is, record { rising = subst (RiseWithin (before + 1) (2 ^ 56)) (sym is) rising; spelled = spelled ∙ ap (packed_from before) (sym is) })

-- the next member
pub record IsNext (packed : List ℕ) (before at value after : ℕ) : Type 0 where
  pub next : members_behind packed before at ≡ (before + value) ∷ members_behind packed (before + value) after
  pub above : before < before + value
  pub can : CanUnpack packed (before + value) after
  pub small : before + value < 2 ^ 56

next_absurd_in : (packed ps : List ℕ) (before at : ℕ) → RiseWithin (before + 1) (2 ^ 56) ps → drop at packed ≡ packed_from before ps → 0 < length ps → HasNoNumberAt packed at → ⊥
next_absurd_in packed [] before at r spelled some none_there = absurd (omega (arith, some))
next_absurd_in packed (p ∷ ps) before at r spelled some none_there = let high = r.1 in none_there (p - before) (packed_from p ps) (omega (arith, high)) spelled

pub next_absurd : (packed : List ℕ) (before at : ℕ) → CanUnpack packed before at → 0 < length (members_behind packed before at) → HasNoNumberAt packed at → ⊥
next_absurd packed before at can some none_there = next_absurd_in packed (members_behind packed before at) before at can.rising can.spelled some none_there

next_in : (packed ps : List ℕ) (before at value after : ℕ) → members_behind packed before at ≡ ps → RiseWithin (before + 1) (2 ^ 56) ps → drop at packed ≡ packed_from before ps → 0 < length ps →
    IsNumberAt packed at value after → IsNext packed before at value after
next_in packed [] before at value after is r spelled some n = absurd (omega (arith, some))
next_in packed (p ∷ ps) before at value after is r spelled some n =
    let low = r.0 in
    let high = r.1 in
    let both = prefix_free (p - before) value (packed_from p ps) (drop after packed) (omega (arith, high)) n.small (sym spelled ∙ n.spelled) in
    let difference : p - before ≡ value = both.0 in
    let member : p ≡ before + value = omega (arith, difference, low) in
    let rest = can_unpack packed ps p after r.2 (sym both.1) in
    record {
      next = is ∙ ap (λ qs. p ∷ qs) (sym rest.0) ∙ ap (λ q. q ∷ members_behind packed q after) member;
      above = omega (arith, member, low);
      can = subst (λ q. CanUnpack packed q after) member rest.1;
      small = omega (arith, member, high);
    }

pub next_is : (packed : List ℕ) (before at value after : ℕ) → CanUnpack packed before at → 0 < length (members_behind packed before at) → IsNumberAt packed at value after → IsNext packed before at value after
next_is packed before at value after can some n = next_in packed (members_behind packed before at) before at value after refl can.rising can.spelled some n

-- one member more
pub packed_from-push : (before : ℕ) (ps : List ℕ) (y : ℕ) → packed_from before (ps ++ y ∷ []) ≡ packed_from before ps ++ spelling (y - last_of (before ∷ ps))
packed_from-push before [] y = append-nil (spelling (y - before))
packed_from-push before (p ∷ ps) y = ap (λ bs. spelling (p - before) ++ bs) (packed_from-push p ps y) ∙ sym (append_assoc (spelling (p - before)) (packed_from p ps) (spelling (y - last_of (p ∷ ps))))

-- what was kept, and one member after it
pub record IsGrown (count first : ℕ) (packed : List ℕ) (last y : ℕ) (more : List ℕ) : Type 0 where
  pub some : 0 < count
  pub last_is : last ≡ last_of (kept count first packed)
  pub rising : ArePostings (kept count first packed ++ y ∷ [])
  pub more_is : more ≡ packed ++ spelling (y - last)

pub grown_list : (count first : ℕ) (packed : List ℕ) (heads : List Head) (last y next : ℕ) (more : List ℕ) → IsKept count first packed heads → IsGrown count first packed last y more → next ≡ count + 1 →
    (kept next first more ≡ kept count first packed ++ y ∷ []) × (more ≡ packed_of (kept count first packed ++ y ∷ []))
grown_list zero first packed heads last y next more k g is = let some = g.some in absurd (omega (arith, some))
grown_list (suc n) first packed heads last y next more k g is =
    let ps = unpacked first 0 1 packed in
    let spelled : more ≡ packed_from first (ps ++ y ∷ []) =
    g.more_is ∙ ap (λ l. packed ++ spelling (y - l)) g.last_is ∙ ap (λ bs. bs ++ spelling (y - last_of (first ∷ ps))) k.differences ∙ sym (packed_from-push first ps y) in
    let suc_is : next ≡ suc (suc n) = omega (arith, is) in
    (ap (λ m. kept m first more) suc_is ∙ ap (λ bs. first ∷ unpacked first 0 1 bs) spelled ∙ ap (λ qs. first ∷ qs) (unpacked-packed first (ps ++ y ∷ []) g.rising.2), spelled)

-- the first of a list is kept apart
pub first_kept : (first y : ℕ) (packed : List ℕ) (heads : List Head) → IsKept 0 first packed heads → ArePostings (y ∷ []) → (kept 1 y packed ≡ y ∷ []) × IsKeptTo y 1 y packed heads
first_kept first y packed heads k rising =
    let none : packed ≡ [] = k.differences in
    let is : kept 1 y packed ≡ y ∷ [] = ap (λ bs. y ∷ unpacked y 0 1 bs) none in
    let marked : length heads ≡ 0 = k.marked in (
      is,
      record {
        parts = record {
          rising = subst ArePostings (sym is) rising;
          counted = ap length (sym is);
          differences = none ∙ ap packed_of (sym is);
          marked = marked;
          blocks = λ b d lt. absurd (omega (arith, marked, lt));
        };
        end = ap last_of (sym is);
      },
    )

pub last_behind : (xs : List ℕ) (i : ℕ) → i < length xs → last_of (get_or xs i 0 ∷ drop (i + 1) xs) ≡ last_of xs
last_behind [] i lt = absurd (omega (arith, lt))
last_behind (x ∷ xs) zero lt = refl
last_behind (x ∷ []) (suc i) lt = absurd (omega (arith, lt))
last_behind (x ∷ z ∷ xs) (suc i) lt =
    let e : suc i + 1 ≡ suc (i + 1) = omega arith in
    ap (λ n. last_of (get_or (z ∷ xs) i 0 ∷ drop n (x ∷ z ∷ xs))) e ∙ last_behind (z ∷ xs) i (omega (arith, lt))

head_grown : (xs packed more : List ℕ) (y place : ℕ) (head : Head) → place < length xs → more ≡ packed ++ spelling (y - last_of xs) → IsHead xs packed place head → IsHead (xs ++ y ∷ []) more place head
head_grown xs packed more y place head lt is h =
    let within = h.within in
    let long = length-append packed (spelling (y - last_of xs)) in
    let longer : length packed ≤ length more = let e = ap length is in omega (arith, long, e) in
    let end : last_of (head.first ∷ drop (place + 1) xs) ≡ last_of xs = ap (λ f. last_of (f ∷ drop (place + 1) xs)) h.first ∙ last_behind xs place lt in
    record {
      first = h.first ∙ sym (get_or_append_left xs (y ∷ []) 0 place lt);
      within = omega (arith, within, longer);
      rest = ap (drop head.at) is ∙ drop-append-le head.at packed (spelling (y - last_of xs)) h.within ∙ ap (λ bs. bs ++ spelling (y - last_of xs)) h.rest
          ∙ ap (λ l. packed_from head.first (drop (place + 1) xs) ++ spelling (y - l)) (sym end)
          ∙ sym (packed_from-push head.first (drop (place + 1) xs) y)
          ∙ ap (packed_from head.first) (sym (drop-append-le (place + 1) xs (y ∷ []) (omega (arith, lt))));
    }

-- a member that begins no block
pub kept_more : (count first : ℕ) (packed : List ℕ) (heads : List Head) (last y next : ℕ) (more : List ℕ) → IsKept count first packed heads → IsGrown count first packed last y more → next ≡ count + 1 →
    (count % 64 ≡ 0 → ⊥) → IsKept next first more heads
kept_more count first packed heads last y next more k g is off =
    let xs = kept count first packed in
    let list = grown_list count first packed heads last y next more k g is in
    let long = length-append xs (y ∷ []) in
    let counted = k.counted in
    let marked = k.marked in
    let more_is : more ≡ packed ++ spelling (y - last_of xs) = g.more_is ∙ ap (λ l. packed ++ spelling (y - l)) g.last_is in
    record {
      rising = subst ArePostings (sym list.0) g.rising;
      counted = let e = ap length list.0 in omega (arith, e, long, counted, is);
      differences = list.1 ∙ ap packed_of (sym list.0);
      marked = omega (arith, marked, is, off);
      blocks = λ b d lt.
          subst (λ l. IsHead l more (64 * (b + 1)) (get_or heads b d)) (sym list.0)
          (head_grown xs packed more y (64 * (b + 1)) (get_or heads b d) (omega (arith, lt, marked, counted)) more_is (k.blocks b d lt));
    }

-- a member that begins one
pub kept_block : (count first : ℕ) (packed : List ℕ) (heads : List Head) (last y next : ℕ) (more : List ℕ) (head : Head) (longer : List Head) → IsKept count first packed heads → IsGrown count first packed last y more →
    next ≡ count + 1 → count % 64 ≡ 0 → head.first ≡ y → head.at ≡ length more → longer ≡ heads ++ head ∷ [] → IsKept next first more longer
kept_block count first packed heads last y next more head longer k g is on head_first head_at longer_is =
    let xs = kept count first packed in
    let list = grown_list count first packed heads last y next more k g is in
    let long = length-append xs (y ∷ []) in
    let counted = k.counted in
    let marked = k.marked in
    let some = g.some in
    let more_is : more ≡ packed ++ spelling (y - last_of xs) = g.more_is ∙ ap (λ l. packed ++ spelling (y - l)) g.last_is in
    let heads_long : length longer ≡ length heads + 1 = ap length longer_is ∙ length-append heads (head ∷ []) in
    let place : 64 * (length heads + 1) ≡ length xs = omega (arith, marked, counted, on, some) in
    let new : IsHead (xs ++ y ∷ []) more (length xs) head =
    let seam : length xs + 0 ≡ length xs = omega arith in
    record {
      first = head_first ∙ sym (ap (λ n. get_or (xs ++ y ∷ []) n 0) (sym seam) ∙ get_or-append-add xs (y ∷ []) 0 0);
      within = omega (arith, head_at);
      rest = ap (λ n. drop n more) head_at ∙ drop_of_length-le more (omega arith) ∙ ap (packed_from head.first) (sym (drop_of_length-le (xs ++ y ∷ []) (omega (arith, long))));
    } in
    record {
      rising = subst ArePostings (sym list.0) g.rising;
      counted = let e = ap length list.0 in omega (arith, e, long, counted, is);
      differences = list.1 ∙ ap packed_of (sym list.0);
      marked = omega (arith, marked, is, on, heads_long, some);
      blocks = λ b d lt.
          subst (λ l. IsHead l more (64 * (b + 1)) (get_or longer b d)) (sym list.0)
          (subst (λ hs. IsHead (xs ++ y ∷ []) more (64 * (b + 1)) (get_or hs b d)) (sym longer_is)
          (elim (cases_lt b (length heads)) [
            | inl old ↦ subst (IsHead (xs ++ y ∷ []) more (64 * (b + 1))) (sym (get_or_append_left heads (head ∷ []) d b old))
                (head_grown xs packed more y (64 * (b + 1)) (get_or heads b d) (omega (arith, old, marked, counted)) more_is (k.blocks b d old))
            | inr past ↦
                let b_is : b ≡ length heads + 0 = omega (arith, past, lt, heads_long) in
                let there : 64 * (b + 1) ≡ length xs = omega (arith, b_is, place) in
                let held : get_or (heads ++ head ∷ []) b d ≡ head = ap (λ n. get_or (heads ++ head ∷ []) n d) b_is ∙ get_or-append-add heads (head ∷ []) 0 d in
                subst (λ n. IsHead (xs ++ y ∷ []) more n (get_or (heads ++ head ∷ []) b d)) (sym there) (subst (IsHead (xs ++ y ∷ []) more (length xs)) (sym held) new)
          ]));
    }

-- a member after the others, whether it begins a block or not
kept_next : (count first : ℕ) (packed : List ℕ) (heads : List Head) (last y next : ℕ) (more : List ℕ) (head : Head) (longer : List Head) → IsKept count first packed heads → IsGrown count first packed last y more →
    next ≡ count + 1 → head.first ≡ y → head.at ≡ length more → longer ≡ heads_behind count heads head → IsKept next first more longer
kept_next count first packed heads last y next more head longer k g is head_first head_at longer_is =
    elim (cases_Bool (eqb (count % 64) 0)) [
      | inl on ↦ kept_block count first packed heads last y next more head longer k g is (eqb-true (count % 64) 0 on) head_first head_at (longer_is ∙ rw on refl)
      | inr off ↦ subst (IsKept next first more) (sym (longer_is ∙ rw off refl)) (kept_more count first packed heads last y next more k g is (λ e. let h = rw e at off in absurd cc))
    ]

-- the same, with the member as the last one
pub next_kept : (count first : ℕ) (packed : List ℕ) (heads : List Head) (last y next : ℕ) (more : List ℕ) (head : Head) (longer : List Head) → IsKept count first packed heads → IsGrown count first packed last y more →
    next ≡ count + 1 → head.first ≡ y → head.at ≡ length more → longer ≡ heads_behind count heads head → IsKeptTo y next first more longer
next_kept count first packed heads last y next more head longer k g is head_first head_at longer_is = record {
  parts = kept_next count first packed heads last y next more head longer k g is head_first head_at longer_is;
  end = sym (ap last_of (grown_list count first packed heads last y next more k g is).0 ∙ last_of-push (kept count first packed) y);
}

pub is_grown : (list : List ℕ) (count first : ℕ) (packed : List ℕ) (last y : ℕ) (more : List ℕ) → 0 < count → kept count first packed ≡ list → last ≡ last_of list → ArePostings (list ++ y ∷ []) →
    more ≡ packed ++ spelling (y - last) → IsGrown count first packed last y more
is_grown list count first packed last y more some is last_is rising more_is =
    record { some = some; last_is = last_is ∙ ap last_of (sym is); rising = subst (λ xs. ArePostings (xs ++ y ∷ [])) (sym is) rising; more_is = more_is }

-- blocks with these parts keep the same list
pub blocks_list : (blocks : Blocks) (count first : ℕ) (packed : List ℕ) (heads : List Head) → AreBlocks blocks count first heads → kept (count_in blocks) (first_in blocks) packed ≡ kept count first packed
blocks_list blocks count first packed heads are = ap (λ n. kept n (first_in blocks) packed) are.counted ∙ ap (λ f. kept count f packed) are.begun

blocks_kept : (blocks : Blocks) (count first : ℕ) (packed : List ℕ) (heads : List Head) → AreBlocks blocks count first heads → IsKept count first packed heads → IsKept (count_in blocks) (first_in blocks) packed (heads_in blocks)
blocks_kept blocks count first packed heads are k =
    subst (λ n. IsKept n (first_in blocks) packed (heads_in blocks)) (sym are.counted)
    (subst (λ f. IsKept count f packed (heads_in blocks)) (sym are.begun) (subst (IsKept count first packed) (sym are.marked) k))

pub blocks_kept_to : (blocks : Blocks) (last count first : ℕ) (packed : List ℕ) (heads : List Head) → AreBlocks blocks count first heads → IsKeptTo last count first packed heads → IsKeptTo last (count_in blocks) (first_in blocks) packed (heads_in blocks)
blocks_kept_to blocks last count first packed heads are k = record {
  parts = blocks_kept blocks count first packed heads are k.parts;
  end = k.end ∙ ap last_of (sym (blocks_list blocks count first packed heads are));
}

-- no members
pub none_kept : (first : ℕ) → IsKeptTo 0 0 first [] []
none_kept first = record {
  parts = record { rising = tt; counted = refl; differences = refl; marked = refl; blocks = λ b d lt. absurd (omega (arith, lt)) };
  end = refl;
}

-- the first member of all
pub first_put : (list : List ℕ) (count first y : ℕ) (packed : List ℕ) (heads : List Head) → kept count first packed ≡ list → IsKept count first packed heads → count ≡ 0 → ArePostings (list ++ y ∷ []) →
    (kept 1 y packed ≡ list ++ y ∷ []) × IsKeptTo y 1 y packed []
first_put list zero first y packed [] is parts none rising =
    let both = first_kept first y packed [] parts (subst (λ l. ArePostings (l ++ y ∷ [])) (sym is) rising) in
    (both.0 ∙ ap (λ l. l ++ y ∷ []) is, both.1)
first_put list zero first y packed (h ∷ hs) is parts none rising = let marked = parts.marked in absurd (omega (arith, marked))
first_put list (suc count) first y packed heads is parts none rising = absurd (omega (arith, none))
