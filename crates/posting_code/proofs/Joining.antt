-- Two lists that are joined.
use Rattle.std.proofs.Common.{◌≡◌, ℕ, zero, suc, ◌+◌, ◌-◌, ◌*◌, ◌/◌, ◌%◌, ◌<◌, ◌≤◌, List, [], ◌∷◌, ◌++◌, length, length-drop, drop, drop-drop, get_or, append_assoc, length-append, inl, inr, refl, sym, ap, ◌∙◌, subst, arith}
use Rattle.std.proofs.lemmas.Bool.{cases_lt}
use Rattle.std.proofs.Math.Seq.{drop-append-add}
use Rattle.std.proofs.lemmas.List.{get_or_append_left, get_or-append-add, drop-append-le, drop_more}
use Rattle.posting_code.specs.Numbers.{spelling, IsNumberAt}
use Rattle.posting_code.specs.Postings.{RiseWithin, ArePostings}
use Rattle.posting_code.specs.Packed.{unpacked, members_behind, kept, packed_from, packed_of, CanUnpack, IsHead, IsKept, StandsAt, head_at, last_of}
use Rattle.posting_code.specs.declared.head.Head.{Head}
use Rattle.posting_code.proofs.Packed.{unpacked-packed, last_behind}
use Rattle.posting_code.proofs.Around.{head_block}

packed_from-append : (before : ℕ) (ps qs : List ℕ) → packed_from before (ps ++ qs) ≡ packed_from before ps ++ packed_from (last_of (before ∷ ps)) qs
packed_from-append before [] qs = refl
packed_from-append before (p ∷ ps) qs = ap (λ bs. spelling (p - before) ++ bs) (packed_from-append p ps qs) ∙ sym (append_assoc (spelling (p - before)) (packed_from p ps) (packed_from (last_of (p ∷ ps)) qs))

-- the differences of two lists that are joined
pub packed_of-append : (xs ys : List ℕ) → 0 < length xs → packed_of (xs ++ ys) ≡ packed_of xs ++ packed_from (last_of xs) ys
packed_of-append [] ys some = absurd (omega (arith, some))
packed_of-append (x ∷ xs) ys some = packed_from-append x xs ys

packed_from-first : (before : ℕ) (ys : List ℕ) → 0 < length ys → packed_from before ys ≡ spelling (get_or ys 0 0 - before) ++ packed_of ys
packed_from-first before [] some = absurd (omega (arith, some))
packed_from-first before (y ∷ ys) some = refl

-- the bytes of both, and those of the step between them
pub packed_joined : (xs ys : List ℕ) → 0 < length xs → 0 < length ys → packed_of (xs ++ ys) ≡ (packed_of xs ++ spelling (get_or ys 0 0 - last_of xs)) ++ packed_of ys
packed_joined xs ys some more =
    packed_of-append xs ys some ∙ ap (λ bs. packed_of xs ++ bs) (packed_from-first (last_of xs) ys more)
    ∙ sym (append_assoc (packed_of xs) (spelling (get_or ys 0 0 - last_of xs)) (packed_of ys))

-- what is kept by its first member and its differences
pub kept_of : (list : List ℕ) (count first : ℕ) (packed : List ℕ) → ArePostings list → 0 < length list → count ≡ length list → first ≡ get_or list 0 0 → packed ≡ packed_of list → kept count first packed ≡ list
kept_of [] count first packed r some is first_is packed_is = absurd (omega (arith, some))
kept_of (x ∷ xs) zero first packed r some is first_is packed_is = absurd (omega (arith, is))
kept_of (x ∷ xs) (suc n) first packed r some is first_is packed_is =
    ap (λ f. f ∷ unpacked f 0 1 packed) first_is ∙ ap (λ bs. x ∷ unpacked x 0 1 bs) packed_is ∙ ap (λ ps. x ∷ ps) (unpacked-packed x xs r.2)

-- what rises after a list begins above its last member
pub rise_step : (low end : ℕ) (xs ys : List ℕ) → RiseWithin low end (xs ++ ys) → 0 < length xs → 0 < length ys → (last_of xs < get_or ys 0 0) × (get_or ys 0 0 < end)
rise_step low end [] ys r some more = absurd (omega (arith, some))
rise_step low end (x ∷ xs) [] r some more = absurd (omega (arith, more))
rise_step low end (x ∷ []) (y ∷ ys) r some more = let a = r.2.0 in (omega (arith, a), r.2.1)
rise_step low end (x ∷ z ∷ xs) (y ∷ ys) r some more = rise_step (x + 1) end (z ∷ xs) (y ∷ ys) r.2 (omega arith) more

-- a head of the earlier list
pub head_before : (xs ys : List ℕ) (place : ℕ) (head : Head) → place < length xs → IsHead xs (packed_of xs) place head → IsHead (xs ++ ys) (packed_of (xs ++ ys)) place head
head_before xs ys place head lt h =
    let is = packed_of-append xs ys (omega (arith, lt)) in
    let tail = packed_from (last_of xs) ys in
    let within = h.within in
    let long = ap length is ∙ length-append (packed_of xs) tail in
    let end : last_of (head.first ∷ drop (place + 1) xs) ≡ last_of xs = ap (λ f. last_of (f ∷ drop (place + 1) xs)) h.first ∙ last_behind xs place lt in
    record {
      first = h.first ∙ sym (get_or_append_left xs ys 0 place lt);
      within = omega (arith, within, long);
      rest = ap (drop head.at) is ∙ drop-append-le head.at (packed_of xs) tail h.within ∙ ap (λ bs. bs ++ tail) h.rest
          ∙ ap (λ l. packed_from head.first (drop (place + 1) xs) ++ packed_from l ys) (sym end)
          ∙ sym (packed_from-append head.first (drop (place + 1) xs) ys)
          ∙ ap (packed_from head.first) (sym (drop-append-le (place + 1) xs ys (omega (arith, lt))));
    }

-- a head of the later list
pub head_behind : (xs ys front : List ℕ) (place next : ℕ) (head : Head) → packed_of (xs ++ ys) ≡ front ++ packed_of ys → next ≡ length xs + place → IsHead ys (packed_of ys) place head →
    IsHead (xs ++ ys) (packed_of (xs ++ ys)) next record { first = head.first; at = length front + head.at }
head_behind xs ys front place next head is at h =
    let within = h.within in
    let long = ap length is ∙ length-append front (packed_of ys) in
    let step : length xs + place + 1 ≡ length xs + (place + 1) = omega arith in
    subst (λ n. IsHead (xs ++ ys) (packed_of (xs ++ ys)) n record { first = head.first; at = length front + head.at }) (sym at)
    record {
      first = h.first ∙ sym (get_or-append-add xs ys place 0);
      within = omega (arith, within, long);
      rest = ap (drop (length front + head.at)) is ∙ drop-append-add front (packed_of ys) head.at ∙ h.rest
          ∙ ap (packed_from head.first) (sym (ap (λ n. drop n (xs ++ ys)) step ∙ drop-append-add xs ys (place + 1)));
    }

-- the head of a member from which reading can go on
pub is_head : (list packed : List ℕ) (place : ℕ) (head : Head) → packed ≡ packed_of list → drop place list ≡ head.first ∷ members_behind packed head.first head.at → place < length list →
    head.at ≤ length packed → CanUnpack packed head.first head.at → IsHead list (packed_of list) place head
is_head list packed place head same is lt within can =
    let split = sym (drop_more list place 0 lt) ∙ is in
    subst (λ bs. IsHead list bs place head) same
    record {
      first = sym (ap (λ l. get_or l 0 0) split);
      within = within;
      rest = can.spelled ∙ ap (λ l. packed_from head.first (drop 1 l)) (sym split);
    }

-- a head is within the bytes
pub head_within : (count first : ℕ) (packed : List ℕ) (heads : List Head) (block : ℕ) → IsKept count first packed heads → block ≤ length heads → (head_at first heads block).at ≤ length packed
head_within count first packed heads zero k le = omega arith
head_within count first packed heads (suc b) k le = (k.blocks b (record { first = first; at = 0 }) (omega (arith, le))).within

-- the head of a member's block
pub block_stands : (list : List ℕ) (count first : ℕ) (packed bytes : List ℕ) (heads held : List Head) (place : ℕ) (head : Head) → kept count first packed ≡ list → IsKept count first packed heads → place < length list →
    bytes ≡ packed → held ≡ heads → head ≡ head_at first held (place / 64) → StandsAt list bytes (64 * (place / 64)) head
block_stands list count first packed bytes heads held place head is k lt bytes_is held_is head_is =
    let counted = k.counted in
    let long = ap length is in
    let b = head_block count first packed heads (place / 64) k (omega (arith, lt, long)) in
    let mine : StandsAt list packed (64 * (place / 64)) (head_at first heads (place / 64)) =
    record { can = b.1.can; within = head_within count first packed heads (place / 64) k b.0; is = ap (drop (64 * (place / 64))) (sym is) ∙ b.1.is } in
    subst (λ bs. StandsAt list bs (64 * (place / 64)) head) (sym bytes_is)
    (subst (StandsAt list packed (64 * (place / 64))) (sym (head_is ∙ ap (λ hs. head_at first hs (place / 64)) held_is)) mine)

-- and the blocks that there are
pub block_is_there : (list : List ℕ) (count first : ℕ) (packed : List ℕ) (heads held : List Head) (place : ℕ) → kept count first packed ≡ list → IsKept count first packed heads → place < length list → held ≡ heads → place / 64 ≤ length held
block_is_there list count first packed heads held place is k lt held_is =
    let long = ap length is in
    let there = (head_block count first packed heads (place / 64) k (omega (arith, lt, long))).0 in
    subst (λ hs. place / 64 ≤ length hs) (sym held_is) there

-- there are enough members after it
pub enough_behind : (list packed : List ℕ) (place : ℕ) (head : Head) → place < length list → StandsAt list packed (64 * (place / 64)) head → place % 64 ≤ length (members_behind packed head.first head.at)
enough_behind list packed place head lt stands =
    let long = length-drop (64 * (place / 64)) list in
    let parts = ap length stands.is in
    omega (arith, long, parts, lt)

-- and the member is this many after it
pub walked_head : (list packed bytes : List ℕ) (place : ℕ) (head found : Head) → place < length list → packed ≡ packed_of list → bytes ≡ packed → StandsAt list bytes (64 * (place / 64)) head →
    drop (place % 64) (head.first ∷ members_behind bytes head.first head.at) ≡ found.first ∷ members_behind bytes found.first found.at → CanUnpack bytes found.first found.at → found.at ≤ length bytes →
    IsHead list (packed_of list) place found
walked_head list packed bytes place head found lt same bytes_is stands rest can within =
    let whole : 64 * (place / 64) + place % 64 ≡ place = omega arith in
    is_head list bytes place found (bytes_is ∙ same)
    (ap (λ n. drop n list) (sym whole) ∙ sym (drop-drop (place % 64) (64 * (place / 64)) list) ∙ ap (drop (place % 64)) stands.is ∙ rest) lt within can

-- the heads of the blocks that begin before a place
pub record AreHeads (list : List ℕ) (heads : List Head) : Type 0 where
  pub blocks : (b : ℕ) (d : Head) → b < length heads → IsHead list (packed_of list) (64 * (b + 1)) (get_or heads b d)

pub one_head_more : (list : List ℕ) (heads longer : List Head) (head : Head) (place : ℕ) → AreHeads list heads → longer ≡ heads ++ head ∷ [] → place ≡ 64 * (length heads + 1) → IsHead list (packed_of list) place head → AreHeads list longer
one_head_more list heads longer head place are is at h = record {
  blocks = λ b d lt.
      subst (λ hs. IsHead list (packed_of list) (64 * (b + 1)) (get_or hs b d)) (sym is)
      (elim (cases_lt b (length heads)) [
        | inl old ↦ subst (IsHead list (packed_of list) (64 * (b + 1))) (sym (get_or_append_left heads (head ∷ []) d b old)) (are.blocks b d old)
        | inr past ↦
            let long = ap length is ∙ length-append heads (head ∷ []) in
            let b_is : b ≡ length heads + 0 = omega (arith, past, lt, long) in
            let there : place ≡ 64 * (b + 1) = omega (arith, b_is, at) in
            let held : get_or (heads ++ head ∷ []) b d ≡ head = ap (λ n. get_or (heads ++ head ∷ []) n d) b_is ∙ get_or-append-add heads (head ∷ []) 0 d in
            subst (λ n. IsHead list (packed_of list) n (get_or (heads ++ head ∷ []) b d)) there (subst (IsHead list (packed_of list) place) (sym held) h)
      ]);
}

-- what was joined is kept
pub kept_joined : (list : List ℕ) (count first : ℕ) (packed : List ℕ) (heads : List Head) → ArePostings list → kept count first packed ≡ list → packed ≡ packed_of list → count ≡ length list → length heads ≡ (count + 63) / 64 - 1 → AreHeads list heads →
    IsKept count first packed heads
kept_joined list count first packed heads rising is packed_is counted marked are = record {
  rising = subst ArePostings (sym is) rising;
  counted = counted ∙ sym (ap length is);
  differences = packed_is ∙ ap packed_of (sym is);
  marked = marked;
  blocks = λ b d lt. subst (λ l. IsHead l packed (64 * (b + 1)) (get_or heads b d)) (sym is) (subst (λ bs. IsHead list bs (64 * (b + 1)) (get_or heads b d)) (sym packed_is) (are.blocks b d lt));
}

-- a number that is read within the bytes ends within them
pub number_within : (bytes : List ℕ) (at value after : ℕ) → IsNumberAt bytes at value after → at ≤ length bytes → after ≤ length bytes
number_within bytes at value after n within =
    let long = length-drop at bytes in
    let parts = ap length n.spelled ∙ length-append (spelling value) (drop after bytes) in
    let ends = n.behind in
    omega (arith, long, parts, ends, within)

-- the last of two lists is that of the later one
pub last_of-append : (xs ys : List ℕ) → 0 < length ys → last_of (xs ++ ys) ≡ last_of ys
last_of-append [] ys some = refl
last_of-append (x ∷ xs) [] some = absurd (omega (arith, some))
last_of-append (x ∷ []) (y ∷ ys) some = refl
last_of-append (x ∷ z ∷ xs) (y ∷ ys) some = last_of-append (z ∷ xs) (y ∷ ys) some
