-- Parts of a list that are lent as they are packed.
use Rattle.std.proofs.Common.{◌≡◌, ℕ, zero, suc, ◌+◌, ◌-◌, ◌*◌, ◌^◌, ◌<◌, ◌≤◌, List, [], ◌∷◌, ◌++◌, length, length-drop, length-take, take, drop, get_or, append_assoc, length-append, refl, sym, ap, ◌∙◌, subst, arith}
use Rattle.std.proofs.Math.Seq.{take-append_seam}
use Rattle.std.proofs.lemmas.List.{drop-drop, take-append-drop, take_all}
use Rattle.posting_code.specs.Numbers.{spelling}
use Rattle.posting_code.specs.Postings.{RiseWithin, ArePostings, blocks_of, block_of}
use Rattle.posting_code.specs.Packed.{members_behind, kept, packed_from, packed_of, CanUnpack, IsKept, IsKeptTo, StandsAt, head_at, last_of}
use Rattle.posting_code.specs.Cuts.{IsCut}
use Rattle.posting_code.specs.declared.head.Head.{Head}
use Rattle.posting_code.specs.declared.unpack.Cut.{Cut}
use Rattle.posting_code.proofs.Rising.{rise_drop, rise_wider}
use Rattle.posting_code.proofs.Around.{head_block, take_rises}
use Rattle.posting_code.proofs.Joining.{head_within, last_of-append}
use Rattle.posting_code.proofs.Shorts.{short_of}

abbrev none_of : List ℕ
none_of = []

-- the differences of the members up to one, and of those after it
pub packed_from-part : (before : ℕ) (ms : List ℕ) (steps r : ℕ) (rs : List ℕ) → drop steps (before ∷ ms) ≡ r ∷ rs →
    (packed_from before ms ≡ packed_from before (take steps ms) ++ packed_from r rs) × (last_of (before ∷ take steps ms) ≡ r)
packed_from-part before ms zero r rs is = let first : before ≡ r = cc in let rest : ms ≡ rs = cc in (ap (λ b. packed_from b ms) first ∙ ap (packed_from r) rest, first)
packed_from-part before [] (suc steps) r rs is = let long : length (drop steps none_of) ≡ suc (length rs) = ap length is in let none = length-drop steps none_of in absurd (omega (arith, long, none))
packed_from-part before (m ∷ ms) (suc steps) r rs is =
    let rest = packed_from-part m ms steps r rs is in
    (ap (λ bs. spelling (m - before) ++ bs) rest.0 ∙ sym (append_assoc (spelling (m - before)) (packed_from m (take steps ms)) (packed_from r rs)), rest.1)

-- the bytes from one member to another are the differences of those between
pub record IsStretch (packed : List ℕ) (steps : ℕ) (from to : Head) : Type 0 where
  pub rises : from.at ≤ to.at
  pub bytes : take (to.at - from.at) (drop from.at packed) ≡ packed_of (from.first ∷ take steps (members_behind packed from.first from.at))
  pub last : last_of (from.first ∷ take steps (members_behind packed from.first from.at)) ≡ to.first

pub stretch : (packed : List ℕ) (steps : ℕ) (from to : Head) → CanUnpack packed from.first from.at → from.at ≤ length packed → StandsAt (from.first ∷ members_behind packed from.first from.at) packed steps to → IsStretch packed steps from to
stretch packed steps from to can within stands =
    let ms = members_behind packed from.first from.at in
    let rs = members_behind packed to.first to.at in
    let part = packed_from-part from.first ms steps to.first rs stands.is in
    let own = packed_from from.first (take steps ms) in
    let whole : drop from.at packed ≡ own ++ drop to.at packed = can.spelled ∙ part.0 ∙ ap (λ bs. own ++ bs) (sym stands.can.spelled) in
    let long = ap length whole ∙ length-append own (drop to.at packed) in
    let long_from = length-drop from.at packed in
    let long_to = length-drop to.at packed in
    let end = stands.within in
    let size : to.at - from.at ≡ length own = omega (arith, long, long_from, long_to, within, end) in
    record {
      rises = omega (arith, long, long_from, long_to, within, end);
      bytes = ap (λ n. take n (drop from.at packed)) size ∙ ap (take (length own)) whole ∙ take-append_seam own (drop to.at packed);
      last = part.1;
    }

-- the head of a block, by its number
pub block_stands_at : (list : List ℕ) (count first : ℕ) (packed bytes : List ℕ) (heads held : List Head) (block : ℕ) (head : Head) → kept count first packed ≡ list → IsKept count first packed heads → block < blocks_of list →
    bytes ≡ packed → held ≡ heads → head ≡ head_at first held block → StandsAt list bytes (64 * block) head
block_stands_at list count first packed bytes heads held block head is k lt bytes_is held_is head_is =
    let inside : block < blocks_of (kept count first packed) = subst (λ l. block < blocks_of l) (sym is) lt in
    let b = head_block count first packed heads block k inside in
    let mine : StandsAt list packed (64 * block) (head_at first heads block) =
    record { can = b.1.can; within = head_within count first packed heads block k b.0; is = ap (drop (64 * block)) (sym is) ∙ b.1.is } in
    subst (λ bs. StandsAt list bs (64 * block) head) (sym bytes_is)
    (subst (StandsAt list packed (64 * block)) (sym (head_is ∙ ap (λ hs. head_at first hs block) held_is)) mine)

-- no member of a rising list is above the last
pub rise_to_last : (low end : ℕ) (xs : List ℕ) → RiseWithin low end xs → RiseWithin low (last_of xs + 1) xs
rise_to_last low end [] r = tt
rise_to_last low end (x ∷ []) r = (r.0, omega arith, tt)
rise_to_last low end (x ∷ z ∷ xs) r =
    let rest = rise_to_last (x + 1) end (z ∷ xs) r.2 in
    let above = rest.0 in
    let below = rest.1 in
    (r.0, omega (arith, above, below), rest)

-- if the last is below a number, all are
pub all_below : (k : ℕ) (xs : List ℕ) → ArePostings xs → last_of xs < k → RiseWithin 0 k xs
all_below k xs r lt = rise_wider 0 0 (last_of xs + 1) k xs (rise_to_last 0 (2 ^ 56) xs r) (omega arith) (omega (arith, lt))

-- all bytes starting at a place
take_rest : (bytes : List ℕ) (n : ℕ) → take (length bytes - n) (drop n bytes) ≡ drop n bytes
take_rest bytes n = let long = length-drop n bytes in take_all (length bytes - n) (drop n bytes) (omega (arith, long))

-- what can be lent by itself
pub record CanLend (list : List ℕ) (first last count : ℕ) (packed : List ℕ) : Type 0 where
  pub is : kept count first packed ≡ list
  pub parts : IsKeptTo last count first packed []

pub can_lend : (list : List ℕ) (first last count : ℕ) (packed : List ℕ) → ArePostings list → length list ≤ 64 → count ≡ length list → first ≡ get_or list 0 0 → last ≡ last_of list → packed ≡ packed_of list → CanLend list first last count packed
can_lend list first last count packed rising few counted first_is last_is packed_is =
    let both = short_of list first last count packed rising few counted first_is last_is packed_is in
    record { is = both.0; parts = both.1 }

-- the last of what is left starting at a member
last_of-drop : (n : ℕ) (xs : List ℕ) → n < length xs → last_of (drop n xs) ≡ last_of xs
last_of-drop n xs lt =
    let long = length-drop n xs in
    sym (ap last_of (sym (take-append-drop n xs)) ∙ last_of-append (take n xs) (drop n xs) (omega (arith, long, lt)))

-- the members starting at one, which are few
pub lend_rest : (list packed : List ℕ) (place last count : ℕ) (head : Head) → ArePostings list → StandsAt list packed place head → last ≡ last_of list → count ≡ length list - place → count ≤ 64 →
    CanLend (drop place list) head.first last count (drop head.at packed)
lend_rest list packed place last count head rising stands last_is counted few =
    let long = length-drop place list in
    let some = ap length stands.is in
    can_lend (drop place list) head.first last count (drop head.at packed) (rise_drop 0 (2 ^ 56) list place rising) (omega (arith, long, counted, few)) (omega (arith, long, counted))
    (sym (ap (λ l. get_or l 0 0) stands.is)) (last_is ∙ sym (last_of-drop place list (omega (arith, long, some)))) (stands.can.spelled ∙ ap packed_of (sym stands.is))

-- the members from one to another, which are few
pub lend_stretch : (list packed : List ℕ) (place steps count : ℕ) (from to : Head) → ArePostings list → StandsAt list packed place from → StandsAt (from.first ∷ members_behind packed from.first from.at) packed steps to →
    count ≡ suc steps → count ≤ 64 → CanLend (take count (drop place list)) from.first to.first count (take (to.at - from.at) (drop from.at packed))
lend_stretch list packed place steps count from to rising stands end counted few =
    let s = stretch packed steps from to stands.can stands.within end in
    let ms = members_behind packed from.first from.at in
    let mine : take count (drop place list) ≡ from.first ∷ take steps ms = ap (λ n. take n (drop place list)) counted ∙ ap (take (suc steps)) stands.is in
    let long = ap length end.is in
    let left = length-drop steps (from.first ∷ ms) in
    let size = ap length mine in
    let taken = length-take steps ms in
    let counted_is : count ≡ length (take count (drop place list)) = omega (arith, long, left, size, taken, counted) in
    can_lend (take count (drop place list)) from.first to.first count (take (to.at - from.at) (drop from.at packed)) (take_rises 0 (2 ^ 56) (drop place list) count (rise_drop 0 (2 ^ 56) list place rising))
    (omega (arith, counted_is, few)) counted_is (sym (ap (λ l. get_or l 0 0) mine)) (sym s.last ∙ ap last_of (sym mine)) (s.bytes ∙ ap packed_of (sym mine))

-- the first member is at the front of the bytes
pub first_stands : (list : List ℕ) (count first : ℕ) (packed : List ℕ) (heads : List Head) → kept count first packed ≡ list → IsKept count first packed heads → 0 < length list → StandsAt list packed 0 record { first = first; at = 0 }
first_stands list count first packed heads is k some = block_stands_at list count first packed packed heads heads 0 record { first = first; at = 0 } is k (omega (arith, some)) refl refl refl

-- the members up to a cut
pub lend_front : (list : List ℕ) (last count first : ℕ) (packed : List ℕ) (heads : List Head) (cut : Cut) → kept count first packed ≡ list → IsKeptTo last count first packed heads → length list ≤ 64 → IsCut list (packed_of list) cut →
    (cut.steps + 1 < length list) × CanLend (take (cut.steps + 1) list) first cut.before.first (cut.steps + 1) (take cut.before.at packed)
lend_front list last count first packed heads cut is k few at =
    let same : packed_of list ≡ packed = sym (k.parts.differences ∙ ap packed_of is) in
    let at = subst (λ bs. IsCut list bs cut) same at in
    let long = ap length at.behind.is in
    let left = length-drop (cut.steps + 1) list in
    let first_at = first_stands list count first packed heads is k.parts (omega (arith, long, left)) in
    let end = subst (λ l. StandsAt l packed cut.steps cut.before) first_at.is at.before in
    let all : cut.before.at - 0 ≡ cut.before.at = omega arith in
    let rising = subst ArePostings is k.parts.rising in (
      omega (arith, long, left),
      subst (λ n. CanLend (take (cut.steps + 1) list) first cut.before.first (cut.steps + 1) (take n packed)) all
          (lend_stretch list packed 0 cut.steps (cut.steps + 1) record { first = first; at = 0 } cut.before rising first_at end (omega arith) (omega (arith, long, left, few))),
    )

-- what a walk from the first member found is a cut of the list
pub cut_of : (list : List ℕ) (last count first : ℕ) (packed : List ℕ) (heads : List Head) (cut : Cut) → kept count first packed ≡ list → IsKeptTo last count first packed heads → (count ≡ 0 → ⊥) → IsCut (first ∷ members_behind packed first 0) packed cut →
    IsCut list (packed_of list) cut
cut_of list last count first packed heads cut is k some at =
    let counted = k.parts.counted ∙ ap length is in
    let first_at = first_stands list count first packed heads is k.parts (omega (arith, counted, some)) in
    subst (λ bs. IsCut list bs cut) (k.parts.differences ∙ ap packed_of is) (subst (λ l. IsCut l packed cut) (sym first_at.is) at)

-- the members up to a cut are below what its last one is below
pub front_below : (k : ℕ) (list : List ℕ) (last count first : ℕ) (packed : List ℕ) (heads : List Head) (cut : Cut) → kept count first packed ≡ list → IsKeptTo last count first packed heads → length list ≤ 64 → IsCut list (packed_of list) cut →
    cut.before.first < k → RiseWithin 0 k (take (cut.steps + 1) list)
front_below k list last count first packed heads cut is k' few at below =
    let lent = (lend_front list last count first packed heads cut is k' few at).1 in
    let end : cut.before.first ≡ last_of (take (cut.steps + 1) list) = lent.parts.end ∙ ap last_of lent.is in
    all_below k (take (cut.steps + 1) list) (take_rises 0 (2 ^ 56) list (cut.steps + 1) (subst ArePostings is k'.parts.rising)) (omega (arith, end, below))

-- the members after a cut
pub lend_back : (list : List ℕ) (last count first : ℕ) (packed : List ℕ) (heads : List Head) (cut : Cut) → kept count first packed ≡ list → IsKeptTo last count first packed heads → length list ≤ 64 → IsCut list (packed_of list) cut →
    CanLend (drop (cut.steps + 1) list) cut.behind.first last (count - (cut.steps + 1)) (take (length packed - cut.behind.at) (drop cut.behind.at packed))
lend_back list last count first packed heads cut is k few at =
    let same : packed_of list ≡ packed = sym (k.parts.differences ∙ ap packed_of is) in
    let at = subst (λ bs. IsCut list bs cut) same at in
    let rising = subst ArePostings is k.parts.rising in
    let counted = k.parts.counted ∙ ap length is in
    subst (CanLend (drop (cut.steps + 1) list) cut.behind.first last (count - (cut.steps + 1))) (sym (take_rest packed cut.behind.at))
    (lend_rest list packed (cut.steps + 1) last (count - (cut.steps + 1)) cut.behind rising at.behind (k.end ∙ ap last_of is) (omega (arith, counted)) (omega (arith, counted, few)))

-- the last block of a list
pub lend_last : (list : List ℕ) (last count first : ℕ) (packed bytes : List ℕ) (heads held : List Head) (block left : ℕ) (head : Head) → kept count first packed ≡ list → IsKeptTo last count first packed heads → block < blocks_of list →
    bytes ≡ packed → held ≡ heads → head ≡ head_at first held block → left ≡ count - 64 * block → left ≤ 64 →
    (head.at ≤ length bytes) × CanLend (block_of list block) head.first last left (take (length bytes - head.at) (drop head.at bytes))
lend_last list last count first packed bytes heads held block left head is k lt bytes_is held_is head_is left_is few =
    let stands = block_stands_at list count first packed bytes heads held block head is k.parts lt bytes_is held_is head_is in
    let rising = subst ArePostings is k.parts.rising in
    let counted = k.parts.counted ∙ ap length is in
    let long = length-drop (64 * block) list in
    let whole : drop (64 * block) list ≡ block_of list block = sym (take_all 64 (drop (64 * block) list) (omega (arith, long, counted, left_is, few))) in (
      stands.within,
      subst (CanLend (block_of list block) head.first last left) (sym (take_rest bytes head.at))
          (subst (λ l. CanLend l head.first last left (drop head.at bytes)) whole
          (lend_rest list bytes (64 * block) last left head rising stands (k.end ∙ ap last_of is) (omega (arith, counted, left_is)) few)),
    )

-- the members after the head of a block that is not the last
pub record HasWhole (packed : List ℕ) (head : Head) : Type 0 where
  pub can : CanUnpack packed head.first head.at
  pub within : head.at ≤ length packed
  pub enough : 63 ≤ length (members_behind packed head.first head.at)

pub has_whole : (list : List ℕ) (last count first : ℕ) (packed bytes : List ℕ) (heads held : List Head) (block : ℕ) (head : Head) → kept count first packed ≡ list → IsKeptTo last count first packed heads → block < blocks_of list →
    bytes ≡ packed → held ≡ heads → head ≡ head_at first held block → 64 < count - 64 * block → HasWhole bytes head
has_whole list last count first packed bytes heads held block head is k lt bytes_is held_is head_is many =
    let stands = block_stands_at list count first packed bytes heads held block head is k.parts lt bytes_is held_is head_is in
    let counted = k.parts.counted ∙ ap length is in
    let long = length-drop (64 * block) list in
    let parts = ap length stands.is in
    record { can = stands.can; within = stands.within; enough = omega (arith, long, parts, counted, many) }

-- the head of the block after such a one
pub next_stands : (list : List ℕ) (last count first : ℕ) (packed bytes : List ℕ) (heads held : List Head) (block : ℕ) (head next : Head) → kept count first packed ≡ list → IsKeptTo last count first packed heads → block < blocks_of list →
    bytes ≡ packed → held ≡ heads → head ≡ head_at first held block → next ≡ head_at first held (block + 1) → 64 < count - 64 * block → StandsAt (head.first ∷ members_behind bytes head.first head.at) bytes (63 + 1) next
next_stands list last count first packed bytes heads held block head next is k lt bytes_is held_is head_is next_is many =
    let counted = k.parts.counted ∙ ap length is in
    let here = block_stands_at list count first packed bytes heads held block head is k.parts lt bytes_is held_is head_is in
    let there = block_stands_at list count first packed bytes heads held (block + 1) next is k.parts (omega (arith, counted, many)) bytes_is held_is next_is in
    let place : 64 * block + 64 ≡ 64 * (block + 1) = omega arith in
    record {
      can = there.can;
      within = there.within;
      is = ap (drop 64) (sym here.is) ∙ drop-drop 64 (64 * block) list ∙ ap (λ n. drop n list) place ∙ there.is;
    }

-- a block that is not the last
pub lend_block : (list : List ℕ) (last count first : ℕ) (packed bytes : List ℕ) (heads held : List Head) (block : ℕ) (head end : Head) → kept count first packed ≡ list → IsKeptTo last count first packed heads → block < blocks_of list →
    bytes ≡ packed → held ≡ heads → head ≡ head_at first held block → drop 63 (head.first ∷ members_behind bytes head.first head.at) ≡ end.first ∷ members_behind bytes end.first end.at → CanUnpack bytes end.first end.at →
    end.at ≤ length bytes → (head.at ≤ end.at) × CanLend (block_of list block) head.first end.first 64 (take (end.at - head.at) (drop head.at bytes))
lend_block list last count first packed bytes heads held block head end is k lt bytes_is held_is head_is rest can within =
    let stands = block_stands_at list count first packed bytes heads held block head is k.parts lt bytes_is held_is head_is in
    let rising = subst ArePostings is k.parts.rising in
    let to : StandsAt (head.first ∷ members_behind bytes head.first head.at) bytes 63 end = record { can = can; within = within; is = rest } in (
      (stretch bytes 63 head end stands.can stands.within to).rises,
      lend_stretch list bytes (64 * block) 63 64 head end rising stands to (omega arith) (omega arith),
    )

-- all members of a list of one block
pub lend_whole : (list : List ℕ) (last count first : ℕ) (packed : List ℕ) (heads : List Head) → kept count first packed ≡ list → IsKeptTo last count first packed heads → length list ≤ 64 → CanLend list first last count packed
lend_whole list last count first packed heads is k few =
    let counted = k.parts.counted in
    let long = ap length is in
    let parts = k.parts in
    record {
      is = is;
      parts = record {
        parts = record { rising = parts.rising; counted = counted; differences = parts.differences; marked = omega (arith, counted, long, few); blocks = λ b d lt. absurd (omega (arith, lt)) };
        end = k.end;
      };
    }

-- starting at a first member that is no less than a number, all are
pub from_first : (k : ℕ) (list : List ℕ) (count first : ℕ) (packed : List ℕ) (heads : List Head) → kept count first packed ≡ list → IsKept count first packed heads → k ≤ first → RiseWithin k (2 ^ 56) list
from_first k list zero first packed heads is parts le = subst (RiseWithin k (2 ^ 56)) is tt
from_first k list (suc n) first packed heads is parts le = subst (RiseWithin k (2 ^ 56)) is (le, parts.rising.1, parts.rising.2)

pub from_none : (k : ℕ) (list : List ℕ) (count first : ℕ) (packed : List ℕ) → kept count first packed ≡ list → count ≡ 0 → RiseWithin k (2 ^ 56) list
from_none k list count first packed is none = subst (RiseWithin k (2 ^ 56)) (ap (λ n. kept n first packed) (sym none) ∙ is) tt

-- what a walk over all members behind the first needs
pub walk_on : (list : List ℕ) (count first : ℕ) (packed : List ℕ) (heads : List Head) → kept count first packed ≡ list → IsKept count first packed heads → (count ≡ 0 → ⊥) →
    CanUnpack packed first 0 × (count - 1 ≤ length (members_behind packed first 0))
walk_on list count first packed heads is parts some =
    let counted = parts.counted ∙ ap length is in
    let at = first_stands list count first packed heads is parts (omega (arith, counted, some)) in
    let long = ap length at.is in
    (at.can, omega (arith, counted, long))

-- if the last of all members is below a number, all are
pub walked_below : (k : ℕ) (list : List ℕ) (count first : ℕ) (packed : List ℕ) (heads : List Head) → kept count first packed ≡ list → IsKept count first packed heads → (count ≡ 0 → ⊥) →
    last_of (first ∷ take (count - 1) (members_behind packed first 0)) < k → RiseWithin 0 k list
walked_below k list count first packed heads is parts some below =
    let counted = parts.counted ∙ ap length is in
    let at = first_stands list count first packed heads is parts (omega (arith, counted, some)) in
    let long = ap length at.is in
    let ms = members_behind packed first 0 in
    let all : take (count - 1) ms ≡ ms = take_all (count - 1) ms (omega (arith, counted, long)) in
    let end = ap last_of at.is in
    let same = ap (λ xs. last_of (first ∷ xs)) all in
    all_below k list (subst ArePostings is parts.rising) (omega (arith, below, end, same))

-- the members after a cut are no less than their first one
pub behind_from : (k : ℕ) (list packed : List ℕ) (cut : Cut) → ArePostings list → IsCut list packed cut → k ≤ cut.behind.first → RiseWithin k (2 ^ 56) (drop (cut.steps + 1) list)
behind_from k list packed cut rising at le =
    let rest = subst ArePostings at.behind.is (rise_drop 0 (2 ^ 56) list (cut.steps + 1) rising) in
    subst (RiseWithin k (2 ^ 56)) (sym at.behind.is) (le, rest.1, rest.2)
