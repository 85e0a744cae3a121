-- The members about a number, in one walk.
use Rattle.std.proofs.Common.{◌≡◌, ℕ, zero, suc, ◌+◌, ◌-◌, ◌*◌, ◌^◌, ◌<◌, ◌≤◌, min, true, false, cond, leb, ltb, List, [], ◌∷◌, ◌++◌, length, length-drop, length-take, take, drop, drop-cons, get_or, reverse, find, Option, Some, None, refl, sym, ap, ◌∙◌, subst, arith}
use Rattle.std.specs.Option.{option_or}
use Rattle.std.proofs.lemmas.Bool.{lt-ltb, le-ltb, lt-leb, le-leb}
use Rattle.std.proofs.lemmas.List.{reverse-append, take_min, take-append-le, take_all}
use Rattle.std.proofs.lemmas.List.Folds.{find-append}
use Rattle.std.proofs.Math.Seq.{take-add}
use Rattle.posting_code.specs.declared.head.Head.{Head}
use Rattle.posting_code.specs.Postings.{RiseWithin, ArePostings, blocks_of, block_of}
use Rattle.posting_code.specs.Packed.{members_behind, kept, CanUnpack, IsHead, IsKept, head_at}
use Rattle.posting_code.proofs.Packed.{can_unpack}
use Rattle.posting_code.proofs.Rising.{rise_drop}

abbrev below_in : ℕ → List ℕ → Option ℕ
below_in k xs = find (λ p. ltb p k) (reverse xs)

abbrev from_in : ℕ → List ℕ → Option ℕ
from_in k xs = find (λ p. leb k p) xs

option_or-assoc : (a b c : Option ℕ) → option_or (option_or a b) c ≡ option_or a (option_or b c)
option_or-assoc None b c = refl
option_or-assoc (Some x) b c = refl

below_in-cons : (k x : ℕ) (xs : List ℕ) → below_in k (x ∷ xs) ≡ option_or (below_in k xs) (cond (ltb x k) (Some x) None)
below_in-cons k x xs = ap (find (λ p. ltb p k)) (reverse-append (x ∷ []) xs) ∙ find-append (λ p. ltb p k) (reverse xs) (x ∷ [])

-- nothing that rises starting at k is below it
none_below : (k low end : ℕ) (xs : List ℕ) → RiseWithin low end xs → k ≤ low → below_in k xs ≡ None
none_below k low end [] r le = refl
none_below k low end (x ∷ xs) r le =
    let a = r.0 in
    let e : ltb x k ≡ false = le-ltb x k (omega (arith, a)) in
    below_in-cons k x xs ∙ ap (λ o. option_or o (cond (ltb x k) (Some x) None)) (none_below k (x + 1) end xs r.2 (omega (arith, a))) ∙ rw e refl

-- a walk that is at a member, with some after it
pub record IsAround (packed : List ℕ) (first at behind k value after left : ℕ) (below : Option ℕ) : Type 0 where
  pub can : CanUnpack packed value after
  pub enough : left ≤ length (members_behind packed value after)
  pub under : below_in k (first ∷ take behind (members_behind packed first at)) ≡ option_or (below_in k (value ∷ take left (members_behind packed value after))) below
  pub from : from_in k (first ∷ take behind (members_behind packed first at)) ≡ from_in k (value ∷ take left (members_behind packed value after))

option_or-none : (o : Option ℕ) → o ≡ option_or o None
option_or-none None = refl
option_or-none (Some x) = refl

pub take_rises : (low end : ℕ) (xs : List ℕ) (n : ℕ) → RiseWithin low end xs → RiseWithin low end (take n xs)
take_rises low end [] zero r = tt
take_rises low end [] (suc n) r = tt
take_rises low end (x ∷ xs) zero r = tt
take_rises low end (x ∷ xs) (suc n) r = (r.0, r.1, take_rises (x + 1) end xs n r.2)

-- the members of a block rise
pub block_rises : (xs : List ℕ) (b : ℕ) → ArePostings xs → ArePostings (block_of xs b)
block_rises xs b r = take_rises 0 (2 ^ 56) (drop (64 * b) xs) 64 (rise_drop 0 (2 ^ 56) xs (64 * b) r)

rise_ahead : (low end : ℕ) (zs : List ℕ) (y : ℕ) (ys : List ℕ) → RiseWithin low end (zs ++ y ∷ ys) → low ≤ y
rise_ahead low end [] y ys r = r.0
rise_ahead low end (z ∷ zs) y ys r =
    let here = r.0 in
    let ahead = rise_ahead (z + 1) end zs y ys r.2 in
    omega (arith, here, ahead)

-- what is in front of a member below k is below it too
none_in_front : (k low end : ℕ) (zs : List ℕ) (y : ℕ) (ys : List ℕ) → RiseWithin low end (zs ++ y ∷ ys) → y < k → from_in k zs ≡ None
none_in_front k low end [] y ys r lt = refl
none_in_front k low end (z ∷ zs) y ys r lt =
    let ahead = rise_ahead (z + 1) end zs y ys r.2 in
    let other : leb k z ≡ false = lt-leb k z (omega (arith, ahead, lt)) in
    rw other (none_in_front k (z + 1) end zs y ys r.2 lt)

-- a walk may begin at a member further on, if that one is below k
pub around_leaps : (packed : List ℕ) (first at behind k steps value after : ℕ) → CanUnpack packed first at → behind ≤ length (members_behind packed first at) → steps ≤ behind →
    drop steps (first ∷ members_behind packed first at) ≡ value ∷ members_behind packed value after → CanUnpack packed value after → (0 < steps → value < k) → IsAround packed first at behind k value after (behind - steps) None
around_leaps packed first at behind k zero value after can enough few is there below =
    let none : behind - zero ≡ behind = omega arith in
    let same : first ∷ take behind (members_behind packed first at) ≡ value ∷ take (behind - zero) (members_behind packed value after) =
    ap (take (suc behind)) is ∙ ap (λ n. value ∷ take n (members_behind packed value after)) (sym none) in
    let long = ap length is in
    record { can = there; enough = omega (arith, enough, long); under = ap (below_in k) same ∙ option_or-none _; from = ap (from_in k) same }
around_leaps packed first at behind k (suc m) value after can enough few is there below =
    let ms = members_behind packed first at in
    let left = behind - suc m in
    let ys = take left (members_behind packed value after) in
    let lt = below (omega arith) in
    let size : suc m + suc left ≡ suc behind = omega (arith, few) in
    let whole : first ∷ take behind ms ≡ first ∷ (take m ms ++ value ∷ ys) =
    ap (λ n. take n (first ∷ ms)) (sym size) ∙ take-add (suc m) (suc left) (first ∷ ms) ∙ ap (λ xs. take (suc m) (first ∷ ms) ++ take (suc left) xs) is in
    let tails : take behind ms ≡ take m ms ++ value ∷ ys = ap (drop 1) whole in
    let rises = subst (RiseWithin (first + 1) (2 ^ 56)) tails (take_rises (first + 1) (2 ^ 56) ms behind can.rising) in
    let ahead = rise_ahead (first + 1) (2 ^ 56) (take m ms) value ys rises in
    let other : leb k first ≡ false = lt-leb k first (omega (arith, ahead, lt)) in
    let none : from_in k (first ∷ take m ms) ≡ None = rw other (none_in_front k (first + 1) (2 ^ 56) (take m ms) value ys rises lt) in
    let some : below_in k (value ∷ ys) ≡ option_or (below_in k ys) (Some value) = below_in-cons k value ys ∙ ap (λ b. option_or (below_in k ys) (cond b (Some value) None)) (lt-ltb value k lt) in
    let front = below_in k (first ∷ take m ms) in
    let long = length-drop (suc m) (first ∷ ms) in
    let parts = ap length is in
    record {
      can = there;
      enough = omega (arith, enough, few, long, parts);
      under = ap (below_in k) whole ∙ ap (find (λ p. ltb p k)) (reverse-append (first ∷ take m ms) (value ∷ ys)) ∙ find-append (λ p. ltb p k) (reverse (value ∷ ys)) (reverse (first ∷ take m ms))
          ∙ ap (λ o. option_or o front) some ∙ option_or-assoc (below_in k ys) (Some value) front ∙ sym (option_or-assoc (below_in k ys) (Some value) None) ∙ ap (λ o. option_or o None) (sym some);
      from = ap (from_in k) whole ∙ find-append (λ p. leb k p) (first ∷ take m ms) (value ∷ ys) ∙ ap (λ o. option_or o (from_in k (value ∷ ys))) none;
    }

pub around_goes : (packed : List ℕ) (first at behind k value after left next next_after : ℕ) (below : Option ℕ) → IsAround packed first at behind k value after left below → value < k → 0 < left →
    members_behind packed value after ≡ next ∷ members_behind packed next next_after → CanUnpack packed next next_after →
    IsAround packed first at behind k next next_after (left - 1) (Some value)
around_goes packed first at behind k value after zero next next_after below a lt some is can = absurd (omega (arith, some))
around_goes packed first at behind k value after (suc left) next next_after below a lt some is can =
    let rest = members_behind packed next next_after in
    let enough = a.enough in
    let long = ap length is in
    let one : suc left - 1 ≡ left = omega arith in
    let taken : take (suc left) (members_behind packed value after) ≡ next ∷ take left rest = ap (take (suc left)) is in
    let yes : ltb value k ≡ true = lt-ltb value k lt in
    let other : leb k value ≡ false = lt-leb k value lt in
    record {
      can = can;
      enough = omega (arith, enough, long);
      under = a.under
          ∙ ap (λ t. option_or (below_in k (value ∷ t)) below) taken
          ∙ ap (λ o. option_or o below) (below_in-cons k value (next ∷ take left rest) ∙ ap (λ b. option_or (below_in k (next ∷ take left rest)) (cond b (Some value) None)) yes)
          ∙ option_or-assoc (below_in k (next ∷ take left rest)) (Some value) below
          ∙ ap (λ n. option_or (below_in k (next ∷ take n rest)) (Some value)) (sym one);
      from = a.from ∙ ap (λ t. from_in k (value ∷ t)) taken ∙ rw other (ap (λ n. from_in k (next ∷ take n rest)) (sym one));
    }

pub around_met : (packed : List ℕ) (first at behind k value after left : ℕ) (below : Option ℕ) → IsAround packed first at behind k value after left below → k ≤ value →
    (below ≡ below_in k (first ∷ take behind (members_behind packed first at))) × (Some value ≡ from_in k (first ∷ take behind (members_behind packed first at)))
around_met packed first at behind k value after left below a le =
    let yes : leb k value ≡ true = le-leb k value le in
    let none : below_in k (value ∷ take left (members_behind packed value after)) ≡ None =
    below_in-cons k value (take left (members_behind packed value after))
    ∙ ap (λ o. option_or o (cond (ltb value k) (Some value) None)) (none_below k (value + 1) (2 ^ 56) (take left (members_behind packed value after)) (take_rises (value + 1) (2 ^ 56) _ left a.can.rising) (omega (arith, le)))
    ∙ rw (le-ltb value k le) refl in
    (sym (a.under ∙ ap (λ o. option_or o below) none), sym (a.from ∙ rw yes refl))

-- a block of a list, by its head
pub record IsBlock (count first : ℕ) (packed : List ℕ) (block : ℕ) (before at : ℕ) : Type 0 where
  pub can : CanUnpack packed before at
  pub is : drop (64 * block) (kept count first packed) ≡ before ∷ members_behind packed before at

first_block : (count first : ℕ) (packed : List ℕ) (heads : List Head) → IsKept count first packed heads → 0 < count → IsBlock count first packed 0 first 0
first_block zero first packed heads k some = absurd (omega (arith, some))
first_block (suc n) first packed heads k some =
    let ready = can_unpack packed (members_behind packed first 0) first 0 k.rising.2 k.differences in
    record { can = ready.1; is = refl }

pub head_of_first : (count first : ℕ) (packed : List ℕ) (heads : List Head) (block : ℕ) → IsKept count first packed heads → block < blocks_of (kept count first packed) → block ≡ 0 → IsBlock count first packed block first 0
head_of_first count first packed heads block k lt none =
    let counted = k.counted in
    subst (λ b. IsBlock count first packed b first 0) (sym none) (first_block count first packed heads k (omega (arith, lt, counted)))

pub head_of_later : (count first : ℕ) (packed : List ℕ) (heads : List Head) (block index : ℕ) (d : Head) → IsKept count first packed heads → block < blocks_of (kept count first packed) → block ≡ index + 1 →
    (index < length heads) × IsBlock count first packed block (get_or heads index d).first (get_or heads index d).at
head_of_later count first packed heads block index d k lt is =
    let counted = k.counted in
    let marked = k.marked in
    let xs = kept count first packed in
    let held : index < length heads = omega (arith, lt, counted, marked, is) in
    let place : 64 * (index + 1) ≡ 64 * block = omega (arith, is) in
    let inside : 64 * block < length xs = omega (arith, lt) in
    let head = get_or heads index d in
    let h = subst (λ n. IsHead xs packed n head) place (k.blocks index d held) in
    let next : suc (64 * block) ≡ 64 * block + 1 = omega arith in
    let split : drop (64 * block) xs ≡ head.first ∷ drop (64 * block + 1) xs =
    drop-cons xs (64 * block) 0 inside ∙ ap (λ f. f ∷ drop (suc (64 * block)) xs) (sym h.first) ∙ ap (λ n. head.first ∷ drop n xs) next in
    let whole : RiseWithin 0 (2 ^ 56) (head.first ∷ drop (64 * block + 1) xs) = subst (RiseWithin 0 (2 ^ 56)) split (rise_drop 0 (2 ^ 56) xs (64 * block) k.rising) in
    let ready = can_unpack packed (drop (64 * block + 1) xs) head.first head.at whole.2 h.rest in
    (held, record { can = ready.1; is = split ∙ ap (λ t. head.first ∷ t) (sym ready.0) })

pub head_block : (count first : ℕ) (packed : List ℕ) (heads : List Head) (block : ℕ) → IsKept count first packed heads → block < blocks_of (kept count first packed) →
    (block ≤ length heads) × IsBlock count first packed block (head_at first heads block).first (head_at first heads block).at
head_block count first packed heads zero k lt = (omega arith, head_of_first count first packed heads zero k lt refl)
head_block count first packed heads (suc b) k lt =
    let h = head_of_later count first packed heads (suc b) b (record { first = first; at = 0 }) k lt (omega arith) in
    let held = h.0 in
    (omega (arith, held), h.1)

-- its members, by their number
pub block_members : (count first : ℕ) (packed : List ℕ) (heads : List Head) (block before at n behind : ℕ) → IsKept count first packed heads → block < blocks_of (kept count first packed) → IsBlock count first packed block before at →
    n ≡ min 64 (count - 64 * block) → n ≡ behind + 1 →
    (block_of (kept count first packed) block ≡ before ∷ take behind (members_behind packed before at)) × (behind ≤ length (members_behind packed before at)) × (n ≡ length (block_of (kept count first packed) block))
block_members count first packed heads block before at n behind k lt b few is =
    let xs = kept count first packed in
    let counted = k.counted in
    let long : length (drop (64 * block) xs) ≡ length xs - 64 * block = length-drop (64 * block) xs in
    let parts : length (drop (64 * block) xs) ≡ suc (length (members_behind packed before at)) = ap length b.is in
    let n_is : min 64 (length (drop (64 * block) xs)) ≡ suc behind = omega (arith, few, is, long, counted) in
    let taken : block_of xs block ≡ before ∷ take behind (members_behind packed before at) = sym (take_min 64 (drop (64 * block) xs)) ∙ ap (λ m. take m (drop (64 * block) xs)) n_is ∙ ap (take (suc behind)) b.is in
    let enough : behind ≤ length (members_behind packed before at) = omega (arith, parts, n_is) in
    let size = length-take behind (members_behind packed before at) in
    (taken, enough, let e = ap length taken in omega (arith, e, size, is, enough))

-- a block that can be read, and its members
pub record IsReady (list packed : List ℕ) (block n : ℕ) (head : Head) : Type 0 where
  pub can : CanUnpack packed head.first head.at
  pub is : block_of list block ≡ head.first ∷ take (n - 1) (members_behind packed head.first head.at)
  pub enough : n - 1 ≤ length (members_behind packed head.first head.at)
  pub some : 0 < n
  pub size : n ≡ length (block_of list block)

pub ready_block : (list : List ℕ) (count first : ℕ) (packed bytes : List ℕ) (heads held : List Head) (block n : ℕ) (head : Head) → kept count first packed ≡ list → IsKept count first packed heads → block < blocks_of list →
    bytes ≡ packed → held ≡ heads → head ≡ head_at first held block → n ≡ min 64 (count - 64 * block) → IsReady list bytes block n head
ready_block list count first packed bytes heads held block n head is k lt same held_is head_is few =
    let inside : block < blocks_of (kept count first packed) = subst (λ l. block < blocks_of l) (sym is) lt in
    let counted = k.counted in
    let b = (head_block count first packed heads block k inside).1 in
    let at_is : head ≡ head_at first heads block = head_is ∙ ap (λ hs. head_at first hs block) held_is in
    let b = subst (λ h. IsBlock count first packed block h.first h.at) (sym at_is) b in
    let some : 0 < n = omega (arith, few, inside, counted) in
    let members = block_members count first packed heads block head.first head.at n (n - 1) k inside b few (omega (arith, some)) in
    subst (λ l. IsReady l bytes block n head) is
    (subst (λ bs. IsReady (kept count first packed) bs block n head) (sym same)
    record { can = b.can; is = members.0; enough = members.1; some = some; size = members.2 })

pub read_members : (list packed into new post : List ℕ) (block n : ℕ) (head : Head) → IsReady list packed block n head → length (take n into) ≡ n →
    new ≡ take (length (take n into)) (head.first ∷ members_behind packed head.first head.at) → take n (new ++ post) ≡ block_of list block
read_members list packed into new post block n head ready long is =
    let some = ready.some in
    let split : n ≡ suc (n - 1) = omega (arith, some) in
    let whole : new ≡ block_of list block = is ∙ ap (λ m. take m (head.first ∷ members_behind packed head.first head.at)) (long ∙ split) ∙ sym ready.is in
    let size : length new ≡ n = ap length whole ∙ sym ready.size in
    take-append-le n new post (omega (arith, size)) ∙ take_all n new (omega (arith, size)) ∙ whole
