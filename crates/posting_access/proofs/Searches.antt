-- A look-up in a rising list, by the block that decides.
use Rattle.std.proofs.Common.{◌≡◌, ℕ, zero, suc, ◌+◌, ◌-◌, ◌*◌, ◌^◌, ◌<◌, ◌≤◌, min, true, false, cond, leb, ltb, List, [], ◌∷◌, ◌++◌, length, take, drop, get_or, reverse, find, nat_le, Option, Some, None, inl, inr, refl, subst, sym, ap, ◌∙◌, arith}
use Rattle.std.specs.List.{slice_get}
use Rattle.std.specs.Option.{option_or, option_to_list}
use Rattle.std.proofs.lemmas.Option.{none-some, slice_get_past}
use Rattle.std.proofs.lemmas.Bool.{le-leb, lt-leb, lt-ltb, le-ltb, cases_lt}
use Rattle.std.proofs.lemmas.List.{take-append-drop, drop-drop, length-drop, length-take, get_or-take, get_or-drop}
use Rattle.std.proofs.lemmas.List.Folds.{find-append}
use Rattle.gcl_model.specs.Access.{later_or, find_last}
use Rattle.gcl_model.proofs.Lists.{find_last-append, find-reverse}
use Rattle.posting_code.specs.Postings.{RiseWithin, ArePostings, blocks_of, block_of}
use Rattle.posting_code.proofs.Rising.{rise_index}
use Rattle.posting_code.proofs.Around.{block_rises}
use Rattle.posting_access.specs.Search.{least_from, greatest_to, RisesByDigits}
use Rattle.posting_access.proofs.Digits.{digits_of_blocks, digits_of_one_more}

-- members before one that is at most k can be left out
least_skips : (low end : ℕ) (xs : List ℕ) (n k : ℕ) → RiseWithin low end xs → n < length xs → get_or xs n 0 ≤ k → least_from xs k ≡ least_from (drop n xs) k
least_skips low end [] n k r lt le = absurd (omega arith)
least_skips low end (x ∷ xs) zero k r lt le = refl
least_skips low end (x ∷ xs) (suc n) k r lt le =
    let h = rise_index (x + 1) end xs n r.2 (omega arith) in
    let a = h.0 in
    let e : leb k x ≡ false = lt-leb k x (omega arith) in
    rw e (least_skips (x + 1) end xs n k r.2 (omega arith) le)

-- if a member past k comes first, it is the answer
least_beyond : (xs : List ℕ) (n k : ℕ) → (n < length xs → k < get_or xs n 0) → least_from (drop n xs) k ≡ slice_get xs n
least_beyond [] zero k after = refl
least_beyond [] (suc n) k after = refl
least_beyond (x ∷ xs) zero k after = let lt = after (omega arith) in let e : leb k x ≡ true = le-leb k x (omega arith) in rw e refl
least_beyond (x ∷ xs) (suc n) k after = least_beyond xs n k (λ lt. after (omega arith))

-- if every member is greater than k, there is none up to k
pub greatest_none : (low end : ℕ) (xs : List ℕ) (k : ℕ) → RiseWithin low end xs → k < low → greatest_to xs k ≡ None
greatest_none low end [] k r lt = refl
greatest_none low end (x ∷ xs) k r lt =
    let a = r.0 in
    let e : leb x k ≡ false = lt-leb x k (omega arith) in
    rw (greatest_none (x + 1) end xs k r.2 (omega arith), e) refl

greatest_beyond : (low end : ℕ) (xs : List ℕ) (n k : ℕ) → RiseWithin low end xs → (n < length xs → k < get_or xs n 0) → greatest_to (drop n xs) k ≡ None
greatest_beyond low end [] zero k r after = refl
greatest_beyond low end [] (suc n) k r after = refl
greatest_beyond low end (x ∷ xs) zero k r after = let lt = after (omega arith) in greatest_none x end (x ∷ xs) k (omega arith, r.1, r.2) lt
greatest_beyond low end (x ∷ xs) (suc n) k r after = greatest_beyond (x + 1) end xs n k r.2 (λ lt. after (omega arith))

-- a list whose first member passes has a last one that does
later_or-some : (a : Option ℕ) (x : ℕ) (o : Option ℕ) → later_or (later_or a (Some x)) o ≡ later_or a (Some x)
later_or-some None x o = refl
later_or-some (Some y) x o = refl

greatest_met : (xs : List ℕ) (k : ℕ) (o : Option ℕ) → 0 < length xs → get_or xs 0 0 ≤ k → later_or (greatest_to xs k) o ≡ greatest_to xs k
greatest_met [] k o lt le = absurd (omega arith)
greatest_met (x ∷ xs) k o lt le = let e : leb x k ≡ true = le-leb x k le in rw e (later_or-some (greatest_to xs k) x o)

-- how many blocks begin at or before k
pub record IsNear (xs : List ℕ) (k near : ℕ) : Type 0 where
  pub rising : ArePostings xs
  pub within : near ≤ blocks_of xs
  pub before : 0 < near → get_or xs (64 * (near - 1)) 0 ≤ k
  pub after : near < blocks_of xs → k < get_or xs (64 * near) 0

block_exists : (xs : List ℕ) (n : ℕ) → 64 * n < length xs → n < blocks_of xs
block_exists xs n lt = omega arith

block_begins : (xs : List ℕ) (n : ℕ) → n < blocks_of xs → 64 * n < length xs
block_begins xs n lt = omega arith

least_at_near : (xs : List ℕ) (k near : ℕ) → IsNear xs k near → least_from (drop (64 * near) xs) k ≡ slice_get xs (64 * near)
least_at_near xs k near i = least_beyond xs (64 * near) k (λ lt. i.after (block_exists xs near lt))

-- the least is in the last block that begins at or before k, or else begins the next one
least_behind : (xs : List ℕ) (k last near : ℕ) → IsNear xs k near → near ≡ last + 1 →
    least_from xs k ≡ option_or (least_from (block_of xs last) k) (slice_get xs (64 * near))
least_behind xs k last near i is =
    let exists : last < blocks_of xs = let w = i.within in omega arith in
    let back : near - 1 ≡ last = omega arith in
    let before : get_or xs (64 * last) 0 ≤ k = let b = i.before (omega arith) in let b = rw back at b in b in
    let next : 64 * last + 64 ≡ 64 * near = omega arith in
    let behind = drop (64 * last) xs in
    let parts : take 64 behind ++ drop 64 behind ≡ behind = take-append-drop 64 behind in
    let rest : drop 64 behind ≡ drop (64 * near) xs = drop-drop 64 (64 * last) xs ∙ ap (λ n. drop n xs) next in
    least_skips 0 (2 ^ 56) xs (64 * last) k i.rising (block_begins xs last exists) before
    ∙ ap (λ ys. least_from ys k) (sym parts)
    ∙ find-append (λ p. nat_le k p) (take 64 behind) (drop 64 behind)
    ∙ ap (λ ys. option_or (least_from (block_of xs last) k) (least_from ys k)) rest
    ∙ ap (λ o. option_or (least_from (block_of xs last) k) o) (least_at_near xs k near i)

-- the first member begins the first block
least_before : (xs : List ℕ) (k : ℕ) → IsNear xs k 0 → 0 < length xs → least_from xs k ≡ option_or (least_from (block_of xs 0) k) (slice_get xs 0)
least_before [] k i some = absurd (omega (arith, some))
least_before (x ∷ xs) k i some =
    let below : k < x = i.after (block_exists (x ∷ xs) 0 (omega arith)) in
    let e : leb k x ≡ true = le-leb k x (omega (arith, below)) in
    rw e refl

-- the least is in the last block that begins at or before k, or in the first, or else begins the next one
pub least_near : (xs : List ℕ) (k last near : ℕ) → IsNear xs k near → last ≡ near - 1 → 0 < length xs → least_from xs k ≡ option_or (least_from (block_of xs last) k) (slice_get xs (64 * near))
least_near xs k last zero i is some = let first : last ≡ 0 = omega (arith, is) in subst (λ b. least_from xs k ≡ option_or (least_from (block_of xs b) k) (slice_get xs 0)) (sym first) (least_before xs k i some)
least_near xs k last (suc near) i is some = least_behind xs k last (suc near) i (omega (arith, is))

pub least_found : (xs : List ℕ) (k last near x : ℕ) → IsNear xs k near → last ≡ near - 1 → 0 < length xs → Some x ≡ least_from (block_of xs last) k → Some x ≡ least_from xs k
least_found xs k last near x i is some e = sym (least_near xs k last near i is some ∙ ap (λ o. option_or o (slice_get xs (64 * near))) (sym e))

pub least_not_found : (xs : List ℕ) (k last near : ℕ) → IsNear xs k near → last ≡ near - 1 → 0 < length xs → None ≡ least_from (block_of xs last) k → slice_get xs (64 * near) ≡ least_from xs k
least_not_found xs k last near i is some e = sym (least_near xs k last near i is some ∙ ap (λ o. option_or o (slice_get xs (64 * near))) (sym e))

-- if the next block was asked, there are two
pub block_behind : (xs : List ℕ) (k near : ℕ) (r : Option ℕ) → IsNear xs k near → 0 < length xs → None ≡ least_from (block_of xs (near - 1)) k → r ≡ slice_get xs (64 * near) → 0 < length (option_to_list r) → 64 < length xs
block_behind xs k zero r i some e is has = absurd (none-some _ (e ∙ ap (λ o. o) (first_found xs k i some)))
  where
    first_found : (xs : List ℕ) (k : ℕ) → IsNear xs k 0 → 0 < length xs → least_from (block_of xs 0) k ≡ Some (get_or xs 0 0)
    first_found [] k i some = absurd (omega (arith, some))
    first_found (x ∷ xs) k i some =
        let below : k < x = i.after (block_exists (x ∷ xs) 0 (omega arith)) in
        let e : leb k x ≡ true = le-leb k x (omega (arith, below)) in
        rw e refl
block_behind xs k (suc near) r i some e is has =
    elim (cases_lt (64 * suc near) (length xs)) [
      | inl lt ↦ omega (arith, lt)
      | inr past ↦ let none : r ≡ None = is ∙ slice_get_past xs (64 * suc near) past in let empty = ap (λ o. length (option_to_list o)) none in absurd (omega (arith, has, empty))
    ]

-- no member is at most k
pub greatest_first : (xs : List ℕ) (k : ℕ) → IsNear xs k 0 → greatest_to xs k ≡ None
greatest_first xs k i = greatest_beyond 0 (2 ^ 56) xs 0 k i.rising (λ lt. i.after (block_exists xs 0 (omega arith)))

-- the greatest is in the last block that begins at or before k
pub greatest_near : (xs : List ℕ) (k last near : ℕ) → IsNear xs k near → near ≡ last + 1 → greatest_to xs k ≡ greatest_to (block_of xs last) k
greatest_near xs k last near i is =
    let exists : last < blocks_of xs = let w = i.within in omega arith in
    let begins : 64 * last < length xs = block_begins xs last exists in
    let back : near - 1 ≡ last = omega arith in
    let before : get_or xs (64 * last) 0 ≤ k = let b = i.before (omega arith) in let b = rw back at b in b in
    let next : 64 * last + 64 ≡ 64 * near = omega arith in
    let front = take (64 * last) xs in
    let behind = drop (64 * last) xs in
    let whole : front ++ behind ≡ xs = take-append-drop (64 * last) xs in
    let parts : take 64 behind ++ drop 64 behind ≡ behind = take-append-drop 64 behind in
    let rest : drop 64 behind ≡ drop (64 * near) xs = drop-drop 64 (64 * last) xs ∙ ap (λ n. drop n xs) next in
    let none : greatest_to (drop 64 behind) k ≡ None =
    ap (λ ys. greatest_to ys k) rest ∙ greatest_beyond 0 (2 ^ 56) xs (64 * near) k i.rising (λ lt. i.after (block_exists xs near lt)) in
    let block : greatest_to behind k ≡ greatest_to (take 64 behind) k =
    ap (λ ys. greatest_to ys k) (sym parts)
    ∙ find_last-append (λ p. nat_le p k) (take 64 behind) (drop 64 behind)
    ∙ ap (λ o. later_or o (greatest_to (take 64 behind) k)) none in
    let some : 0 < length (take 64 behind) = let a = length-take 64 behind in let b = length-drop (64 * last) xs in omega (arith, a, b) in
    let same : 64 * last + 0 ≡ 64 * last = omega arith in
    let head : get_or (take 64 behind) 0 0 ≡ get_or xs (64 * last) 0 =
    get_or-take 64 behind 0 0 (omega arith) ∙ get_or-drop (64 * last) xs 0 0 ∙ ap (λ n. get_or xs n 0) same in
    let low : get_or (take 64 behind) 0 0 ≤ k = omega (arith, head, before) in
    ap (λ ys. greatest_to ys k) (sym whole)
    ∙ find_last-append (λ p. nat_le p k) front behind
    ∙ ap (λ o. later_or o (greatest_to front k)) block
    ∙ greatest_met (take 64 behind) k (greatest_to front k) some low

-- the two ways to say a bound
greatest_agrees : (low k above : ℕ) (xs : List ℕ) → RiseWithin low (2 ^ 56) xs → ((p : ℕ) → p < 2 ^ 56 → ltb p above ≡ leb p k) → find_last (λ p. ltb p above) xs ≡ greatest_to xs k
greatest_agrees low k above [] r same = refl
greatest_agrees low k above (x ∷ xs) r same =
    ap (λ o. later_or o (cond (ltb x above) (Some x) None)) (greatest_agrees (x + 1) k above xs r.2 same)
    ∙ ap (λ b. later_or (greatest_to xs k) (cond b (Some x) None)) (same x r.1)

one_above : (k above p : ℕ) → above ≡ min (k + 1) (2 ^ 64 - 1) → p < 2 ^ 56 → ltb p above ≡ leb p k
one_above k above p is small =
    elim (cases_lt k p) [
      | inl beyond ↦ le-ltb p above (omega (arith, beyond, is)) ∙ sym (lt-leb p k beyond)
      | inr within ↦ lt-ltb p above (omega (arith, within, is, small)) ∙ sym (le-leb p k within)
    ]

pub greatest_found : (xs : List ℕ) (k last near above : ℕ) (r : Option ℕ) → IsNear xs k near → near ≡ last + 1 → above ≡ min (k + 1) (2 ^ 64 - 1) →
    r ≡ find (λ p. ltb p above) (reverse (block_of xs last)) → r ≡ greatest_to xs k
greatest_found xs k last near above r i is above_is e =
    e ∙ find-reverse (λ p. ltb p above) (block_of xs last)
    ∙ greatest_agrees 0 k above (block_of xs last) (block_rises xs last i.rising) (λ p small. one_above k above p above_is small)
    ∙ sym (greatest_near xs k last near i is)

-- the probes of the search, and the one of the next block
pub probed_after : (xs : List ℕ) (k last near before now later : ℕ) (r : Option ℕ) → IsNear xs k near → last ≡ near - 1 → 0 < length xs → None ≡ least_from (block_of xs last) k →
    r ≡ slice_get xs (64 * near) → RisesByDigits (blocks_of xs) before now → later ≡ now + length (option_to_list r) → RisesByDigits (length xs) before later
probed_after xs k last near before now later None i is some e got probes counted = digits_of_blocks (length xs) (blocks_of xs) before later refl (subst (RisesByDigits (blocks_of xs) before) (omega (arith, counted)) probes)
probed_after xs k last near before now later (Some x) i is some e got probes counted =
    let many = block_behind xs k near (Some x) i some (subst (λ b. None ≡ least_from (block_of xs b) k) is e) got (omega arith) in
    digits_of_one_more (length xs) (blocks_of xs) before now later refl many probes (omega (arith, counted))
