-- A walk over the postings of a term, block by block.
use Rattle.std.proofs.Common.{◌≡◌, ℕ, zero, suc, ◌+◌, ◌*◌, ◌<◌, ◌≤◌, List, [], ◌∷◌, ◌++◌, length, take, drop, get_or, refl, sym, ap, ◌∙◌, arith}
use Rattle.std.proofs.lemmas.List.{take-append-drop, drop-drop, length-take, length-drop}
use Rattle.posting_code.specs.Postings.{blocks_of, block_of}

-- the next member of what was read
pub walk_step : (members rest : List ℕ) (at next count : ℕ) → next ≡ at + 1 → at < count → count ≤ length members →
    drop at (take count members) ++ rest ≡ get_or members at 0 ∷ (drop next (take count members) ++ rest)
walk_step members rest at next zero is lt le = absurd (omega arith)
walk_step members rest at zero (suc count) is lt le = absurd (omega arith)
walk_step [] rest at (suc next) (suc count) is lt le = absurd (omega arith)
walk_step (m ∷ ms) rest zero (suc zero) (suc count) is lt le = refl
walk_step (m ∷ ms) rest zero (suc (suc next)) (suc count) is lt le = absurd (omega arith)
walk_step (m ∷ ms) rest (suc at) (suc next) (suc count) is lt le = walk_step ms rest at next count (omega arith) (omega arith) (omega arith)

-- nothing is left of what was read
pub walk_spent : (members rest : List ℕ) (at count : ℕ) → at ≡ count → drop at (take count members) ++ rest ≡ rest
walk_spent [] rest zero zero e = refl
walk_spent [] rest zero (suc count) e = refl
walk_spent [] rest (suc at) zero e = refl
walk_spent [] rest (suc at) (suc count) e = refl
walk_spent (m ∷ ms) rest zero zero e = refl
walk_spent (m ∷ ms) rest zero (suc count) e = absurd (omega arith)
walk_spent (m ∷ ms) rest (suc at) zero e = absurd (omega arith)
walk_spent (m ∷ ms) rest (suc at) (suc count) e = walk_spent ms rest at count (omega arith)

-- a block that was read is the next part of the list
pub walk_refilled : (list members : List ℕ) (block count : ℕ) → take count members ≡ block_of list block → drop 0 (take count members) ++ drop (64 * (block + 1)) list ≡ drop (64 * block) list
walk_refilled list members block count read =
    let next : 64 * block + 64 ≡ 64 * (block + 1) = omega arith in
    let behind = drop (64 * block) list in
    ap (λ xs. xs ++ drop (64 * (block + 1)) list) read
    ∙ ap (λ n. take 64 behind ++ drop n list) (sym next)
    ∙ ap (λ xs. take 64 behind ++ xs) (sym (drop-drop 64 (64 * block) list))
    ∙ take-append-drop 64 behind

-- a walk that has a member to hand out, and the postings that are left
pub record IsReady (list members : List ℕ) (block at count : ℕ) (left : List ℕ) : Type 0 where
  pub some : at < count
  pub few : count ≤ 64
  pub within : block ≤ blocks_of list
  pub long : length members ≡ 64
  pub is : left ≡ drop at (take count members) ++ drop (64 * block) list

block_has : (list : List ℕ) (block : ℕ) → block < blocks_of list → (0 < length (block_of list block)) × (length (block_of list block) ≤ 64)
block_has list block lt =
    let behind = drop (64 * block) list in
    let a = length-take 64 behind in
    let b = length-drop (64 * block) list in
    (omega (arith, a, b, lt), omega (arith, a))

-- after the next block was read
pub ready_refilled : (list old members : List ℕ) (block at count found : ℕ) (left : List ℕ) → at ≡ count → block ≤ blocks_of list → (block ≡ blocks_of list → ⊥) → length members ≡ 64 →
    found ≡ length (block_of list block) → take found members ≡ block_of list block → drop at (take count old) ++ drop (64 * block) list ≡ left → IsReady list members (block + 1) 0 found left
ready_refilled list old members block at count found left spent le more long is read before =
    let lt : block < blocks_of list = omega arith in
    let has = block_has list block lt in
    let some = has.0 in
    let few = has.1 in
    record {
      some = omega (arith, is, some);
      few = omega (arith, is, few);
      within = omega arith;
      long = long;
      is = sym before ∙ walk_spent old (drop (64 * block) list) at count spent ∙ sym (walk_refilled list members block found read);
    }

pub ready_step : (list members : List ℕ) (block at count : ℕ) (left : List ℕ) → IsReady list members block at count left →
    left ≡ get_or members at 0 ∷ (drop (at + 1) (take count members) ++ drop (64 * block) list)
ready_step list members block at count left r =
    let few = r.few in
    let long = r.long in
    r.is ∙ walk_step members (drop (64 * block) list) at (at + 1) count refl r.some (omega arith)
