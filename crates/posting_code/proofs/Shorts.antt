-- Lists of one block, whose differences are in a row of bytes.
use Rattle.std.proofs.Common.{◌≡◌, ℕ, zero, suc, ◌*◌, ◌-◌, ◌/◌, ◌≤◌, List, [], ◌∷◌, length, get_or, inl, inr, sym, ap, ◌∙◌, subst, arith}
use Rattle.std.proofs.lemmas.Bool.{lt-ltb, le-ltb, cases_lt}
use Rattle.std.proofs.lemmas.List.{length-append}
use Rattle.posting_code.specs.Numbers.{spelling_within, spelling}
use Rattle.posting_code.specs.Postings.{ArePostings}
use Rattle.posting_code.specs.Packed.{kept, packed_from, packed_of, last_of, IsKeptTo}
use Rattle.posting_code.proofs.Joining.{kept_of}

-- what is kept by its first member, its length and its differences
pub kept_short : (list : List ℕ) (count first : ℕ) (packed : List ℕ) → ArePostings list → count ≡ length list → first ≡ get_or list 0 0 → packed ≡ packed_of list → kept count first packed ≡ list
kept_short [] count first packed rising counted first_is packed_is = ap (λ n. kept n first packed) counted
kept_short (x ∷ xs) count first packed rising counted first_is packed_is = kept_of (x ∷ xs) count first packed rising (omega arith) counted first_is packed_is

-- what is kept by its ends, its length and its differences
pub short_of : (list : List ℕ) (first last count : ℕ) (packed : List ℕ) → ArePostings list → length list ≤ 64 → count ≡ length list → first ≡ get_or list 0 0 → last ≡ last_of list → packed ≡ packed_of list →
    (kept count first packed ≡ list) × IsKeptTo last count first packed []
short_of list first last count packed rising few counted first_is last_is packed_is =
    let is = kept_short list count first packed rising counted first_is packed_is in (
      is,
      record {
        parts = record {
          rising = subst ArePostings (sym is) rising;
          counted = counted ∙ ap length (sym is);
          differences = packed_is ∙ ap packed_of (sym is);
          marked = omega (arith, few, counted);
          blocks = λ b d lt. absurd (omega (arith, lt));
        };
        end = last_is ∙ ap last_of (sym is);
      },
    )

within_length : (most n : ℕ) → length (spelling_within most n) ≤ most
within_length zero n = omega arith
within_length (suc most) n =
    elim (cases_lt n 128) [
      | inl small ↦ rw (lt-ltb n 128 small) (omega arith)
      | inr large ↦ let rest = within_length most (n / 128) in rw (le-ltb n 128 (omega (arith, large))) (omega (arith, rest))
    ]

from_length : (before : ℕ) (ps : List ℕ) → length (packed_from before ps) ≤ 8 * length ps
from_length before [] = omega arith
from_length before (p ∷ ps) =
    let one = within_length 8 (p - before) in
    let rest = from_length p ps in
    let both = length-append (spelling (p - before)) (packed_from p ps) in
    omega (arith, one, rest, both)

-- the differences of a list take no more than eight bytes a member
pub packed_length : (list : List ℕ) → length (packed_of list) ≤ 8 * length list
packed_length [] = omega arith
packed_length (p ∷ ps) = let rest = from_length p ps in omega (arith, rest)
