-- Lists whose packed differences are taken over as they lie, one member more.
use Rattle.std.proofs.Common.{◌≡◌, ℕ, ◌+◌, ◌-◌, ◌^◌, ◌<◌, List, [], ◌∷◌, ◌++◌, length, length-append, take, append_assoc, refl, sym, ap, ◌∙◌, arith}
use Rattle.std.proofs.Math.Seq.{take-append_seam}
use Rattle.posting_code.specs.Numbers.{spelling}
use Rattle.posting_code.specs.Postings.{ArePostings}
use Rattle.posting_code.specs.Packed.{heads_behind, kept, last_of}
use Rattle.posting_code.specs.Taken.{IsTaken, TakenList, front_of}
use Rattle.posting_code.specs.declared.head.Head.{Head}
use Rattle.posting_code.proofs.Packed.{grown_list, is_grown, next_kept}
use Rattle.posting_code.proofs.Rising.{rise_length}

-- the bytes before what is left of them
pub front_is : (bytes front rest : List ℕ) → bytes ≡ front ++ rest → front_of bytes rest ≡ front
front_is bytes front rest is =
    let long = ap length is ∙ length-append front rest in
    let size : length bytes - length rest ≡ length front = omega (arith, long) in
    ap (λ n. take n bytes) size ∙ ap (take (length front)) is ∙ take-append_seam front rest

-- a number more was taken
pub record IsFurther (bytes old rest number : List ℕ) : Type 0 where
  pub front : front_of bytes rest ≡ front_of bytes old ++ number
  pub whole : bytes ≡ front_of bytes rest ++ rest

pub front_further : (bytes old rest number : List ℕ) → bytes ≡ front_of bytes old ++ old → old ≡ number ++ rest → IsFurther bytes old rest number
front_further bytes old rest number whole is =
    let parts : bytes ≡ (front_of bytes old ++ number) ++ rest = whole ∙ ap (λ r. front_of bytes old ++ r) is ∙ sym (append_assoc (front_of bytes old) number rest) in
    let front = front_is bytes (front_of bytes old ++ number) rest parts in
    record { front = front; whole = parts ∙ ap (λ f. f ++ rest) (sym front) }

-- a list is no longer than there are addresses
pub taken_few : (last count first : ℕ) (bytes rest : List ℕ) (heads : List Head) → IsTaken last count first bytes rest heads → count + 1 < 2 ^ 64
taken_few last count first bytes rest heads is =
    let counted = is.parts.parts.counted in
    let short = rise_length 0 (2 ^ 56) (kept count first (front_of bytes rest)) is.parts.parts.rising in
    omega (arith, counted, short)

-- the next member
pub record IsTakenNext (count first : ℕ) (bytes rest : List ℕ) (heads : List Head) (before : List ℕ) (next : ℕ) : Type 0 where
  pub taken : IsTaken next count first bytes rest heads
  pub list : kept count first (front_of bytes rest) ≡ before ++ next ∷ []

pub taken_next : (last count first : ℕ) (bytes old : List ℕ) (heads : List Head) (now : TakenList) (next : ℕ) (rest : List ℕ) (longer : List Head) (head : Head) → IsTaken last count first bytes old heads →
    record { list = kept count first (front_of bytes old); rest = old } ≡ now → ArePostings (now.list ++ next ∷ []) → now.rest ≡ spelling (next - last_of now.list) ++ rest →
    head.first ≡ next → head.at ≡ length bytes - length rest → longer ≡ heads_behind count heads head → IsTakenNext (count + 1) first bytes rest longer now.list next
taken_next last count first bytes old heads now next rest longer head is view rising spelled first_is at_is longer_is =
    let list_is : kept count first (front_of bytes old) ≡ now.list = ap (λ (t : TakenList). t.list) view in
    let rest_is : old ≡ now.rest = ap (λ (t : TakenList). t.rest) view in
    let last_is : last ≡ last_of now.list = is.parts.end ∙ ap last_of list_is in
    let further = front_further bytes old rest (spelling (next - last_of now.list)) is.whole (rest_is ∙ spelled) in
    let more_is = further.front ∙ ap (λ l. front_of bytes old ++ spelling (next - l)) (sym last_is) in
    let grown = is_grown now.list count first (front_of bytes old) last next (front_of bytes rest) is.some list_is last_is rising more_is in
    let long = ap length further.whole ∙ length-append (front_of bytes rest) rest in
    let size : length bytes - length rest ≡ length (front_of bytes rest) = omega (arith, long) in
    record {
      taken = record {
        some = omega arith;
        whole = further.whole;
        parts = next_kept count first (front_of bytes old) heads last next (count + 1) (front_of bytes rest) head longer is.parts.parts grown refl first_is (at_is ∙ size) longer_is;
      };
      list = (grown_list count first (front_of bytes old) heads last next (count + 1) (front_of bytes rest) is.parts.parts grown refl).0 ∙ ap (λ xs. xs ++ next ∷ []) list_is;
    }
