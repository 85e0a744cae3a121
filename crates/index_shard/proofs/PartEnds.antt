-- Lists that are put one after another.
use Rattle.std.proofs.Common.{◌≡◌, ℕ, ◌+◌, ◌<◌, ◌≤◌, ◌^◌, List, [], ◌++◌, length, get_or, sym, ap, ◌∙◌, subst, arith}
use Rattle.std.proofs.lemmas.List.{append-nil, get_or_append_left, length-append, nil_from_length}
use Rattle.posting_code.specs.Postings.{ArePostings}
use Rattle.posting_code.specs.Packed.{last_of}
use Rattle.posting_code.proofs.Joining.{last_of-append}
use Rattle.posting_code.proofs.Rising.{rise_length}
use Rattle.index_shard.specs.Kept.{AreEndsOf}
use Rattle.index_shard.specs.declared.parts.Ends.{Ends}

-- the ends of nothing
pub ends_none : (ends : Ends) → ends.first ≡ 0 → ends.last ≡ 0 → ends.count ≡ 0 → AreEndsOf ends []
ends_none ends first last count = record { first = first; last = last; count = count }

-- if nothing comes after it
pub ends_same : (ends : Ends) (front list : List ℕ) → AreEndsOf ends front → 0 ≡ length list → AreEndsOf ends (front ++ list)
ends_same ends front list are none = subst (AreEndsOf ends) (sym (ap (λ l. front ++ l) (nil_from_length list (sym none)) ∙ append-nil front)) are

-- if a list comes after nothing
pub ends_begin : (ends more : Ends) (front list : List ℕ) → AreEndsOf ends front → ends.count ≡ 0 → more.first ≡ get_or list 0 0 → more.last ≡ last_of list → more.count ≡ length list → AreEndsOf more (front ++ list)
ends_begin ends more front list are none first last count =
    let counted = are.count in
    let empty : front ≡ [] = nil_from_length front (omega (arith, counted, none)) in
    subst (λ f. AreEndsOf more (f ++ list)) (sym empty) record { first = first; last = last; count = count }

-- and after others
pub ends_more : (ends more : Ends) (front list : List ℕ) → AreEndsOf ends front → 0 < ends.count → 0 < length list → more.first ≡ ends.first → more.last ≡ last_of list → more.count ≡ ends.count + length list → AreEndsOf more (front ++ list)
ends_more ends more front list are some some_more first last count =
    let counted = are.count in
    let both = length-append front list in
    record {
      first = first ∙ are.first ∙ sym (get_or_append_left front list 0 0 (omega (arith, counted, some)));
      last = last ∙ sym (last_of-append front list some_more);
      count = omega (arith, count, counted, both);
    }

-- there are not too many to count
pub few_together : (front list : List ℕ) → ArePostings (front ++ list) → length front + length list ≤ 2 ^ 56
few_together front list rising = let short = rise_length 0 (2 ^ 56) (front ++ list) rising in let both = length-append front list in omega (arith, short, both)
