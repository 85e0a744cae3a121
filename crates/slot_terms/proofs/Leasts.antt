-- The least of the first terms of the parts, and where it is.
use Rattle.std.proofs.Common.{◌≡◌, ℕ, true, false, List, [], ◌∷◌, ◌++◌, length, Some, None, Option, bytes_eq, append_assoc, inl, inr, refl, sym, ap, ◌∙◌, subst, arith}
use Rattle.std.specs.declared.cmp.Ordering.TheVariants.{Less, Equal, Greater}
use Rattle.std.specs.Ordering.{nat_cmp}
use Rattle.std.specs.Cmp.Lexicographic.{slice_cmp}
use Rattle.std.specs.List.{AllByRecursion, list_any}
use Rattle.std.proofs.lemmas.Bool.{or_left, or_right}
use Rattle.std.proofs.lemmas.Cmp.{nat_list_cmp_total}
use Rattle.std.proofs.lemmas.Map.Lookups.{exact_bytes}
use Rattle.std.proofs.lemmas.Slice.Eq.{bytes_eq-Decides}
use Rattle.index_shard.specs.Tables.{ComesBefore, TermEntry}
use Rattle.index_shard.proofs.TableLaws.{all_push, same_term}
use Rattle.live_version.proofs.TermLemmas.{greater_first, no_later_trans}
use Rattle.slot_terms.specs.Firsts.{IsFirst, IsFirstOf}
use Rattle.slot_terms.specs.Leasts.{IsLeastAt, IsLeastOf, NoneHas}
use Rattle.slot_terms.specs.Parts.{IsNoLater, NoneEarlier, PartContent, head_term, is_headed}
use Rattle.slot_terms.specs.declared.first.First.{First}
use Rattle.slot_terms.specs.declared.least.Least.{Least}
use Rattle.slot_terms.proofs.Passing.{after_differs}

-- of entries that begin with a term it is the first
headed : (left : List TermEntry) (term : List ℕ) → Some term ≡ head_term left → is_headed left term ≡ true
headed [] term is = absurd cc
headed (e ∷ es) term is = let same : e.term ≡ term = cc in (bytes_eq-Decides e.term term).1 same

-- and another term is if both are the same
pub headed_as : (left : List TermEntry) (own other : List ℕ) → Some own ≡ head_term left → is_headed left other ≡ bytes_eq own other
headed_as [] own other is = absurd cc
headed_as (e ∷ es) own other is = let same : e.term ≡ own = cc in ap (λ t. bytes_eq t other) same

pub headed_none : (left : List TermEntry) (other : List ℕ) → None ≡ head_term left → is_headed left other ≡ false
headed_none [] other is = refl
headed_none (e ∷ es) other is = absurd cc

pub ended : (left : List TermEntry) → None ≡ head_term left → left ≡ []
ended [] is = refl
ended (e ∷ es) is = absurd cc

-- a term that no part has first, and none has a lesser one
record IsBelow (term : List ℕ) (parts : List PartContent) : Type 0 where
  pub none_earlier : NoneEarlier term parts
  pub none_has : NoneHas term parts

-- any term is such if nothing is to come
below_ended : (term : List ℕ) (parts : List PartContent) → AllByRecursion (λ part. part.left ≡ []) parts → IsBelow term parts
below_ended term [] all = record { none_earlier = tt; none_has = tt }
below_ended term (part ∷ parts) all =
    let rest = below_ended term parts all.1 in
    record {
      none_earlier = (subst (λ left. IsNoLater (Some term) (head_term left)) (sym all.0) tt, rest.none_earlier);
      none_has = (ap (λ left. is_headed left term) all.0, rest.none_has);
    }

-- what comes before a term that is no later than another one is not the other one
before_headed : (term old : List ℕ) (left : List TermEntry) → ComesBefore term old → IsNoLater (Some old) (head_term left) → is_headed left term ≡ false
before_headed term old [] before later = refl
before_headed term old (e ∷ es) before later = elim later [
  | inl same ↦ after_differs term e.term (subst (ComesBefore term) same before)
  | inr after ↦ after_differs term e.term (nat_list_cmp_total.trans term old e.term before after)
]

-- a term that comes before the least is such
below_least : (term old : List ℕ) (parts : List PartContent) → ComesBefore term old → NoneEarlier old parts → IsBelow term parts
below_least term old [] before all = record { none_earlier = tt; none_has = tt }
below_least term old (part ∷ parts) before all =
    let rest = below_least term old parts before all.1 in
    record {
      none_earlier = (no_later_trans (Some term) (Some old) (head_term part.left) (inr before) all.0, rest.none_earlier);
      none_has = (before_headed term old part.left before all.0, rest.none_has);
    }

-- the first term of one part more is the least then
least_here : (parts : List PartContent) (more : PartContent) (first : First) (place : ℕ) → place ≡ length parts → IsFirst first → Some first.term.now ≡ head_term more.left → IsBelow first.term.now parts →
    IsLeastAt (parts ++ more ∷ []) (record { first = first; place = place; others = 0 })
least_here parts more first place at is own below = record {
  is = is;
  none_earlier = all_push (λ p. IsNoLater (Some first.term.now) (head_term p.left)) parts more below.none_earlier (subst (IsNoLater (Some first.term.now)) own (inl refl));
  before = parts;
  part = more;
  behind = [];
  parts_are = refl;
  place_is = at;
  has = headed more.left first.term.now own;
  none_before = below.none_has;
  none_behind = λ none. tt;
}

-- otherwise it is the one of before, and whether another part has it is said of one part more
least_stays : (parts : List PartContent) (more : PartContent) (least : Least) (others : ℕ) → IsLeastAt parts least → IsNoLater (Some least.first.term.now) (head_term more.left) →
    (others ≡ 0 → (least.others ≡ 0) × (is_headed more.left least.first.term.now ≡ false)) → IsLeastAt (parts ++ more ∷ []) (record least { others = others })
least_stays parts more least others at later none = record {
  is = at.is;
  none_earlier = all_push (λ p. IsNoLater (Some least.first.term.now) (head_term p.left)) parts more at.none_earlier later;
  before = at.before;
  part = at.part;
  behind = at.behind ++ more ∷ [];
  parts_are = ap (λ l. l ++ more ∷ []) at.parts_are ∙ append_assoc at.before (at.part ∷ at.behind) (more ∷ []);
  place_is = at.place_is;
  has = at.has;
  none_before = at.none_before;
  none_behind = λ is. all_push (λ p. is_headed p.left least.first.term.now ≡ false) at.behind more (at.none_behind (none is).0) (none is).1;
}

-- one part more of which nothing is to come
pub least_ended : (parts : List PartContent) (more : PartContent) (least : Option Least) → None ≡ head_term more.left → IsLeastOf parts least → IsLeastOf (parts ++ more ∷ []) least
least_ended parts more None none of = all_push (λ p. p.left ≡ []) parts more of (ended more.left none)
least_ended parts more (Some least) none of =
    least_stays parts more least least.others of (subst (IsNoLater (Some least.first.term.now)) none tt) (λ is. (is, headed_none more.left least.first.term.now none))

-- one that is the first of which something is
pub least_begins : (parts : List PartContent) (more : PartContent) (first : First) (place : ℕ) → IsFirstOf more.left (Some first) → place ≡ length parts → IsLeastOf parts None →
    IsLeastOf (parts ++ more ∷ []) (Some (record { first = first; place = place; others = 0 }))
least_begins parts more first place own at of = least_here parts more first place at own.told own.term (below_ended first.term.now parts of)

-- one whose first term comes before the least
pub least_falls : (parts : List PartContent) (more : PartContent) (first : First) (least : Least) (place : ℕ) → IsFirstOf more.left (Some first) → place ≡ length parts → IsLeastOf parts (Some least) →
    Less ≡ slice_cmp nat_cmp first.term.now least.first.term.now → IsLeastOf (parts ++ more ∷ []) (Some (record { first = first; place = place; others = 0 }))
least_falls parts more first least place own at of less =
    least_here parts more first place at own.told own.term (below_least first.term.now least.first.term.now parts (sym less) of.none_earlier)

-- one whose first term is the least
pub least_tied : (parts : List PartContent) (more : PartContent) (first : First) (least : Least) → IsFirstOf more.left (Some first) → IsLeastOf parts (Some least) →
    Equal ≡ slice_cmp nat_cmp first.term.now least.first.term.now → IsLeastOf (parts ++ more ∷ []) (Some (record least { others = 1 }))
least_tied parts more first least own of tie =
    let term = least.first.term.now in
    let same : first.term.now ≡ term = exact_bytes first.term.now term (sym tie) in
    least_stays parts more least 1 of (subst (IsNoLater (Some term)) own.term (inl (sym same))) (λ is. absurd (omega (arith, is)))

-- one whose first term comes after the least
pub least_kept : (parts : List PartContent) (more : PartContent) (first : First) (least : Least) → IsFirstOf more.left (Some first) → IsLeastOf parts (Some least) →
    Greater ≡ slice_cmp nat_cmp first.term.now least.first.term.now → IsLeastOf (parts ++ more ∷ []) (Some least)
least_kept parts more first least own of greater =
    let term = least.first.term.now in
    least_stays parts more least least.others of
    (subst (IsNoLater (Some term)) own.term (greater_first first.term.now term (sym greater)))
    (λ is. (is, headed_as more.left first.term.now term own.term ∙ same_term first.term.now term Greater (sym greater)))

-- some part has it
pub least_member : (parts : List PartContent) (least : Least) → IsLeastAt parts least → list_any (λ part. is_headed part.left least.first.term.now) parts ≡ true
least_member parts least at = subst (λ ps. list_any (λ part. is_headed part.left least.first.term.now) ps ≡ true) (sym at.parts_are) (among at.before)
  where
    among : (before : List PartContent) → list_any (λ part. is_headed part.left least.first.term.now) (before ++ at.part ∷ at.behind) ≡ true
    among [] = or_left (is_headed at.part.left least.first.term.now) _ at.has
    among (p ∷ ps) = or_right (is_headed p.left least.first.term.now) _ (among ps)

-- if there is none, nothing is to come
pub none_later : (parts : List PartContent) → AllByRecursion (λ part. part.left ≡ []) parts → AllByRecursion (λ part. IsNoLater None (head_term part.left)) parts
none_later [] all = tt
none_later (part ∷ parts) all = (subst (λ left. IsNoLater None (head_term left)) (sym all.0) tt, none_later parts all.1)
