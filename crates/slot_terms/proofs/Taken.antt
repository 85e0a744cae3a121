-- The parts, as the least term is taken from one after the other.
use Rattle.std.proofs.Common.{◌≡◌, ℕ, ◌+◌, ◌<◌, ◌≤◌, true, List, [], ◌∷◌, ◌++◌, length, map, flat_map, set, get_or, take, drop, drop_of_length-le, le_refl, refl, sym, ap, ◌∙◌, subst, arith}
use Rattle.std.proofs.lemmas.Grind.{flat_map-append}
use Rattle.std.proofs.lemmas.List.{append-nil, append_assoc, drop_at, get_or_at, length-append, length-map, map-append, take-append-drop, take_all, take_at}
use Rattle.slot_terms.specs.Leasts.{IsLeastAt, NoneHas}
use Rattle.index_shard.specs.Tables.{addresses_at}
use Rattle.slot_terms.specs.Parts.{PartContent, alive, head_postings, is_headed, past}
use Rattle.slot_terms.specs.declared.least.Least.{Least}
use Rattle.slot_terms.proofs.Firsts.{past_headed}
use Rattle.slot_terms.proofs.Heads.{headed_postings, past_more, unheaded_behind, unheaded_postings, part_content}
use Rattle.slot_terms.proofs.Loops.{flat_map_item}

-- of this many parts the live postings of the term were put, and they are past it
pub record HasTaken (term : List ℕ) (parts now : List PartContent) (base out : List ℕ) (count : ℕ) : Type 0 where
  pub lists : out ≡ base ++ flat_map (λ part. alive part.mask (head_postings part.left term)) (take count parts)
  pub past_it : now ≡ map (past term) (take count parts) ++ drop count parts

-- parts that do not have a term first stay as they are, and give none of its postings
past_others : (term : List ℕ) (parts : List PartContent) → NoneHas term parts → map (past term) parts ≡ parts
past_others term [] none = refl
past_others term (part ∷ parts) none =
    ap (λ p. p ∷ map (past term) parts) (ap (part_content part.mask) (unheaded_behind part.left term none.0)) ∙ ap (λ ps. part ∷ ps) (past_others term parts none.1)

postings_of_others : (term : List ℕ) (parts : List PartContent) → NoneHas term parts → flat_map (λ part. alive part.mask (head_postings part.left term)) parts ≡ []
postings_of_others term [] none = refl
postings_of_others term (part ∷ parts) none = ap (λ l. alive part.mask l ++ flat_map (λ p. alive p.mask (head_postings p.left term)) parts) (unheaded_postings part.left term none.0) ∙ postings_of_others term parts none.1

front_is : (parts : List PartContent) (least : Least) → (at : IsLeastAt parts least) → take least.place parts ≡ at.before
front_is parts least at = ap (take least.place) at.parts_are ∙ take_at at.before (at.part ∷ at.behind) least.place (sym at.place_is)

rest_is : (parts : List PartContent) (least : Least) → (at : IsLeastAt parts least) → drop (least.place + 1) parts ≡ at.behind
rest_is parts least at =
    let long = length-append at.before (at.part ∷ []) in
    let place = at.place_is in
    ap (drop (least.place + 1)) (at.parts_are ∙ sym (append_assoc at.before (at.part ∷ []) at.behind))
    ∙ drop_at (at.before ++ at.part ∷ []) at.behind (least.place + 1) (omega (arith, long, place))

-- the place is one of the parts, and the one that has the term is there
place_within : (parts : List PartContent) (least : Least) → IsLeastAt parts least → least.place < length parts
place_within parts least at =
    let long = ap length at.parts_are ∙ length-append at.before (at.part ∷ at.behind) in
    let place = at.place_is in
    omega (arith, long, place)

part_there : (parts : List PartContent) (least : Least) (d : PartContent) → (at : IsLeastAt parts least) → get_or parts least.place d ≡ at.part
part_there parts least d at = ap (λ l. get_or l least.place d) at.parts_are ∙ get_or_at at.before at.part at.behind d least.place (sym at.place_is)

-- the parts before the least do not have it
taken_before : (parts : List PartContent) (least : Least) (base : List ℕ) → IsLeastAt parts least → HasTaken least.first.term.now parts parts base base least.place
taken_before parts least base at =
    let term = least.first.term.now in
    let none : NoneHas term (take least.place parts) = subst (NoneHas term) (sym (front_is parts least at)) at.none_before in
    record {
      lists = sym (ap (λ l. base ++ l) (postings_of_others term (take least.place parts) none) ∙ append-nil base);
      past_it = sym (ap (λ l. l ++ drop least.place parts) (past_others term (take least.place parts) none) ∙ take-append-drop least.place parts);
    }

-- one part more
pub taken_more : (term : List ℕ) (parts now : List PartContent) (base out more : List ℕ) (i : ℕ) (item after : PartContent) → i < length parts → HasTaken term parts now base out i → item ≡ get_or now i item →
    after ≡ past term item → more ≡ out ++ alive item.mask (head_postings item.left term) → HasTaken term parts (set now i after) base more (i + 1)
taken_more term parts now base out more i item after lt was at is put =
    let next = past_more parts now i term item after lt was.past_it at is in
    record { lists = flat_map_item (λ part. alive part.mask (head_postings part.left term)) parts i base out more item lt next.0 was.lists put; past_it = next.1 }

-- no part is lost
pub taken_length : (term : List ℕ) (parts now : List PartContent) (base out : List ℕ) (i : ℕ) → HasTaken term parts now base out i → length now ≡ length parts
taken_length term parts now base out i was =
    ap length was.past_it
    ∙ length-append (map (past term) (take i parts)) (drop i parts)
    ∙ ap (λ n. n + length (drop i parts)) (length-map (take i parts) (past term))
    ∙ sym (length-append (take i parts) (drop i parts))
    ∙ ap length (take-append-drop i parts)

-- the first of them is the one at the place
pub taken_first : (parts : List PartContent) (least : Least) (base out : List ℕ) (d after : PartContent) → IsLeastAt parts least → out ≡ base ++ alive (get_or parts least.place d).mask (addresses_at (get_or parts least.place d).left 0) →
    after ≡ part_content (get_or parts least.place d).mask (drop 1 (get_or parts least.place d).left) → HasTaken least.first.term.now parts (set parts least.place after) base out (least.place + 1)
taken_first parts least base out d after at put is =
    let term = least.first.term.now in
    let item = get_or parts least.place d in
    let there = part_there parts least d at in
    let headed : is_headed item.left term ≡ true = ap (λ (p : PartContent). is_headed p.left term) there ∙ at.has in
    taken_more term parts parts base base out least.place item after (place_within parts least at) (taken_before parts least base at) (there ∙ sym (part_there parts least item at)) (is ∙ past_headed item term headed)
    (put ∙ ap (λ l. base ++ alive item.mask l) (sym (headed_postings item.left 0 term headed)))

-- if the rest does not have the term, all is done
pub taken_alone : (parts now : List PartContent) (least : Least) (base out : List ℕ) → IsLeastAt parts least → least.others ≡ 0 → HasTaken least.first.term.now parts now base out (least.place + 1) →
    HasTaken least.first.term.now parts now base out (length parts)
taken_alone parts now least base out at alone was =
    let term = least.first.term.now in
    let i = least.place + 1 in
    let f : PartContent → List ℕ = λ part. alive part.mask (head_postings part.left term) in
    let none : NoneHas term (drop i parts) = subst (NoneHas term) (sym (rest_is parts least at)) (at.none_behind alone) in
    let none_left : drop (length parts) parts ≡ [] = drop_of_length-le parts (le_refl (length parts)) in
    let whole : take i parts ++ drop i parts ≡ take (length parts) parts = take-append-drop i parts ∙ sym (take_all (length parts) parts (omega arith)) in
    record {
      lists =
          was.lists
          ∙ ap (λ l. base ++ l) (sym (append-nil (flat_map f (take i parts))) ∙ ap (λ l. flat_map f (take i parts) ++ l) (sym (postings_of_others term (drop i parts) none)) ∙ sym (flat_map-append f (take i parts) (drop i parts)) ∙ ap (flat_map f) whole);
      past_it =
          was.past_it
          ∙ ap (λ l. map (past term) (take i parts) ++ l) (sym (past_others term (drop i parts) none))
          ∙ sym (map-append (past term) (take i parts) (drop i parts))
          ∙ ap (map (past term)) whole
          ∙ sym (append-nil (map (past term) (take (length parts) parts)))
          ∙ ap (λ l. map (past term) (take (length parts) parts) ++ l) (sym none_left);
    }

-- and if no part is left
pub taken_all : (term : List ℕ) (parts now : List PartContent) (base out : List ℕ) (i : ℕ) → length parts ≤ i → HasTaken term parts now base out i →
    (out ≡ base ++ flat_map (λ part. alive part.mask (head_postings part.left term)) parts) × (now ≡ map (past term) parts)
taken_all term parts now base out i long was =
    let whole = take_all i parts long in (
      was.lists ∙ ap (λ l. base ++ flat_map (λ part. alive part.mask (head_postings part.left term)) l) whole,
      was.past_it ∙ ap (λ l. map (past term) l ++ drop i parts) whole ∙ ap (λ l. map (past term) parts ++ l) (drop_of_length-le parts long) ∙ append-nil (map (past term) parts),
    )
