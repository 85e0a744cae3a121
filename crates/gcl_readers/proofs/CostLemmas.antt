-- What is left of the cost to readers that move.
use Rattle.std.proofs.Common.{◌≡◌, ℕ, ◌+◌, ◌*◌, ◌<◌, ◌≤◌, Bool, true, false, cond, leb, List, [], ◌∷◌, ◌++◌, length, take, drop, filter, Option, Some, None, refl, sym, ap, ◌∙◌, subst, arith, inl, inr, le_refl}
use Rattle.std.proofs.Math.Nat.{mul-le-mul_left, mul-le-mul_right}
use Rattle.std.proofs.lemmas.Bool.{leb-true, le-leb, lt-leb, cases_lt}
use Rattle.gcl_model.specs.declared.expr.Expr.{Expr}
use Rattle.gcl_model.specs.Extents.{Extent, IsRising}
use Rattle.gcl_model.specs.Texts.{Text}
use Rattle.gcl_model.specs.Forms.{Form, term, forms_count}
use Rattle.gcl_model.specs.Limits.{address_end}
use Rattle.gcl_model.proofs.Meanings.{concordance_rises}
use Rattle.gcl_eval.proofs.Listing.{no_member, next_member}
use Rattle.gcl_eval.proofs.Found.{member_of_text}
use Rattle.std.proofs.lemmas.List.{take-append-drop}
use Rattle.gcl_model.specs.FormOf.{form_of, containment_form}
use Rattle.gcl_model.specs.Meaning.{concordance}
use Rattle.gcl_model.specs.Access.{first_start}
use Rattle.gcl_model.specs.declared.containment.Containment.{Containment}
use Rattle.gcl_model.specs.declared.containment.Containment.TheVariants.{Containing, ContainedIn, NotContaining, NotContainedIn}
use Rattle.gcl_model.proofs.Covers.{Has}
use Rattle.gcl_eval.specs.Members.{members_from}
use Rattle.gcl_eval.specs.Operands.{operand_forms}
use Rattle.gcl_contain.proofs.Accesses.{found_first}
use Rattle.phrase_walk.specs.Rounds.{fewest_between, walk_end}
use Rattle.phrase_walk.proofs.Between.{fewer_filter, fewest_between_wider, fewest_between_parts, fewest_between_most}
use Rattle.gcl_readers.specs.declared.front.Front.{Front}
use Rattle.gcl_readers.specs.declared.front.Front.TheVariants.{Before, On, Between, End}
use Rattle.gcl_readers.specs.declared.front.Place.{Place}
use Rattle.gcl_readers.specs.Fronts.{IsFrontOf, IsUnknown, asked_of, front_at, start_left}
use Rattle.gcl_readers.specs.Standing.{nodes, front_of, with_front, Stands}
use Rattle.gcl_readers.specs.MergeCost.{member_cost, tokens_of, find_cost, not_asked, places_left, own_left, cost_below, costs_left, cost_left}
use Rattle.gcl_readers.proofs.Members.{first_up_to, none_after}
use Rattle.gcl_readers.proofs.Standings.{take_front, drop_front}

-- counts of members
less_filter : (p q : Extent → Bool) → ((a : Extent) → p a ≡ true → q a ≡ true) → (m : Extent) → p m ≡ false → q m ≡ true → (list : List Extent) → Has list m → length (filter p list) + 1 ≤ length (filter q list)
less_filter p q each m out in_q [] h = absurd h
less_filter p q each m out in_q (a ∷ list) (inl e) =
    let u : p a ≡ false = ap p e ∙ out in
    let v : q a ≡ true = ap q e ∙ in_q in
    let le = fewer_filter p q each list in
    rw (u, v) (omega arith)
less_filter p q each m out in_q (a ∷ list) (inr h) = here (p a) (q a) (each a) (less_filter p q each m out in_q list h)
  where
    here : (b c : Bool) → (b ≡ true → c ≡ true) → length (filter p list) + 1 ≤ length (filter q list) → length (cond b (a ∷ filter p list) (filter p list)) + 1 ≤ length (cond c (a ∷ filter q list) (filter q list))
    here true true h le = omega arith
    here true false h le = absurd (let e : false ≡ true = h refl in cc)
    here false true h le = omega arith
    here false false h le = le

fewer_from : (list : List Extent) (x y : ℕ) → x ≤ y → length (members_from list y) ≤ length (members_from list x)
fewer_from list x y le = fewer_filter (λ a. leb y a.start) (λ a. leb x a.start) (λ a t. le-leb x a.start (let far : y ≤ a.start = leb-true y a.start t in omega arith)) list

less_from : (list : List Extent) (x : ℕ) (m : Extent) → Has list m → x ≤ m.start → length (members_from list (m.start + 1)) + 1 ≤ length (members_from list x)
less_from list x m has le =
    less_filter (λ a. leb (m.start + 1) a.start) (λ a. leb x a.start) (λ a t. le-leb x a.start (let far : m.start + 1 ≤ a.start = leb-true (m.start + 1) a.start t in omega arith)) m
    (lt-leb (m.start + 1) m.start (omega arith)) (le-leb x m.start le) list has

-- what was looked for is no longer left
found_less : (list : List Extent) → IsRising list → (x k : ℕ) → x ≤ k → (o : Option Extent) → o ≡ first_start list k → not_asked list (front_at o) + 1 ≤ length (members_from list x) + 1
found_less list r x k le None is = omega arith
found_less list r x k le (Some a) is =
    let f = found_first (λ c. c.start) list r k a (sym is) in
    let far = f.far in
    let less = less_from list x a f.member (omega arith) in
    omega arith

pub asked_less : (list : List Extent) → IsRising list → (front : Front) (k : ℕ) → IsUnknown front k → (o : Option Extent) → o ≡ first_start list k → not_asked list (front_at o) + 1 ≤ not_asked list front
asked_less list r Before k un o is = found_less list r 0 k (omega arith) o is
asked_less list r (On a) k un o is = found_less list r (a.start + 1) k (omega arith) o is
asked_less list r (Between a None) k un o is = absurd un
asked_less list r (Between a (Some next)) k un o is = let lt = un.1 in found_less list r (next.start + 1) k (omega arith) o is
asked_less list r End k un o is = absurd un

to_asked : (list : List Extent) (front : Front) → not_asked list front ≡ not_asked list (asked_of front)
to_asked list Before = refl
to_asked list (On a) = refl
to_asked list (Between a None) = refl
to_asked list (Between a (Some next)) = refl
to_asked list End = refl

pub same_asked : (list : List Extent) (old new : Front) → asked_of new ≡ asked_of old → not_asked list new ≡ not_asked list old
same_asked list old new e = to_asked list new ∙ ap (not_asked list) e ∙ sym (to_asked list old)

-- a step back to a member that is left
pub back_asked : (list : List Extent) → IsRising list → (front : Front) (m : Extent) → Has list m → IsFrontOf list front → start_left front ≤ m.start → m.start < address_end → not_asked list (On m) ≤ not_asked list front + 1
back_asked list r Before m has is le lt = let less = less_from list 0 m has (omega arith) in omega arith
back_asked list r (On a) m has is le lt = let few = fewer_from list (a.start + 1) (m.start + 1) (omega arith) in omega arith
back_asked list r (Between a None) m has is le lt =
    let none = no_member list (m.start + 1) (none_after list r (a.start + 1) (m.start + 1) is.1 (omega arith)) in
    let few : length (members_from list (m.start + 1)) ≡ 0 = ap length none in
    omega arith
back_asked list r (Between a (Some next)) m has is le lt = elim (cases_lt m.start next.start) [
  | inl before ↦
      let more = next_member list r (m.start + 1) next (first_up_to list r (a.start + 1) (m.start + 1) next is.1 (omega arith) (omega arith)) in
      let few : length (members_from list (m.start + 1)) ≡ length (next ∷ members_from list (next.start + 1)) = ap length more in
      omega arith
  | inr behind ↦ let few = fewer_from list (next.start + 1) (m.start + 1) (omega arith) in omega arith
]
back_asked list r End m has is le lt = absurd (omega arith)

-- places that are left to the walks of a phrase
to_left : (text : Text) (tokens : List (List ℕ)) (front : Front) → places_left text tokens front ≡ places_left text tokens (asked_of front)
to_left text tokens Before = refl
to_left text tokens (On a) = refl
to_left text tokens (Between a None) = refl
to_left text tokens (Between a (Some next)) = refl
to_left text tokens End = refl

same_left : (text : Text) (tokens : List (List ℕ)) (old new : Front) → asked_of new ≡ asked_of old → places_left text tokens new ≡ places_left text tokens old
same_left text tokens old new e = to_left text tokens new ∙ ap (places_left text tokens) e ∙ sym (to_left text tokens old)

-- no tokens have no places
none_left : (text : Text) (front : Front) → places_left text [] front ≡ 0
none_left text Before = refl
none_left text (On a) = refl
none_left text (Between a None) = refl
none_left text (Between a (Some next)) = refl
none_left text End = refl

-- what is left at a front includes what is at or after any later address
left_most : (text : Text) (tokens : List (List ℕ)) (front : Front) (k : ℕ) → IsUnknown front k → fewest_between text.words tokens k text.next ≤ places_left text tokens front
left_most text tokens Before k un = fewest_between_most text.words tokens k text.next
left_most text tokens (On a) k un = fewest_between_wider text.words tokens k text.next (a.start + 1) text.next (omega arith) (le_refl text.next)
left_most text tokens (Between a None) k un = absurd un
left_most text tokens (Between a (Some next)) k un = let lt = un.1 in fewest_between_wider text.words tokens k text.next (next.start + 1) text.next (omega arith) (le_refl text.next)
left_most text tokens End k un = absurd un

-- what a walk left behind is no longer left
left_behind : (text : Text) (tokens : List (List ℕ)) (form : Form) (front : Front) (k : ℕ) → IsUnknown front k → (o : Option Extent) → o ≡ first_start (concordance text form) k →
    fewest_between text.words tokens k (walk_end text o) + places_left text tokens (front_at o) ≤ places_left text tokens front
left_behind text tokens form front k un None is = let le = left_most text tokens front k un in omega arith
left_behind text tokens form front k un (Some a) is =
    let f = found_first (λ c. c.start) (concordance text form) (concordance_rises text form) k a (sym is) in
    let far = f.far in
    let of = member_of_text text form a f.member in
    let proper = of.proper in
    let below = of.below in
    let parts = fewest_between_parts text.words tokens k (a.start + 1) text.next (omega arith) (omega arith) in
    let le = left_most text tokens front k un in
    omega arith

-- products
times_less : (p l m n o c : ℕ) → p + l ≤ m → n + 1 ≤ o → (p + 1) * c + (l + n) * c ≤ (m + o) * c
times_less p l m n o c passed le =
    let all : (p + 1 + (l + n)) * c ≤ (m + o) * c = mul-le-mul_right c (omega (arith, passed, le)) in
    omega (arith, all)

times_near : (n o c : ℕ) → n ≤ o + 1 → n * c ≤ o * c + c
times_near n o c le = omega (arith, mul-le-mul_left c le)

-- the cost by the first place and those below it
put_cost : (text : Text) (most : ℕ) (form : Form) (places below : List Place) (front : Front) → 0 < length places →
    cost_left text most form (with_front (take 1 places ++ below) front) ≡ own_left text most form front + cost_below text most form below
put_cost text most form [] below front some = absurd (omega arith)
put_cost text most form (place ∷ places) below front some = refl

-- a reader that moves among what was looked for
pub told_cost : (text : Text) (most : ℕ) (form : Form) (places : List Place) (front : Front) → 0 < length places → asked_of front ≡ asked_of (front_of places) →
    cost_left text most form (with_front places front) ≡ cost_left text most form places
told_cost text most form [] front some e = absurd (omega arith)
told_cost text most form (place ∷ places) front some e =
    ap (λ n. (n + not_asked (concordance text form) front) * member_cost text most form + cost_below text most form places) (same_left text (tokens_of form) place.front front e)
    ∙ ap (λ n. (places_left text (tokens_of form) place.front + n) * member_cost text most form + cost_below text most form places) (same_asked (concordance text form) place.front front e)

-- one that looked for the next member
pub look_cost : (text : Text) (most : ℕ) (form : Form) (places below : List Place) (k : ℕ) (o : Option Extent) → 0 < length places → IsUnknown (front_of places) k → o ≡ first_start (concordance text form) k →
    (new old : ℕ) → new + cost_below text most form below ≤ old + cost_below text most form (drop 1 places) + find_cost text most form k o →
    new + cost_left text most form (with_front (take 1 places ++ below) (front_at o)) ≤ old + cost_left text most form places
look_cost text most form places below k o some un is new old le =
    let n = asked_less (concordance text form) (concordance_rises text form) (front_of places) k un o is in
    let p = left_behind text (tokens_of form) form (front_of places) k un o is in
    let t = times_less (fewest_between text.words (tokens_of form) k (walk_end text o)) (places_left text (tokens_of form) (front_at o)) (places_left text (tokens_of form) (front_of places))
    (not_asked (concordance text form) (front_at o)) (not_asked (concordance text form) (front_of places)) (member_cost text most form) p n in
    omega (arith, put_cost text most form places below (front_at o) some)

-- a term that looked back
pub back_cost : (text : Text) (most : ℕ) (token : List ℕ) (places : List Place) (m : Extent) → 0 < length places → Has (concordance text (term token)) m → IsFrontOf (concordance text (term token)) (front_of places) →
    start_left (front_of places) ≤ m.start → m.start < address_end → cost_left text most (term token) (with_front places (On m)) ≤ cost_left text most (term token) places + most
back_cost text most token [] m some has is le lt = absurd (omega arith)
back_cost text most token (place ∷ places) m some has is le lt =
    let n = back_asked (concordance text (term token)) (concordance_rises text (term token)) place.front m has is le lt in
    let t = times_near (not_asked (concordance text (term token)) (On m)) (not_asked (concordance text (term token)) place.front) most n in
    let old : own_left text most (term token) place.front ≡ (0 + not_asked (concordance text (term token)) place.front) * most = ap (λ l. (l + not_asked (concordance text (term token)) place.front) * most) (none_left text place.front) in
    omega arith

pub asked_front : (o : Option Extent) → asked_of (front_at o) ≡ front_at o
asked_front None = refl
asked_front (Some a) = refl

-- operands
pub costs_joined : (text : Text) (most : ℕ) (exprs others : List Expr) (x : Expr) → exprs ≡ x ∷ others → (mine later : List Place) → Stands text (form_of x) mine →
    costs_left text most (operand_forms exprs) (mine ++ later) ≡ cost_left text most (form_of x) mine + costs_left text most (operand_forms others) later
costs_joined text most exprs others x e mine later s =
    ap (λ es. costs_left text most (operand_forms es) (mine ++ later)) e
    ∙ ap (λ p. cost_left text most (form_of x) p + costs_left text most (operand_forms others) (drop (nodes (form_of x)) (mine ++ later))) (take_front (nodes (form_of x)) mine later s.count)
    ∙ ap (λ p. cost_left text most (form_of x) mine + costs_left text most (operand_forms others) p) (drop_front (nodes (form_of x)) mine later s.count)

pub costs_split : (text : Text) (most : ℕ) (exprs others : List Expr) (x : Expr) → exprs ≡ x ∷ others → (places mine later : List Place) (size : ℕ) → Stands text (form_of x) mine → mine ≡ take size places → later ≡ drop size places →
    costs_left text most (operand_forms exprs) places ≡ cost_left text most (form_of x) mine + costs_left text most (operand_forms others) later
costs_split text most exprs others x e places mine later size s front back =
    ap (costs_left text most (operand_forms exprs)) (sym (ap (λ l. l ++ later) front ∙ ap (λ l. take size places ++ l) back ∙ take-append-drop size places)) ∙ costs_joined text most exprs others x e mine later s

pub count_more : (exprs others : List Expr) (x : Expr) (c : ℕ) → exprs ≡ x ∷ others → forms_count (operand_forms exprs) * c ≡ forms_count (operand_forms others) * c + c
count_more exprs others x c e = ap (λ es. forms_count (operand_forms es) * c) e ∙ plus (forms_count (operand_forms others)) c
  where
    plus : (n c : ℕ) → (n + 1) * c ≡ n * c + c
    plus n c = omega arith

-- an operand and the others, one after the other, and what an operand may take besides
two_costs : (a b c d whole after old mid new : ℕ) → whole ≡ a + b → after ≡ c + d → mid + c ≤ old + a → new + d ≤ mid + b → new + after ≤ old + whole
two_costs a b c d whole after old mid new e f le more = omega arith

more_costs : (a b c d whole after old mid new n m extra : ℕ) → whole ≡ a + b → after ≡ c + d → n ≡ m + extra → mid + c ≤ old + a + extra → new + d ≤ mid + b + m → new + after ≤ old + whole + n
more_costs a b c d whole after old mid new n m extra e f g le more = omega arith

spare_costs : (a b c d whole after old mid new n m extra : ℕ) → whole ≡ a + b → after ≡ c + d → n ≡ m + extra → mid + c ≤ old + a → new + d ≤ mid + b → new + after + extra ≤ old + whole + n
spare_costs a b c d whole after old mid new n m extra e f g le more = omega arith

tail_costs : (a b c d whole after old mid new n m extra : ℕ) → whole ≡ a + b → after ≡ c + d → n ≡ m + extra → mid + c ≤ old + a → new + d + extra ≤ mid + b + m → new + after + extra ≤ old + whole + n
tail_costs a b c d whole after old mid new n m extra e f g le more = omega arith

head_costs : (a b c d h whole after old mid rest new n m extra : ℕ) → whole ≡ a + b → after ≡ h + d → n ≡ m + extra → mid + c ≤ old + a → rest + d + extra ≤ mid + b + m → new + h ≤ rest + c + extra → new + after + extra ≤ old + whole + n
head_costs a b c d h whole after old mid rest new n m extra e f g le more last = omega arith

module _ (text : Text) (most : ℕ) (exprs others : List Expr) (x : Expr) (e : exprs ≡ x ∷ others) (places mine later : List Place) (size : ℕ) (front : mine ≡ take size places) (back : later ≡ drop size places) (s : Stands text (form_of x) mine)
    (mine_after later_after : List Place) (t : Stands text (form_of x) mine_after) (old mid new : ℕ) where
  pub chain_cost : mid + cost_left text most (form_of x) mine_after ≤ old + cost_left text most (form_of x) mine →
      new + costs_left text most (operand_forms others) later_after ≤ mid + costs_left text most (operand_forms others) later →
      new + costs_left text most (operand_forms exprs) (mine_after ++ later_after) ≤ old + costs_left text most (operand_forms exprs) places
  chain_cost le more =
      two_costs (cost_left text most (form_of x) mine) (costs_left text most (operand_forms others) later) (cost_left text most (form_of x) mine_after) (costs_left text most (operand_forms others) later_after)
      (costs_left text most (operand_forms exprs) places) (costs_left text most (operand_forms exprs) (mine_after ++ later_after)) old mid new
      (costs_split text most exprs others x e places mine later size s front back) (costs_joined text most exprs others x e mine_after later_after t) le more

  pub chain_cost_more : (extra : ℕ) → mid + cost_left text most (form_of x) mine_after ≤ old + cost_left text most (form_of x) mine + extra →
      new + costs_left text most (operand_forms others) later_after ≤ mid + costs_left text most (operand_forms others) later + forms_count (operand_forms others) * extra →
      new + costs_left text most (operand_forms exprs) (mine_after ++ later_after) ≤ old + costs_left text most (operand_forms exprs) places + forms_count (operand_forms exprs) * extra
  chain_cost_more extra le more =
      more_costs (cost_left text most (form_of x) mine) (costs_left text most (operand_forms others) later) (cost_left text most (form_of x) mine_after) (costs_left text most (operand_forms others) later_after)
      (costs_left text most (operand_forms exprs) places) (costs_left text most (operand_forms exprs) (mine_after ++ later_after)) old mid new
      (forms_count (operand_forms exprs) * extra) (forms_count (operand_forms others) * extra) extra
      (costs_split text most exprs others x e places mine later size s front back) (costs_joined text most exprs others x e mine_after later_after t) (count_more exprs others x extra e) le more

  -- the last operand takes nothing besides
  pub chain_cost_spare : (extra : ℕ) → mid + cost_left text most (form_of x) mine_after ≤ old + cost_left text most (form_of x) mine →
      new + costs_left text most (operand_forms others) later_after ≤ mid + costs_left text most (operand_forms others) later →
      new + costs_left text most (operand_forms exprs) (mine_after ++ later_after) + extra ≤ old + costs_left text most (operand_forms exprs) places + forms_count (operand_forms exprs) * extra
  chain_cost_spare extra le more =
      spare_costs (cost_left text most (form_of x) mine) (costs_left text most (operand_forms others) later) (cost_left text most (form_of x) mine_after) (costs_left text most (operand_forms others) later_after)
      (costs_left text most (operand_forms exprs) places) (costs_left text most (operand_forms exprs) (mine_after ++ later_after)) old mid new
      (forms_count (operand_forms exprs) * extra) (forms_count (operand_forms others) * extra) extra
      (costs_split text most exprs others x e places mine later size s front back) (costs_joined text most exprs others x e mine_after later_after t) (count_more exprs others x extra e) le more

  pub chain_cost_tail : (extra : ℕ) → mid + cost_left text most (form_of x) mine_after ≤ old + cost_left text most (form_of x) mine →
      new + costs_left text most (operand_forms others) later_after + extra ≤ mid + costs_left text most (operand_forms others) later + forms_count (operand_forms others) * extra →
      new + costs_left text most (operand_forms exprs) (mine_after ++ later_after) + extra ≤ old + costs_left text most (operand_forms exprs) places + forms_count (operand_forms exprs) * extra
  chain_cost_tail extra le more =
      tail_costs (cost_left text most (form_of x) mine) (costs_left text most (operand_forms others) later) (cost_left text most (form_of x) mine_after) (costs_left text most (operand_forms others) later_after)
      (costs_left text most (operand_forms exprs) places) (costs_left text most (operand_forms exprs) (mine_after ++ later_after)) old mid new
      (forms_count (operand_forms exprs) * extra) (forms_count (operand_forms others) * extra) extra
      (costs_split text most exprs others x e places mine later size s front back) (costs_joined text most exprs others x e mine_after later_after t) (count_more exprs others x extra e) le more

  -- the operand once more after the others
  pub chain_cost_back : (extra : ℕ) (between : List Place) (rest : ℕ) → mid + cost_left text most (form_of x) between ≤ old + cost_left text most (form_of x) mine →
      rest + costs_left text most (operand_forms others) later_after + extra ≤ mid + costs_left text most (operand_forms others) later + forms_count (operand_forms others) * extra →
      new + cost_left text most (form_of x) mine_after ≤ rest + cost_left text most (form_of x) between + extra →
      new + costs_left text most (operand_forms exprs) (mine_after ++ later_after) + extra ≤ old + costs_left text most (operand_forms exprs) places + forms_count (operand_forms exprs) * extra
  chain_cost_back extra between rest le more last =
      head_costs (cost_left text most (form_of x) mine) (costs_left text most (operand_forms others) later) (cost_left text most (form_of x) between) (costs_left text most (operand_forms others) later_after) (cost_left text most (form_of x) mine_after)
      (costs_left text most (operand_forms exprs) places) (costs_left text most (operand_forms exprs) (mine_after ++ later_after)) old mid rest new
      (forms_count (operand_forms exprs) * extra) (forms_count (operand_forms others) * extra) extra
      (costs_split text most exprs others x e places mine later size s front back) (costs_joined text most exprs others x e mine_after later_after t) (count_more exprs others x extra e) le more last

pub le-add : (a b c : ℕ) → a + b ≤ a + b + c
le-add a b c = omega arith

pub more_left : (old new a b extra : ℕ) → new + a ≤ old + b → new + a ≤ old + b + extra
more_left old new a b extra le = omega arith

pub without : (a b extra : ℕ) → a + extra ≤ b → a ≤ b
without a b extra le = omega arith

-- finding a member takes what its node does once, or more
once_or_more : (n m : ℕ) → m ≤ (n + 1) * m
once_or_more n m = omega arith

pub find_by : (text : Text) (most : ℕ) (e form : Form) → e ≡ form → (places after : List Place) (old new k : ℕ) (o : Option Extent) →
    new + cost_below text most form after ≤ old + cost_below text most form places + member_cost text most form → new + cost_below text most e after ≤ old + cost_below text most e places + find_cost text most e k o
find_by text most e form is places after old new k o le =
    let more = once_or_more (fewest_between text.words (tokens_of form) k (walk_end text o)) (member_cost text most form) in
    let here : new + cost_below text most form after ≤ old + cost_below text most form places + find_cost text most form k o = omega (arith, le, more) in
    subst (λ (f : Form). new + cost_below text most f after ≤ old + cost_below text most f places + find_cost text most f k o) (sym is) here

-- containments
contain_cost : (containment : Containment) (text : Text) (most : ℕ) (a b : Form) (places : List Place) →
    cost_below text most (containment_form containment a b) places + member_cost text most (containment_form containment a b) ≡ cost_left text most a (take (nodes a) places) + cost_left text most b (drop (nodes a) places)
contain_cost Containing text most a b places = omega arith
contain_cost ContainedIn text most a b places = omega arith
contain_cost NotContaining text most a b places = omega arith
contain_cost NotContainedIn text most a b places = omega arith

pub contain_costs : (containment : Containment) (text : Text) (most : ℕ) (e a b : Form) → e ≡ containment_form containment a b → (first second : List Place) → length first ≡ nodes a →
    cost_below text most e (first ++ second) + member_cost text most e ≡ cost_left text most a first + cost_left text most b second
contain_costs containment text most e a b is first second len =
    ap (λ f. cost_below text most f (first ++ second) + member_cost text most f) is
    ∙ contain_cost containment text most a b (first ++ second)
    ∙ ap (λ p. cost_left text most a p + cost_left text most b (drop (nodes a) (first ++ second))) (take_front (nodes a) first second len)
    ∙ ap (λ p. cost_left text most a first + cost_left text most b p) (drop_front (nodes a) first second len)
