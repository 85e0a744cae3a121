-- What an access found holds until it is passed.
use Rattle.std.proofs.Common.{◌≡◌, ℕ, zero, suc, ◌<◌, ◌≤◌, Bool, true, false, ◌&&◌, cond, ltb, List, [], ◌∷◌, length, get_or, set, replicate, Option, Some, None, IfSome, refl, sym, ap, ◌∙◌, subst, arith, find, inl, inr}
use Rattle.std.proofs.lemmas.Bool.{leb-true, le-leb, cases_Bool, true≢false, and_parts, cond_both, cases_eq, cases_lt}
use Rattle.std.proofs.lemmas.List.{set_past, get_or-set_other, get_or-replicate, get_or_past, length-replicate}
use Rattle.std.proofs.lemmas.Grind.{get_or-set_at}
use Rattle.gcl_model.specs.Extents.{Extent}
use Rattle.gcl_model.specs.declared.expr.Expr.{Expr}
use Rattle.gcl_model.specs.Texts.{Text}
use Rattle.gcl_model.specs.Forms.{Form, term, phrase, width, both, one, seq, containing, contained_in, not_containing, not_contained_in}
use Rattle.gcl_model.specs.FormOf.{form_of, containment_form}
use Rattle.gcl_model.specs.Meaning.{concordance, operands}
use Rattle.gcl_eval.specs.Operands.{operand_lists}
use Rattle.gcl_model.specs.Limits.{address_end}
use Rattle.gcl_model.specs.Access.{find_last, later_or}
use Rattle.gcl_combine.specs.Better.{nearer}
use Rattle.gcl_eval.specs.Containments.{IsContainment, asks}
use Rattle.gcl_eval.specs.Directions.{access_of, direction_of}
use Rattle.gcl_model.specs.declared.containment.Containment.{Containment}
use Rattle.gcl_model.specs.declared.containment.Containment.TheVariants.{Containing, ContainedIn, NotContaining, NotContainedIn}
use Rattle.gcl_model.specs.declared.direction.Direction.{Direction}
use Rattle.gcl_model.specs.declared.direction.Direction.TheVariants.{Forward}
use Rattle.gcl_eval.specs.KnownAnswers.{goes_on, lies_beyond, stays, told, IsAnswer, IsKnown, AreKnown, KnowsSecond, KnowsRun, KnowsOperands}
use Rattle.gcl_eval.specs.declared.direction.Access.{Access}
use Rattle.gcl_eval.specs.declared.direction.Access.TheVariants.{FirstStart, FirstEnd, LastEnd, LastStart}
use Rattle.gcl_eval.specs.declared.known.Known.{Known}

-- the member that was found passes the test, too
abbrev passes : (Extent → Bool) → Option Extent → Bool
passes q None = true
passes q (Some a) = q a

-- if one test says yes, so does the other
abbrev IsNarrower : (q p : Extent → Bool) → Type 0
IsNarrower q p = (a : Extent) → q a ≡ true → p a ≡ true

module _ (p q : Extent → Bool) (narrower : IsNarrower q p) where
  no_more : (a : Extent) → p a ≡ false → q a ≡ false
  no_more a f = elim (cases_Bool (q a)) [ inl t ↦ absurd (true≢false (sym (narrower a t) ∙ f)) | inr g ↦ g ]

  find_narrower : (list : List Extent) (o : Option Extent) → o ≡ find p list → passes q o ≡ true → o ≡ find q list
  find_narrower [] o is passed = is
  find_narrower (x ∷ xs) o is passed =
      elim (cases_Bool (p x)) [
        | inl t ↦
            let same : o ≡ Some x = rw t at is in
            let here : q x ≡ true = subst (λ a. passes q a ≡ true) same passed in
            rw here same
        | inr f ↦ let later : o ≡ find p xs = rw f at is in rw (no_more x f) (find_narrower xs o later passed)
      ]

  last_step : (x : Extent) (r s o : Option Extent) → (passes q r ≡ true → r ≡ s) → o ≡ later_or r (cond (p x) (Some x) None) → passes q o ≡ true → o ≡ later_or s (cond (q x) (Some x) None)
  last_step x (Some y) s o same is passed =
      let found : Some y ≡ s = same (subst (λ a. passes q a ≡ true) is passed) in
      is ∙ ap (λ t. later_or t (cond (q x) (Some x) None)) found
  last_step x None s o same is passed =
      let none : None ≡ s = same refl in
      subst (λ t. o ≡ later_or t (cond (q x) (Some x) None)) none
      (elim (cases_Bool (p x)) [
        | inl t ↦
            let found : o ≡ Some x = rw t at is in
            let here : q x ≡ true = subst (λ a. passes q a ≡ true) found passed in
            rw here found
        | inr f ↦ let gone : o ≡ None = rw f at is in rw (no_more x f) gone
      ])

  find_last_narrower : (list : List Extent) (o : Option Extent) → o ≡ find_last p list → passes q o ≡ true → o ≡ find_last q list
  find_last_narrower [] o is passed = is
  find_last_narrower (x ∷ xs) o is passed = last_step x (find_last p xs) (find_last q xs) o (find_last_narrower xs (find_last p xs) refl) is passed

-- the access finds at k what it found at the place before
ahead : (access : Access) (at k : ℕ) → goes_on access at k ≡ true → (a : Extent) → lies_beyond access k a ≡ true → lies_beyond access at a ≡ true
ahead FirstStart at k goes a t = let on : at ≤ k = leb-true at k goes in let here : k ≤ a.start = leb-true k a.start t in le-leb at a.start (omega arith)
ahead FirstEnd at k goes a t = let on : at ≤ k = leb-true at k goes in let here : k ≤ a.end = leb-true k a.end t in le-leb at a.end (omega arith)
ahead LastEnd at k goes a t = let on : k ≤ at = leb-true k at goes in let here : a.end ≤ k = leb-true a.end k t in le-leb a.end at (omega arith)
ahead LastStart at k goes a t = let on : k ≤ at = leb-true k at goes in let here : a.start ≤ k = leb-true a.start k t in le-leb a.start at (omega arith)

passes_it : (access : Access) (k : ℕ) (o : Option Extent) → stays access o k ≡ true → passes (lies_beyond access k) o ≡ true
passes_it access k None t = refl
passes_it access k (Some a) t = t

finds : (access : Access) (list : List Extent) (at k : ℕ) (o : Option Extent) → goes_on access at k ≡ true → passes (lies_beyond access k) o ≡ true → o ≡ access_of access list at → o ≡ access_of access list k
finds FirstStart list at k o goes passed is = find_narrower (lies_beyond FirstStart at) (lies_beyond FirstStart k) (ahead FirstStart at k goes) list o is passed
finds FirstEnd list at k o goes passed is = find_narrower (lies_beyond FirstEnd at) (lies_beyond FirstEnd k) (ahead FirstEnd at k goes) list o is passed
finds LastEnd list at k o goes passed is = find_last_narrower (lies_beyond LastEnd at) (lies_beyond LastEnd k) (ahead LastEnd at k goes) list o is passed
finds LastStart list at k o goes passed is = find_last_narrower (lies_beyond LastStart at) (lies_beyond LastStart k) (ahead LastStart at k goes) list o is passed

pub told_is : (access : Access) (list : List Extent) (known : Option Known) → IsKnown access list known → (k : ℕ) (o : Option Extent) → Some o ≡ told access known k → (o ≡ access_of access list k) × IfSome o (λ a. a.end < address_end)
told_is access list None answer k o is = absurd cc
told_is access list (Some known) answer k o is =
    elim (cases_Bool (goes_on access known.at k && stays access known.answer k)) [
      | inl t ↦
          let a : IsAnswer access list known = answer in
          let same : o ≡ known.answer = let h = rw t at is in cc in
          let parts = and_parts (goes_on access known.at k) (stays access known.answer k) t in
          (same ∙ finds access list known.at k known.answer parts.0 (passes_it access k known.answer parts.1) a.found, subst (λ p. IfSome p (λ a. a.end < address_end)) (sym same) a.within)
      | inr f ↦ let h = rw f at is in absurd cc
    ]

-- one answer more is known
pub known_kept : (lists : List (List Extent)) (known : List (Option Known)) → AreKnown lists known → (i : ℕ) (last : Option Known) → IsKnown FirstStart (get_or lists i []) last → AreKnown lists (set known i last)
known_kept lists known are i last is j =
    elim (cases_eq j i) [
      | inl same ↦ elim (cases_lt i (length known)) [
        | inl lt ↦ subst (λ o. IsKnown FirstStart (get_or lists j []) o) (sym (get_or-set_at known i j last None same lt)) (subst (λ n. IsKnown FirstStart (get_or lists n []) last) (sym same) is)
        | inr ge ↦ subst (λ ks. IsKnown FirstStart (get_or lists j []) (get_or ks j None)) (sym (set_past known i last ge)) (are j)
      ]
      | inr other ↦ subst (λ o. IsKnown FirstStart (get_or lists j []) o) (sym (get_or-set_other known i j last None other)) (are j)
    ]

none_known : (n i : ℕ) → get_or (replicate {A = Option Known} n None) i None ≡ None
none_known n i = elim (cases_lt i n) [ inl lt ↦ get_or-replicate n i None None lt | inr ge ↦ get_or_past (replicate n None) i None (omega (arith, length-replicate {A = Option Known} n None)) ]

-- nothing is known yet
pub nothing_known : (lists : List (List Extent)) (n : ℕ) → AreKnown lists (replicate n None)
nothing_known lists n i = subst (λ o. IsKnown FirstStart (get_or lists i []) o) (sym (none_known n i)) tt

-- the list of the operand with a number
pub operand_list_at : (text : Text) (exprs : List Expr) (i : ℕ) (x : Expr) → i < length exprs → x ≡ get_or exprs i x → get_or (operand_lists text exprs) i [] ≡ concordance text (form_of x)
operand_list_at text [] i x lt is = absurd (omega arith)
operand_list_at text (y ∷ ys) zero x lt is = ap (λ e. concordance text (form_of e)) (sym is)
operand_list_at text (y ∷ ys) (suc i) x lt is = operand_list_at text ys i x (omega arith) is

-- nothing is known yet of the second operand of a containment
pub second_unknown : (direction : Direction) (text : Text) (form : Form) → KnowsSecond direction text form None
second_unknown direction text (term t) = tt
second_unknown direction text (phrase ts) = tt
second_unknown direction text (width w) = tt
second_unknown direction text (both fs) = tt
second_unknown direction text (seq fs) = tt
second_unknown direction text (one fs) = tt
second_unknown direction text (containing a b) = tt
second_unknown direction text (contained_in a b) = tt
second_unknown direction text (not_containing a b) = tt
second_unknown direction text (not_contained_in a b) = tt

-- nothing is known yet of any operand
pub none_is_known : (n : ℕ) (text : Text) (form : Form) → KnowsOperands text form (replicate n None)
none_is_known n text (one fs) = nothing_known (operands text fs) n
none_is_known n text (term t) = subst (λ o. KnowsSecond Forward text (term t) o) (sym (none_known n 0)) (second_unknown Forward text (term t))
none_is_known n text (phrase ts) = subst (λ o. KnowsRun text ts o) (sym (none_known n 0)) tt
none_is_known n text (width w) = subst (λ o. KnowsSecond Forward text (width w) o) (sym (none_known n 0)) (second_unknown Forward text (width w))
none_is_known n text (both fs) = subst (λ o. KnowsSecond Forward text (both fs) o) (sym (none_known n 0)) (second_unknown Forward text (both fs))
none_is_known n text (seq fs) = subst (λ o. KnowsSecond Forward text (seq fs) o) (sym (none_known n 0)) (second_unknown Forward text (seq fs))
none_is_known n text (containing a b) = subst (λ o. KnowsSecond Forward text (containing a b) o) (sym (none_known n 0)) (second_unknown Forward text (containing a b))
none_is_known n text (contained_in a b) = subst (λ o. KnowsSecond Forward text (contained_in a b) o) (sym (none_known n 0)) (second_unknown Forward text (contained_in a b))
none_is_known n text (not_containing a b) = subst (λ o. KnowsSecond Forward text (not_containing a b) o) (sym (none_known n 0)) (second_unknown Forward text (not_containing a b))
none_is_known n text (not_contained_in a b) = subst (λ o. KnowsSecond Forward text (not_contained_in a b) o) (sym (none_known n 0)) (second_unknown Forward text (not_contained_in a b))

-- of a containment, what is known is that of its second operand
pub knows_second : (text : Text) (form : Form) (known : List (Option Known)) → IsContainment form → KnowsOperands text form known → KnowsSecond Forward text form (get_or known 0 None)
knows_second text (term t) known is knows = absurd is
knows_second text (phrase ts) known is knows = absurd is
knows_second text (width w) known is knows = absurd is
knows_second text (both fs) known is knows = absurd is
knows_second text (seq fs) known is knows = absurd is
knows_second text (one fs) known is knows = absurd is
knows_second text (containing a b) known is knows = knows
knows_second text (contained_in a b) known is knows = knows
knows_second text (not_containing a b) known is knows = knows
knows_second text (not_contained_in a b) known is knows = knows

pub second_is_kept : (text : Text) (form : Form) (known : List (Option Known)) → IsContainment form → (last : Option Known) → KnowsSecond Forward text form last → KnowsOperands text form (set known 0 last)
second_is_kept text (term t) known is last knows = absurd is
second_is_kept text (phrase ts) known is last knows = absurd is
second_is_kept text (width w) known is last knows = absurd is
second_is_kept text (both fs) known is last knows = absurd is
second_is_kept text (seq fs) known is last knows = absurd is
second_is_kept text (one fs) known is last knows = absurd is
second_is_kept text (containing a b) [] is last knows = second_unknown Forward text (containing a b)
second_is_kept text (containing a b) (x ∷ xs) is last knows = knows
second_is_kept text (contained_in a b) [] is last knows = second_unknown Forward text (contained_in a b)
second_is_kept text (contained_in a b) (x ∷ xs) is last knows = knows
second_is_kept text (not_containing a b) [] is last knows = second_unknown Forward text (not_containing a b)
second_is_kept text (not_containing a b) (x ∷ xs) is last knows = knows
second_is_kept text (not_contained_in a b) [] is last knows = second_unknown Forward text (not_contained_in a b)
second_is_kept text (not_contained_in a b) (x ∷ xs) is last knows = knows

-- by its kind and its operands
second_of : (direction : Direction) (containment : Containment) (text : Text) (a b : Form) (known : Option Known) → KnowsSecond direction text (containment_form containment a b) known → IsKnown (asks direction containment) (concordance text b) known
second_of direction Containing text a b known knows = knows
second_of direction ContainedIn text a b known knows = knows
second_of direction NotContaining text a b known knows = knows
second_of direction NotContainedIn text a b known knows = knows

of_second : (direction : Direction) (containment : Containment) (text : Text) (a b : Form) (known : Option Known) → IsKnown (asks direction containment) (concordance text b) known → KnowsSecond direction text (containment_form containment a b) known
of_second direction Containing text a b known knows = knows
of_second direction ContainedIn text a b known knows = knows
of_second direction NotContaining text a b known knows = knows
of_second direction NotContainedIn text a b known knows = knows

module _ (direction : Direction) (way : Access) (same : direction ≡ direction_of way) (containment : Containment) (text : Text) (e a b : Form) (is : e ≡ containment_form containment a b) (known : Option Known) where
  pub asked_second : KnowsSecond (direction_of way) text e known → IsKnown (asks direction containment) (concordance text b) known
  asked_second knows = second_of direction containment text a b known (subst (λ d. KnowsSecond d text (containment_form containment a b) known) (sym same) (subst (λ f. KnowsSecond (direction_of way) text f known) is knows))

  pub kept_second : (asked : Access) → asked ≡ asks direction containment → IsKnown asked (concordance text b) known → KnowsSecond (direction_of way) text e known
  kept_second asked by knows =
      subst (λ f. KnowsSecond (direction_of way) text f known) (sym is) (subst (λ d. KnowsSecond d text (containment_form containment a b) known) same
      (of_second direction containment text a b known (subst (λ x. IsKnown x (concordance text b) known) by knows)))

-- the best of two answers within the addresses is one
pub nearer_within : (a b : Option Extent) → IfSome a (λ c. c.end < address_end) → IfSome b (λ c. c.end < address_end) → IfSome (nearer a b) (λ c. c.end < address_end)
nearer_within None b p q = q
nearer_within (Some a) None p q = p
nearer_within (Some a) (Some b) p q =
    let within = λ (o : Option Extent). IfSome o (λ c. c.end < address_end) in
    cond_both (ltb a.end b.end) (Some a) (cond (ltb b.end a.end) (Some b) (cond (ltb a.start b.start) (Some b) (Some a))) within (λ _. p)
    (λ _. cond_both (ltb b.end a.end) (Some b) (cond (ltb a.start b.start) (Some b) (Some a)) within (λ _. q) (λ _. cond_both (ltb a.start b.start) (Some b) (Some a) within (λ _. q) (λ _. p)))
