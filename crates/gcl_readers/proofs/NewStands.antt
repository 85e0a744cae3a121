-- New readers stand.
use Rattle.std.proofs.Common.{◌≡◌, ℕ, ◌+◌, ◌-◌, List, [], ◌∷◌, ◌++◌, length, take, drop, set, refl, sym, ap, ◌∙◌, subst, arith, Option, Some, None, IfSome, inl, append_assoc}
use Rattle.std.proofs.lemmas.List.{length-append}
use Rattle.gcl_model.specs.declared.expr.Expr.{Expr}
use Rattle.gcl_model.specs.FormOf.{form_of}
use Rattle.gcl_model.specs.Extents.{Extent}
use Rattle.gcl_model.specs.Texts.{Text}
use Rattle.gcl_model.specs.Forms.{Form, Forms, term, phrase, width, both, one, seq, containing, contained_in, not_containing, not_contained_in, no_forms, more_forms}
use Rattle.gcl_model.specs.Meaning.{concordance, operands}
use Rattle.gcl_eval.specs.Operands.{operand_forms}
use Rattle.gcl_readers.specs.declared.front.Place.{Place}
use Rattle.gcl_readers.specs.Agreement.{AllAnswerFrom, AllAnswerOrEnd, AllAnswerInOrder, AnswersFrom, AnswersByEnds}
use Rattle.gcl_model.specs.Access.{first_start}
use Rattle.gcl_readers.specs.declared.front.Front.TheVariants.{Before}
use Rattle.gcl_readers.specs.Standing.{nodes, nodes_of, Stands, StandsOver, StandBelow, AllStand, Tell, AnswerByStarts, AnswerByEnds, start_at, starts_at}
use Rattle.gcl_readers.specs.NewPlaces.{place_before, new_places, new_places_below, new_places_of}
use Rattle.gcl_readers.proofs.Members.{agrees_by_ends}
use Rattle.gcl_readers.proofs.Answers.{answers_behind}
use Rattle.gcl_readers.proofs.Standings.{take_front, drop_front, first_joined, starts_joined}

mutual
  len_below : (form : Form) → length (new_places_below form) + 1 ≡ nodes form
  len_below (term token) = refl
  len_below (phrase tokens) = refl
  len_below (width n) = refl
  len_below (both forms) = ap (λ n. n + 1) (len_of forms)
  len_below (one forms) = ap (λ n. n + 1) (len_of forms)
  len_below (seq forms) = ap (λ n. n + 1) (len_of forms)
  len_below (containing a b) = omega (arith, length-append (new_places a) (new_places b), len_below a, len_below b)
  len_below (contained_in a b) = omega (arith, length-append (new_places a) (new_places b), len_below a, len_below b)
  len_below (not_containing a b) = omega (arith, length-append (new_places a) (new_places b), len_below a, len_below b)
  len_below (not_contained_in a b) = omega (arith, length-append (new_places a) (new_places b), len_below a, len_below b)

  len_of : (forms : Forms) → length (new_places_of forms) ≡ nodes_of forms
  len_of no_forms = refl
  len_of (more_forms form forms) = omega (arith, length-append (new_places form) (new_places_of forms), len_below form, len_of forms)

pub len_new : (form : Form) → length (new_places form) ≡ nodes form
len_new form = omega (arith, len_below form)

answers_all : (list : List Extent) → AnswersFrom list 0 0
answers_all list = answers_behind list 0 0 (omega arith)

ends_all : (list : List Extent) → AnswersByEnds list 0 0
ends_all list = λ j from. agrees_by_ends list 0 j (λ c m far. omega arith)

zeros : Forms → List ℕ
zeros no_forms = []
zeros (more_forms form forms) = 0 ∷ zeros forms

starts_new : (forms : Forms) → starts_at forms (new_places_of forms) ≡ zeros forms
unfolding zeros
starts_new no_forms = refl
starts_new (more_forms form forms) = starts_joined form forms (new_places form) (new_places_of forms) (len_new form) ∙ ap (λ xs. 0 ∷ xs) (starts_new forms)

all_answer : (text : Text) (forms : Forms) → AllAnswerFrom (operands text forms) (zeros forms) 0
unfolding zeros
all_answer text no_forms = tt
all_answer text (more_forms form forms) = (answers_all (concordance text form), all_answer text forms)

all_or_end : (text : Text) (forms : Forms) → AllAnswerOrEnd (operands text forms) (zeros forms) 0 0
unfolding zeros
all_or_end text no_forms = tt
all_or_end text (more_forms form forms) = (λ j from. inl (answers_all (concordance text form) j from), all_or_end text forms)

each_in_order : (lists : List (List Extent)) (xs : List ℕ) (o : Option Extent) → ((k : ℕ) → AllAnswerInOrder lists xs k) → IfSome o (λ a. AllAnswerInOrder lists xs (a.end + 1))
each_in_order lists xs None all = tt
each_in_order lists xs (Some a) all = all (a.end + 1)

in_order : (text : Text) (forms : Forms) (k : ℕ) → AllAnswerInOrder (operands text forms) (zeros forms) k
unfolding zeros
in_order text no_forms k = tt
in_order text (more_forms form forms) k = (λ j from. answers_all (concordance text form) j (omega arith), λ j from. each_in_order (operands text forms) (zeros forms) (first_start (concordance text form) j) (in_order text forms))

two_starts : (a b : Form) → start_at (take (nodes a) (new_places a ++ new_places b)) ≡ 0
two_starts a b = ap start_at (take_front (nodes a) (new_places a) (new_places b) (len_new a))

two_ends : (a b : Form) → start_at (drop (nodes a) (new_places a ++ new_places b)) ≡ 0
two_ends a b = ap start_at (drop_front (nodes a) (new_places a) (new_places b) (len_new a))

by_starts : (text : Text) (a b : Form) → AnswerByStarts text a b (new_places a ++ new_places b) None
by_starts text a b =
    (subst (λ x. AnswersFrom (concordance text a) x 0) (sym (two_starts a b)) (answers_all (concordance text a)), subst (λ x. AnswersFrom (concordance text b) x 0) (sym (two_ends a b)) (answers_all (concordance text b)))

by_ends : (text : Text) (a b : Form) → AnswerByEnds text a b (new_places a ++ new_places b) None
by_ends text a b =
    (subst (λ x. AnswersFrom (concordance text a) x 0) (sym (two_starts a b)) (answers_all (concordance text a)), subst (λ x. AnswersByEnds (concordance text b) x 0) (sym (two_ends a b)) (ends_all (concordance text b)))

tell_new : (text : Text) (form : Form) → Tell text form Before (new_places_below form)
tell_new text (term token) = tt
tell_new text (phrase tokens) = tt
tell_new text (width n) = refl
tell_new text (both forms) = subst (λ xs. AllAnswerOrEnd (operands text forms) xs 0 0) (sym (starts_new forms)) (all_or_end text forms)
tell_new text (one forms) = subst (λ xs. AllAnswerFrom (operands text forms) xs 0) (sym (starts_new forms)) (all_answer text forms)
tell_new text (seq forms) = subst (λ xs. AllAnswerInOrder (operands text forms) xs 0) (sym (starts_new forms)) (in_order text forms 0)
tell_new text (containing a b) = by_starts text a b
tell_new text (contained_in a b) = by_ends text a b
tell_new text (not_containing a b) = by_starts text a b
tell_new text (not_contained_in a b) = by_ends text a b

over_new : (text : Text) (form : Form) (under : Type 0) → under → StandsOver text form (new_places form) under
over_new text form under u = record { count = len_new form; size = refl; front = tt; tells = tell_new text form; below = u }

two_stand : (text : Text) (a b : Form) → Stands text a (new_places a) → Stands text b (new_places b) →
    StandsOver text a (take (nodes a) (new_places a ++ new_places b)) (StandBelow text a (drop 1 (take (nodes a) (new_places a ++ new_places b))))
    × StandsOver text b (drop (nodes a) (new_places a ++ new_places b)) (StandBelow text b (drop 1 (drop (nodes a) (new_places a ++ new_places b))))
two_stand text a b s t =
    (subst (Stands text a) (sym (take_front (nodes a) (new_places a) (new_places b) (len_new a))) s, subst (Stands text b) (sym (drop_front (nodes a) (new_places a) (new_places b) (len_new a))) t)

mutual
  below_new : (text : Text) (form : Form) → StandBelow text form (new_places_below form)
  below_new text (term token) = tt
  below_new text (phrase tokens) = tt
  below_new text (width n) = tt
  below_new text (both forms) = all_new text forms
  below_new text (one forms) = all_new text forms
  below_new text (seq forms) = all_new text forms
  below_new text (containing a b) = two_stand text a b (over_new text a (StandBelow text a (new_places_below a)) (below_new text a)) (over_new text b (StandBelow text b (new_places_below b)) (below_new text b))
  below_new text (contained_in a b) = two_stand text a b (over_new text a (StandBelow text a (new_places_below a)) (below_new text a)) (over_new text b (StandBelow text b (new_places_below b)) (below_new text b))
  below_new text (not_containing a b) = two_stand text a b (over_new text a (StandBelow text a (new_places_below a)) (below_new text a)) (over_new text b (StandBelow text b (new_places_below b)) (below_new text b))
  below_new text (not_contained_in a b) = two_stand text a b (over_new text a (StandBelow text a (new_places_below a)) (below_new text a)) (over_new text b (StandBelow text b (new_places_below b)) (below_new text b))

  all_new : (text : Text) (forms : Forms) → AllStand text forms (new_places_of forms)
  all_new text no_forms = tt
  all_new text (more_forms form forms) = first_joined text form forms (new_places form) (new_places_of forms) (over_new text form (StandBelow text form (new_places_below form)) (below_new text form)) (all_new text forms)

pub stands_new : (text : Text) (form : Form) → Stands text form (new_places form)
stands_new text form = over_new text form (StandBelow text form (new_places_below form)) (below_new text form)

-- a place in the middle is put right
pub set_between : (xs ys : List Place) (p q : Place) → set ((xs ++ p ∷ []) ++ ys) (length xs) q ≡ xs ++ q ∷ ys
set_between [] ys p q = refl
set_between (x ∷ xs) ys p q = ap (λ l. x ∷ l) (set_between xs ys p q)

-- the place of a node gets its size once those below it are put
pub put_right : (old pushed all : List Place) (form : Form) (p : Place) (at len : ℕ) → pushed ≡ old ++ p ∷ [] → all ≡ pushed ++ new_places_below form → at ≡ length old → len ≡ length all →
    set all at (place_before (len - at)) ≡ old ++ new_places form
put_right old pushed all form p at len is there from to =
    let whole : all ≡ (old ++ p ∷ []) ++ new_places_below form = there ∙ ap (λ l. l ++ new_places_below form) is in
    let size : len - at ≡ nodes form = omega (arith, ap length whole, length-append (old ++ p ∷ []) (new_places_below form), length-append old (p ∷ []), len_below form) in
    ap (λ n. set all at (place_before n)) size
    ∙ ap (λ n. set all n (place_before (nodes form))) from
    ∙ ap (λ l. set l (length old) (place_before (nodes form))) whole
    ∙ set_between old (new_places_below form) p (place_before (nodes form))

-- the places of one node more
pub put_more : (old new all : List Place) (exprs others : List Expr) (x : Expr) → exprs ≡ x ∷ others → new ≡ old ++ new_places (form_of x) → old ++ new_places_of (operand_forms exprs) ≡ all → new ++ new_places_of (operand_forms others) ≡ all
put_more old new all exprs others x e is kept =
    ap (λ (l : List Place). l ++ new_places_of (operand_forms others)) is
    ∙ append_assoc old (new_places (form_of x)) (new_places_of (operand_forms others))
    ∙ sym (ap (λ (es : List Expr). old ++ new_places_of (operand_forms es)) e)
    ∙ kept
