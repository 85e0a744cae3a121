-- What is to come of a page and of what follows it.
use Rattle.std.proofs.Common.{◌≡◌, ℕ, ◌+◌, ◌-◌, ◌<◌, Bool, true, false, cond, List, [], ◌∷◌, ◌++◌, length, drop, take_while, inl, inr, refl, sym, ap, ◌∙◌, arith}
use Rattle.std.proofs.lemmas.Bool.{cases_Bool}
use Rattle.std.proofs.lemmas.List.{drop_more}
use Rattle.std.proofs.lemmas.List.Sums.{take_while-cons}
use Rattle.std.specs.Prelude.{slice_index_or}
use Rattle.gcl_model.proofs.Lists.{drop_here}
use Rattle.gcl_model.specs.Extents.{Extent, IsRising}

-- past the member at a place of the page are the others
past : (page rest : List Extent) (at : ℕ) → at < length page → drop (at + 1) page ++ rest ≡ drop 1 (drop at page ++ rest)
past [] rest at lt = absurd (omega arith)
past (x ∷ page) rest at lt = sym (ap (λ (l : List Extent). drop 1 (l ++ rest)) (drop_more (x ∷ page) at x lt))

taken_past : (test : Extent → Bool) (list : List Extent) → 0 < length (take_while test list) → take_while test (drop 1 list) ≡ drop 1 (take_while test list)
taken_past test [] some = absurd (omega arith)
taken_past test (x ∷ list) some =
    elim (cases_Bool (test x)) [
      | inl t ↦ sym (ap (drop 1) (take_while-cons test x list ∙ ap (λ (b : Bool). cond b (x ∷ take_while test list) []) t))
      | inr f ↦
          let none : length (take_while test (x ∷ list)) ≡ length {A = Extent} [] = ap length (take_while-cons test x list ∙ ap (λ (b : Bool). cond b (x ∷ take_while test list) []) f) in
          absurd (omega arith)
    ]

-- and so it is of those up to the first that fails a test
pub past_first : (test : Extent → Bool) (page rest : List Extent) (at : ℕ) → at < length page → 0 < length (take_while test (drop at page ++ rest))
    → take_while test (drop (at + 1) page ++ rest) ≡ drop 1 (take_while test (drop at page ++ rest))
past_first test page rest at lt some = ap (λ (l : List Extent). take_while test l) (past page rest at lt) ∙ taken_past test (drop at page ++ rest) some

-- the member at a place of the page is the first, if there is one
module _ (test : Extent → Bool) (page rest list : List Extent) (at : ℕ) (m : Extent) (lt : at < length page) (is : m ≡ slice_index_or page at m) (same : drop at page ++ rest ≡ list) where
  here : list ≡ m ∷ (drop (at + 1) page ++ rest)
  here = sym same ∙ ap (λ (l : List Extent). l ++ rest) (drop_here page at m lt is)

  taken_by : (passes : Bool) → test m ≡ passes → take_while test list ≡ cond passes (m ∷ take_while test (drop (at + 1) page ++ rest)) []
  taken_by passes t =
      ap (λ (l : List Extent). take_while test l) here
      ∙ take_while-cons test m (drop (at + 1) page ++ rest)
      ∙ ap (λ (b : Bool). cond b (m ∷ take_while test (drop (at + 1) page ++ rest)) []) t

  pub first_taken : test m ≡ true → take_while test list ≡ m ∷ drop 1 (take_while test list)
  first_taken t = taken_by true t ∙ ap (λ (l : List Extent). m ∷ drop 1 l) (sym (taken_by true t))

  pub none_taken : test m ≡ false → take_while test list ≡ []
  none_taken f = taken_by false f

-- what comes after the first member rises
pub rest_rises : (list : List Extent) → IsRising list → IsRising (drop 1 list)
rest_rises [] r = tt
rest_rises (x ∷ list) r = r.1

pub length_rest : (list : List Extent) → length (drop 1 list) ≡ length list - 1
length_rest [] = refl
length_rest (x ∷ list) = omega arith
