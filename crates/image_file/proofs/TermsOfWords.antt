-- The terms of some words, made starting at the last word, are their terms, and there are no others.
use Rattle.std.proofs.Common.{◌≡◌, ℕ, ◌+◌, ◌<◌, ◌≤◌, Bool, true, false, ◌||◌, List, [], ◌∷◌, length, map, bytes_eq, nat_cmp, Ordering, inl, inr, refl, sym, ap, ◌∙◌, subst, arith}
use Rattle.std.specs.declared.cmp.Ordering.TheVariants.{Less, Equal, Greater}
use Rattle.std.specs.Cmp.Lexicographic.{slice_cmp}
use Rattle.std.specs.List.{AllByRecursion, list_any}
use Rattle.std.proofs.lemmas.Bool.{cases_Bool}
use Rattle.std.proofs.lemmas.Cmp.{nat_list_cmp_total}
use Rattle.std.proofs.lemmas.List.{length-map}
use Rattle.std.proofs.lemmas.Map.Lookups.{exact_bytes}
use Rattle.std.proofs.lemmas.Slice.Eq.{bytes_eq-Decides}
use Rattle.gcl_model.specs.Texts.{Word, places}
use Rattle.gcl_model.proofs.Lists.{all_map, all_weaker}
use Rattle.gcl_model.proofs.Cases.{or_swap}
use Rattle.index_shard.specs.Tables.{TermEntry, ComesBefore, postings_of}
use Rattle.live_version.specs.Terms.{has_term as is_among}
use Rattle.image_file.specs.Images.{AreTermsOf, TermsRise, term_of, terms_of, token_by, tokens_in_order, with_token}
use Rattle.image_file.proofs.TermTables.{one_table, reversed}

-- what holds of a token and of others holds of all of them together
all_with : (P : List ℕ → Type 0) (t : List ℕ) (ts : List (List ℕ)) → P t → AllByRecursion P ts → AllByRecursion P (with_token t ts)
all_with P t [] here all = (here, tt)
all_with P t (u ∷ us) here all = by_order (slice_cmp nat_cmp t u) (with_token t us) (all_with P t us here all.1)
  where
    by_order : (o : Ordering) (rest : List (List ℕ)) → AllByRecursion P rest → AllByRecursion P (token_by o t u us rest)
    by_order Less rest later = (here, all)
    by_order Equal rest later = all
    by_order Greater rest later = (all.0, later)

-- and the other way
record HoldsBoth (P : List ℕ → Type 0) (t : List ℕ) (ts : List (List ℕ)) : Type 0 where
  here : P t
  rest : AllByRecursion P ts

with_all : (P : List ℕ → Type 0) (t : List ℕ) (ts : List (List ℕ)) → AllByRecursion P (with_token t ts) → HoldsBoth P t ts
with_all P t [] all = record { here = all.0; rest = tt }
with_all P t (u ∷ us) all = by_order (slice_cmp nat_cmp t u) refl (with_token t us) (λ later. with_all P t us later) all
  where
    by_order : (o : Ordering) → slice_cmp nat_cmp t u ≡ o → (rest : List (List ℕ)) → (AllByRecursion P rest → HoldsBoth P t us) → AllByRecursion P (token_by o t u us rest) → HoldsBoth P t (u ∷ us)
    by_order Less is rest later all = record { here = all.0; rest = all.1 }
    by_order Equal is rest later all = record { here = subst P (sym (exact_bytes t u is)) all.0; rest = all }
    by_order Greater is rest later all = let both = later all.1 in record { here = both.here; rest = (all.0, both.rest) }

abbrev AllLater : List ℕ → List (List ℕ) → Type 0
AllLater t ts = AllByRecursion (λ u. ComesBefore t u) ts

abbrev TokensRise : List (List ℕ) → Type 0
TokensRise [] = Unit {0}
TokensRise (t ∷ ts) = AllLater t ts × TokensRise ts

later_earlier : (a b : List ℕ) (ts : List (List ℕ)) → ComesBefore a b → AllLater b ts → AllLater a ts
later_earlier a b ts before all = all_weaker (λ (t : List ℕ). ComesBefore b t) (λ (t : List ℕ). ComesBefore a t) (λ t is. nat_list_cmp_total.trans a b t before is) ts all

with_rises : (t : List ℕ) (ts : List (List ℕ)) → TokensRise ts → TokensRise (with_token t ts)
with_rises t [] rise = (tt, tt)
with_rises t (u ∷ us) rise = by_order (slice_cmp nat_cmp t u) refl (with_token t us) (with_rises t us rise.1) (λ before. all_with (ComesBefore u) t us before rise.0)
  where
    by_order : (o : Ordering) → slice_cmp nat_cmp t u ≡ o → (rest : List (List ℕ)) → TokensRise rest → (ComesBefore u t → AllLater u rest) → TokensRise (token_by o t u us rest)
    by_order Less is rest later all = ((is, later_earlier t u us is rise.0), rise)
    by_order Equal is rest later all = rise
    by_order Greater is rest later all = (all (reversed t u is), later)

order_rises : (words : List Word) → TokensRise (tokens_in_order words)
order_rises [] = tt
order_rises (w ∷ words) = with_rises w.token (tokens_in_order words) (order_rises words)

terms_rise : (words : List Word) (ts : List (List ℕ)) → TokensRise ts → TermsRise (map (term_of words) ts)
terms_rise words [] rise = tt
terms_rise words (t ∷ ts) rise = (all_map (λ (e : TermEntry). ComesBefore t e.term) (term_of words) ts rise.0, terms_rise words ts rise.1)

found : (words : List Word) (ts : List (List ℕ)) (t : List ℕ) → is_among ts t ≡ true → postings_of (map (term_of words) ts) t ≡ places words t
found words [] t is = absurd cc
found words (u ∷ us) t is = elim (cases_Bool (bytes_eq u t)) [
  | inl h ↦ let same : u ≡ t = (bytes_eq-Decides u t).0 h in rw h (ap (places words) same)
  | inr h ↦ rw h (found words us t (let is = rw h at is in is))
]

missed : (words : List Word) (ts : List (List ℕ)) (t : List ℕ) → is_among ts t ≡ false → postings_of (map (term_of words) ts) t ≡ []
missed words [] t is = refl
missed words (u ∷ us) t is = elim (cases_Bool (bytes_eq u t)) [
  | inl h ↦ let is = rw h at is in absurd cc
  | inr h ↦ rw h (missed words us t (let is = rw h at is in is))
]

twice : (a b : Bool) → (a || b) ≡ (a || (a || b))
twice true b = refl
twice false b = refl

among_with : (t u : List ℕ) (us : List (List ℕ)) → is_among (with_token u us) t ≡ (bytes_eq u t || is_among us t)
among_with t u [] = refl
among_with t u (v ∷ vs) = by_order (slice_cmp nat_cmp u v) refl (with_token u vs) (among_with t u vs)
  where
    by_order : (o : Ordering) → slice_cmp nat_cmp u v ≡ o → (rest : List (List ℕ)) → is_among rest t ≡ (bytes_eq u t || is_among vs t) → is_among (token_by o u v vs rest) t ≡ (bytes_eq u t || is_among (v ∷ vs) t)
    by_order Less is rest later = refl
    by_order Equal is rest later =
        let same : bytes_eq v t ≡ bytes_eq u t = ap (λ x. bytes_eq x t) (sym (exact_bytes u v is)) in
        rw same (twice (bytes_eq u t) (is_among vs t))
    by_order Greater is rest later = rw later (or_swap (bytes_eq v t) (bytes_eq u t) (is_among vs t))

-- whether a word has the token
abbrev has_token : List Word → List ℕ → Bool
has_token words t = list_any (λ w. bytes_eq w.token t) words

among_order : (words : List Word) (t : List ℕ) → is_among (tokens_in_order words) t ≡ has_token words t
among_order [] t = refl
among_order (w ∷ words) t = among_with t w.token (tokens_in_order words) ∙ ap (λ b. bytes_eq w.token t || b) (among_order words t)

no_places : (words : List Word) (t : List ℕ) → has_token words t ≡ false → places words t ≡ []
no_places [] t is = refl
no_places (w ∷ words) t is = elim (cases_Bool (bytes_eq w.token t)) [
  | inl h ↦ let is = rw h at is in absurd cc
  | inr h ↦ rw h (no_places words t (let is = rw h at is in is))
]

abbrev HasPlaces : List Word → List ℕ → Type 0
HasPlaces words t = 0 < length (places words t)

more_places : (w : Word) (words : List Word) (t : List ℕ) → HasPlaces words t → HasPlaces (w ∷ words) t
more_places w words t some = elim (cases_Bool (bytes_eq w.token t)) [
  | inl h ↦ rw h (omega arith)
  | inr h ↦ rw h some
]

own_place : (w : Word) (words : List Word) → HasPlaces (w ∷ words) w.token
own_place w words = rw ((bytes_eq-Decides w.token w.token).1 refl) (omega arith)

each_some : (words : List Word) → AllByRecursion (HasPlaces words) (tokens_in_order words)
each_some [] = tt
each_some (w ∷ words) =
    all_with (HasPlaces (w ∷ words)) w.token (tokens_in_order words) (own_place w words)
    (all_weaker (HasPlaces words) (HasPlaces (w ∷ words)) (λ t some. more_places w words t some) (tokens_in_order words) (each_some words))

pub terms_are : (words : List Word) → AreTermsOf words (terms_of words)
terms_are words = record {
  rising = terms_rise words (tokens_in_order words) (order_rises words);
  some = all_map (λ (e : TermEntry). 0 < length e.addresses) (term_of words) (tokens_in_order words) (each_some words);
  places = λ t. by_token t (has_token words t) refl;
}
  where
    by_token : (t : List ℕ) (b : Bool) → has_token words t ≡ b → postings_of (terms_of words) t ≡ places words t
    by_token t true is = found words (tokens_in_order words) t (among_order words t ∙ is)
    by_token t false is = missed words (tokens_in_order words) t (among_order words t ∙ is) ∙ sym (no_places words t is)

-- ---- no more terms than words

with_longer : (t : List ℕ) (ts : List (List ℕ)) → length (with_token t ts) ≤ length ts + 1
with_longer t [] = omega arith
with_longer t (u ∷ us) = by_order (slice_cmp nat_cmp t u) (with_token t us) (with_longer t us)
  where
    by_order : (o : Ordering) (rest : List (List ℕ)) → length rest ≤ length us + 1 → length (token_by o t u us rest) ≤ length (u ∷ us) + 1
    by_order Less rest later = omega arith
    by_order Equal rest later = omega arith
    by_order Greater rest later = omega arith

order_few : (words : List Word) → length (tokens_in_order words) ≤ length words
order_few [] = omega arith
order_few (w ∷ words) = let rest = order_few words in let here = with_longer w.token (tokens_in_order words) in omega arith

pub few_terms : (words : List Word) (terms : List TermEntry) → AreTermsOf words terms → length terms ≤ length words
few_terms words terms is =
    let few = order_few words in
    let long = length-map (tokens_in_order words) (term_of words) in
    subst (λ es. length es ≤ length words) (one_table words (terms_of words) terms (terms_are words) is) (omega (arith, few, long))

-- ---- what holds of the tokens of all words holds of all terms, and the other way

order_all : (P : List ℕ → Type 0) (words : List Word) → AllByRecursion (λ (w : Word). P w.token) words → AllByRecursion P (tokens_in_order words)
order_all P [] all = tt
order_all P (w ∷ words) all = all_with P w.token (tokens_in_order words) all.0 (order_all P words all.1)

pub terms_all : (P : List ℕ → Type 0) (words : List Word) → AllByRecursion (λ (w : Word). P w.token) words → AllByRecursion (λ (e : TermEntry). P e.term) (terms_of words)
terms_all P words all = all_map (λ (e : TermEntry). P e.term) (term_of words) (tokens_in_order words) (order_all P words all)

all_terms : (P : List ℕ → Type 0) (words : List Word) (ts : List (List ℕ)) → AllByRecursion (λ (e : TermEntry). P e.term) (map (term_of words) ts) → AllByRecursion P ts
all_terms P words [] all = tt
all_terms P words (t ∷ ts) all = (all.0, all_terms P words ts all.1)

all_words : (P : List ℕ → Type 0) (words : List Word) → AllByRecursion P (tokens_in_order words) → AllByRecursion (λ (w : Word). P w.token) words
all_words P [] all = tt
all_words P (w ∷ words) all = let both = with_all P w.token (tokens_in_order words) all in (both.here, all_words P words both.rest)

pub words_all : (P : List ℕ → Type 0) (words : List Word) → AllByRecursion (λ (e : TermEntry). P e.term) (terms_of words) → AllByRecursion (λ (w : Word). P w.token) words
words_all P words all = all_words P words (all_terms P words (tokens_in_order words) all)
