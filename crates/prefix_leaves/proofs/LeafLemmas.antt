-- The places of a token in the renamed text.
use Rattle.std.proofs.Common.{◌≡◌, ℕ, ◌+◌, ◌-◌, Bool, true, false, not, cond, ◌&&◌, ◌||◌, leb, ltb, find, List, [], ◌∷◌, map, bytes_eq, inl, inr, Some, refl, sym, ap, ◌∙◌}
use Rattle.std.proofs.Math.Path.{fun_ext}
use Rattle.std.specs.Prelude.{Option, None, IfSome}
use Rattle.std.specs.List.{list_any, list_all}
use Rattle.std.proofs.lemmas.Bool.{true≢false, cases_Bool, and_parts, and_from, or_cases, or_left, or_right}
use Rattle.std.proofs.lemmas.Slice.Eq.{bytes_eq-Decides}
use Rattle.gcl_model.specs.Access.{find_last}
use Rattle.gcl_model.specs.Extents.{Extent}
use Rattle.gcl_model.specs.Elements.{IsElementFrom, IsElementUpTo}
use Rattle.gcl_model.specs.Texts.{Text, holds, places, any_pair}
use Rattle.gcl_model.specs.Wide.{is_prefix_term, stands_for_word}
use Rattle.prefix_places.specs.Places.{PrefixContent, wide_places}
use Rattle.prefix_leaves.specs.Renaming.{renamed, is_meant_by, is_meant_among, is_among, is_alone, is_apart_token}
use Rattle.prefix_leaves.specs.Prefixes.{tokens_of, is_meant_by_one, places_among, AreOver, HavePlaces}
use Rattle.prefix_leaves.proofs.NameLemmas.{apart_name, plain_name, lost_name}
use Rattle.prefix_leaves.proofs.Renamed.{holds_by, places_by, none_by}

-- what all pass, they pass if it is asked less
all_later : (p q : List ℕ → Bool) (xs : List (List ℕ)) → ((x : List ℕ) → p x ≡ true → q x ≡ true) → list_all p xs ≡ true → list_all q xs ≡ true
all_later p q [] on h = refl
all_later p q (x ∷ xs) on h = let parts = and_parts (p x) (list_all p xs) h in and_from (q x) (list_all q xs) (on x parts.0) (all_later p q xs on parts.1)

all_among : (xs : List (List ℕ)) → list_all (is_among xs) xs ≡ true
all_among [] = refl
all_among (x ∷ xs) =
    and_from (is_among (x ∷ xs) x) (list_all (is_among (x ∷ xs)) xs) (or_left (bytes_eq x x) (is_among xs x) ((bytes_eq-Decides x x).1 refl))
    (all_later (is_among xs) (is_among (x ∷ xs)) xs (λ y m. or_right (bytes_eq x y) (is_among xs y) m) (all_among xs))

-- a prefix term that is alone among these is apart
apart_prefix : (all : List (List ℕ)) (name : List ℕ) → is_prefix_term name ≡ true → is_among all name ≡ true → is_alone all name ≡ true → is_apart_token all name ≡ true
apart_prefix all name is among alone = ap (λ b. cond b (is_among all name && is_alone all name) (not (is_meant_among all name))) is ∙ and_from (is_among all name) (is_alone all name) among alone

-- each of these has the places of its token in the renamed text
have_places : (all : List (List ℕ)) (text : Text) (ps : List PrefixContent) → list_all is_prefix_term (tokens_of ps) ≡ true → list_all (is_among all) (tokens_of ps) ≡ true → list_all (is_alone all) (tokens_of ps) ≡ true
    → map (λ p. wide_places text.words p.token) ps ≡ map (λ p. places (renamed all text).words p.token) ps
have_places all text [] is among alone = refl
have_places all text (p ∷ ps) is among alone =
    let here = and_parts (is_prefix_term p.token) (list_all is_prefix_term (tokens_of ps)) is in
    let at = and_parts (is_among all p.token) (list_all (is_among all) (tokens_of ps)) among in
    let by = and_parts (is_alone all p.token) (list_all (is_alone all) (tokens_of ps)) alone in
    ap (λ l. l ∷ map (λ (p : PrefixContent). wide_places text.words p.token) ps)
    (sym (places_by all p.token (stands_for_word p.token) (λ word. apart_name all p.token word (apart_prefix all p.token here.0 at.0 by.0)) text.words))
    ∙ ap (λ ls. places (renamed all text).words p.token ∷ ls) (have_places all text ps here.1 at.1 by.1)

pub places_are_exact : (text : Text) (prefixes : List PrefixContent) → AreOver text prefixes → HavePlaces text prefixes
places_are_exact text prefixes is = is.exact ∙ have_places (tokens_of prefixes) text prefixes is.terms (all_among (tokens_of prefixes)) is.alone

pub meant_among : (prefixes : List PrefixContent) (token : List ℕ) → is_meant_by_one prefixes token ≡ is_meant_among (tokens_of prefixes) token
meant_among [] token = refl
meant_among (p ∷ prefixes) token = ap (λ b. is_meant_by token p.token || b) (meant_among prefixes token)

-- the places of a prefix term among those that have theirs
found_places : (of_token : List ℕ → List ℕ) (ps : List PrefixContent) (token : List ℕ) → map (λ p. p.places) ps ≡ map (λ p. of_token p.token) ps → is_among (tokens_of ps) token ≡ true → places_among ps token ≡ of_token token
found_places of_token [] token exact among = absurd (true≢false (sym among))
found_places of_token (p ∷ ps) token exact among =
    let first : p.places ≡ of_token p.token = cc in
    let rest : map (λ (p : PrefixContent). p.places) ps ≡ map (λ (p : PrefixContent). of_token p.token) ps = cc in
    elim (cases_Bool (bytes_eq p.token token)) [
      | inl t ↦ ap (λ b. cond b p.places (places_among ps token)) t ∙ first ∙ ap of_token ((bytes_eq-Decides p.token token).0 t)
      | inr f ↦
          let later : is_among (tokens_of ps) token ≡ true = elim (or_cases (bytes_eq p.token token) (is_among (tokens_of ps) token) among) [ inl t ↦ absurd (true≢false (sym t ∙ f)) | inr m ↦ m ] in
          ap (λ b. cond b p.places (places_among ps token)) f ∙ found_places of_token ps token rest later
    ]

no_places : (ps : List PrefixContent) (token : List ℕ) → is_among (tokens_of ps) token ≡ false → places_among ps token ≡ []
no_places [] token none = refl
no_places (p ∷ ps) token none = elim (cases_Bool (bytes_eq p.token token)) [
  | inl t ↦ absurd (true≢false (sym (or_left (bytes_eq p.token token) (is_among (tokens_of ps) token) t) ∙ none))
  | inr f ↦ ap (λ b. cond b p.places (places_among ps token)) f ∙ no_places ps token (sym (ap (λ b. b || is_among (tokens_of ps) token) f) ∙ none)
]

-- the places of a token that is meant
pub meant_places : (text : Text) (prefixes : List PrefixContent) (token : List ℕ) → HavePlaces text prefixes → is_meant_by_one prefixes token ≡ true → places_among prefixes token ≡ places (renamed (tokens_of prefixes) text).words token
meant_places text prefixes token exact meant =
    let all = tokens_of prefixes in
    elim (cases_Bool (is_among all token)) [
      | inl t ↦ found_places (λ name. places (renamed all text).words name) prefixes token exact t
      | inr f ↦ no_places prefixes token f
          ∙ sym (places_by all token (λ word. false) (λ word. lost_name all token word (sym (meant_among prefixes token) ∙ meant) f) text.words ∙ none_by text.words)
    ]

-- and of one that is not
pub plain_places : (text : Text) (prefixes : List PrefixContent) (token : List ℕ) → is_meant_by_one prefixes token ≡ false → places text.words token ≡ places (renamed (tokens_of prefixes) text).words token
plain_places text prefixes token none =
    sym (places_by (tokens_of prefixes) token (λ word. bytes_eq word token) (λ word. plain_name (tokens_of prefixes) token word (sym (meant_among prefixes token) ∙ none)) text.words)

plain_holds : (text : Text) (prefixes : List PrefixContent) (token : List ℕ) → is_meant_by_one prefixes token ≡ false → (p : ℕ) → holds text.words token p ≡ holds (renamed (tokens_of prefixes) text).words token p
plain_holds text prefixes token none p =
    sym (holds_by (tokens_of prefixes) token (λ word. bytes_eq word token) (λ word. plain_name (tokens_of prefixes) token word (sym (meant_among prefixes token) ∙ none)) text.words p)

-- two tokens of which none is meant
module _ (text : Text) (prefixes : List PrefixContent) (first second : List ℕ) (unmeant : is_meant_by_one prefixes first ≡ false) (unmeant_too : is_meant_by_one prefixes second ≡ false) where
  pub plain_pairs : (k r : ℕ) → any_pair text.words first second k r ≡ any_pair (renamed (tokens_of prefixes) text).words first second k r
  plain_pairs k r =
      ap (λ ps. list_any (λ p. leb k p && (ltb p r && holds text.words second (p + 1))) ps) (plain_places text prefixes first unmeant)
      ∙ ap (λ (test : ℕ → Bool). list_any test (places (renamed (tokens_of prefixes) text).words first))
      (fun_ext (λ p. ap (λ b. leb k p && (ltb p r && b)) (plain_holds text prefixes second unmeant_too (p + 1))))

  pub plain_first : (p : ℕ) → holds text.words first p ≡ true → holds (renamed (tokens_of prefixes) text).words first p ≡ true
  plain_first p h = sym (plain_holds text prefixes first unmeant p) ∙ h

  pub plain_second : (p : ℕ) → holds text.words second p ≡ true → holds (renamed (tokens_of prefixes) text).words second p ≡ true
  plain_second p h = sym (plain_holds text prefixes second unmeant_too p) ∙ h

  pub plain_element_from : (k : ℕ) (element : Extent) → IsElementFrom text.words first second k element → IsElementFrom (renamed (tokens_of prefixes) text).words first second k element
  plain_element_from k element is = record {
    at = is.at;
    found = is.found ∙ ap (find (λ p. leb k p)) (plain_places text prefixes first unmeant);
    on = is.on ∙ ap (find (λ p. leb (is.at + 1) p)) (plain_places text prefixes second unmeant_too);
    back = is.back ∙ ap (find_last (λ p. leb p (element.end - 1))) (plain_places text prefixes first unmeant);
  }

  pub plain_element_up_to : (k : ℕ) (element : Extent) → IsElementUpTo text.words first second k element → IsElementUpTo (renamed (tokens_of prefixes) text).words first second k element
  plain_element_up_to k element is = record {
    at = is.at;
    found = is.found ∙ ap (find (λ p. leb k p)) (plain_places text prefixes second unmeant_too);
    behind = is.behind;
    back = is.back ∙ ap (find_last (λ p. leb p (is.at - 1))) (plain_places text prefixes first unmeant);
    on = is.on ∙ ap (find (λ p. leb (element.start + 1) p)) (plain_places text prefixes second unmeant_too);
    reaches = is.reaches;
  }

-- what follows from what holds of it holds of what there is
pub where_some : {X : Type 0} (o : Option X) (P Q : X → Type 0) → ((x : X) → P x → Q x) → IfSome o P → IfSome o Q
where_some None P Q follows is = tt
where_some (Some x) P Q follows is = follows x is
