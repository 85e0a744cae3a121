-- Which members have to be compared.
use Rattle.std.proofs.Common.{◌≡◌, ℕ, ◌+◌, ◌*◌, Bool, true, false, not, cond, ◌&&◌, ◌||◌, leb, List, [], ◌∷◌, length, map, filter, inl, inr, refl, sym, ap, ◌∙◌, subst, arith}
use Rattle.std.proofs.lemmas.Bool.{cases_Bool, and_from, and_right, or_left, or_right, le-leb}
use Rattle.gcl_locality.specs.Changed.{touches, is_lost}
use Rattle.gcl_locality.specs.Laws.{DifferBetween}
use Rattle.gcl_model.specs.Extents.{Extent, same_extent, contains_extent, IsRising}
use Rattle.gcl_model.specs.Forms.{Form}
use Rattle.gcl_model.specs.Limits.{address_end}
use Rattle.gcl_model.specs.Meaning.{concordance, denotes}
use Rattle.gcl_model.specs.Texts.{Text, IsText}
use Rattle.gcl_model.proofs.Covers.{Has, of_each}
use Rattle.gcl_model.proofs.Lists.{all_kept, filter_twice}
use Rattle.gcl_model.proofs.Meanings.{IsOf, each_of_text}
use Rattle.standing_query.specs.declared.change.Change.TheVariants.{Went, Came}
use Rattle.gcl_model.specs.Wide.{wide}
use Rattle.live_version.specs.Contents.{VersionContent, version_text}
use Rattle.wide_terms.specs.Expansion.{expansion}
use Rattle.wide_terms.specs.Laws.{ExpansionsAreWide}
use Rattle.standing_query.specs.Edits.{expanded_cost, touching_cost}
use Rattle.standing_query.specs.Changes.{lost, in_order, changes, list_cost, members}
use Rattle.standing_query.proofs.ChangeLemmas.{same_is, same_self}
use Rattle.standing_query.proofs.SideLemmas.{kept_same}

-- what is kept of a list that rises rises
pub kept_rises : (test : Extent → Bool) (list : List Extent) → IsRising list → IsRising (filter test list)
kept_rises test [] r = tt
kept_rises test (x ∷ list) r = elim (cases_Bool (test x)) [
  | inl t ↦ rw t (all_kept _ test list r.0, kept_rises test list r.1)
  | inr f ↦ rw f (kept_rises test list r.1)
]

pub has_contains : (list : List Extent) (c : Extent) → Has list c → contains_extent list c ≡ true
has_contains [] c m = absurd m
has_contains (x ∷ list) c (inl e) = or_left (same_extent x c) _ (subst (λ (y : Extent). same_extent y c ≡ true) (sym e) (same_self c))
has_contains (x ∷ list) c (inr m) = or_right (same_extent x c) _ (has_contains list c m)

-- what is kept has those members that pass
contains_kept : (test : Extent → Bool) (list : List Extent) (c : Extent) → contains_extent (filter test list) c ≡ (contains_extent list c && test c)
contains_kept test [] c = refl
contains_kept test (x ∷ list) c = here (test x) (same_extent x c) refl refl (contains_kept test list c)
  where
    here : (b s : Bool) → test x ≡ b → same_extent x c ≡ s → contains_extent (filter test list) c ≡ (contains_extent list c && test c) → contains_extent (cond b (x ∷ filter test list) (filter test list)) c ≡ ((s || contains_extent list c) && test c)
    here true true t e rest = or_left (same_extent x c) _ e ∙ sym (subst (λ (y : Extent). test y ≡ true) (same_is x c e) t)
    here true false t e rest = ap (λ s. s || contains_extent (filter test list) c) e ∙ rest
    here false true t e rest =
        let none = subst (λ (y : Extent). test y ≡ false) (same_is x c e) t in
        rest ∙ and_right (contains_extent list c) (test c) none ∙ sym none
    here false false t e rest = rest

-- the members that are lost are lost among those that touch the addresses
lost_within : (old new : List Extent) (test : Extent → Bool) → ((c : Extent) → Has old c → contains_extent new c ≡ false → test c ≡ true) → lost (filter test old) (filter test new) ≡ lost old new
lost_within old new test local =
    sym (filter_twice (λ c. not (contains_extent (filter test new) c)) test (λ c. not (contains_extent (filter test new) c) && test c) old (λ c. refl))
    ∙ kept_same (λ c. not (contains_extent (filter test new) c) && test c) (λ c. not (contains_extent new c)) old
    (λ c m. ap (λ b. not b && test c) (contains_kept test new c) ∙ here (contains_extent new c) (test c) (local c m))
  where
    here : (b t : Bool) → (b ≡ false → t ≡ true) → (not (b && t) && t) ≡ not b
    here true true at = refl
    here true false at = refl
    here false t at = at refl

-- if two lists differ between two addresses alone, nothing else changes
pub changes_within : (old new : List Extent) (low high : ℕ) → DifferBetween old new low high → changes (filter (touches low high) old) (filter (touches low high) new) ≡ changes old new
changes_within old new low high local =
    let went = lost_within old new (touches low high) (λ c m f. local c (or_left (is_lost old new c) _ (and_from (contains_extent old c) (not (contains_extent new c)) (has_contains old c m) (ap not f)))) in
    let came = lost_within new old (touches low high) (λ c m f. local c (or_right (is_lost old new c) (is_lost new old c) (and_from (contains_extent new c) (not (contains_extent old c)) (has_contains new c m) (ap not f)))) in
    ap (λ l. in_order (map Went l) (map Came (lost (filter (touches low high) new) (filter (touches low high) old)))) went ∙ ap (λ l. in_order (map Went (lost old new)) (map Came l)) came

kept_all : (test : Extent → Bool) (list : List Extent) → ((a : Extent) → Has list a → test a ≡ true) → filter test list ≡ list
kept_all test [] all = refl
kept_all test (x ∷ xs) all = rw (all x (inl refl)) (ap (λ l. x ∷ l) (kept_all test xs (λ a m. all a (inr m))))

-- all members lie between the first address and the end of all
pub all_touch : (text : Text) (form : Form) → IsText text → filter (touches 0 address_end) (concordance text form) ≡ concordance text form
all_touch text form sound = kept_all (touches 0 address_end) (concordance text form) (λ a m.
    let of = of_each (IsOf text) (concordance text form) a (each_of_text text (denotes text form)) m in
    and_from (leb 0 a.end) (leb a.start address_end) (le-leb 0 a.end (omega arith)) (le-leb a.start address_end (omega (arith, of.proper, of.below, sound.in_range))))

-- two expressions that are the expansions of one over two versions
module _ (wide_lists : ExpansionsAreWide) (old new : VersionContent) (form old_form new_form : Form) (old_is : old_form ≡ expansion (version_text old) form) (new_is : new_form ≡ expansion (version_text new) form) where
  old_list : members old old_form ≡ wide (version_text old) form
  old_list = ap (concordance (version_text old)) old_is ∙ wide_lists (version_text old) form

  new_list : members new new_form ≡ wide (version_text new) form
  new_list = ap (concordance (version_text new)) new_is ∙ wide_lists (version_text new) form

  -- they differ where the expression does
  pub expansions_differ : (low high : ℕ) → DifferBetween (wide (version_text old) form) (wide (version_text new) form) low high → DifferBetween (members old old_form) (members new new_form) low high
  expansions_differ low high between =
      subst (λ l. DifferBetween l (members new new_form) low high) (sym old_list) (subst (λ l. DifferBetween (wide (version_text old) form) l low high) (sym new_list) between)

  pub expansions_change : changes (members old old_form) (members new new_form) ≡ changes (wide (version_text old) form) (wide (version_text new) form)
  expansions_change = ap (λ l. changes l (members new new_form)) old_list ∙ ap (λ l. changes (wide (version_text old) form) l) new_list

  side_costs : (v : VersionContent) (expanded : Form) → expanded ≡ expansion (version_text v) form → (low high : ℕ) → list_cost v expanded (length (filter (touches low high) (members v expanded))) ≡ touching_cost v low high form
  side_costs v expanded is low high =
      ap (λ f. list_cost v f (length (filter (touches low high) (members v f)))) is
      ∙ ap (λ l. (length (filter (touches low high) l) + 1) * expanded_cost v form) (wide_lists (version_text v) form)

  -- and they cost as much
  pub expansions_cost : (low high look_ups : ℕ) → look_ups ≡ list_cost old old_form (length (filter (touches low high) (members old old_form))) + list_cost new new_form (length (filter (touches low high) (members new new_form))) →
      look_ups ≡ touching_cost old low high form + touching_cost new low high form
  expansions_cost low high look_ups is = is ∙ ap (λ n. n + list_cost new new_form (length (filter (touches low high) (members new new_form)))) (side_costs old old_form old_is low high)
      ∙ ap (λ n. touching_cost old low high form + n) (side_costs new new_form new_is low high)
