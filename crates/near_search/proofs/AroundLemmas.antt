-- Where members lie that are near two addresses.
use Rattle.std.proofs.Common.{◌≡◌, ◌⊎◌, ℕ, ◌+◌, ◌≤◌, max, leb, Option, Some, None, Vec, Global, inl, inr, refl, sym, ap, ◌∙◌, subst, arith}
use Rattle.gcl_locality.specs.Windows.{end_behind, end_or, reach_from, reach_upto, start_before, start_or}
use Rattle.gcl_model.specs.Access.{first_end, first_start}
use Rattle.gcl_model.specs.declared.expr.Expr.{Expr, Both, Seq, Width}
use Rattle.gcl_model.specs.declared.expr.Expr.TheOpen as F
use Rattle.gcl_model.specs.declared.expr.Expr.TheVariants.{rolls-Width}
use Rattle.gcl_model.specs.declared.expr.Expr.TheFolds.{fold-roll-Expr}
use Rattle.gcl_model.specs.Extents.{Extent}
use Rattle.gcl_model.specs.FormOf.{form_of, form_step}
use Rattle.gcl_model.specs.Forms.{Form}
use Rattle.gcl_model.specs.Limits.{address_end}
use Rattle.gcl_model.specs.Meaning.{concordance, denotes}
use Rattle.gcl_model.specs.Texts.{Text}
use Rattle.gcl_model.proofs.Covers.{of_each, find_gives}
use Rattle.gcl_model.proofs.FormLemmas.{form_of-Both, form_of-Seq}
use Rattle.gcl_model.proofs.Meanings.{IsOf, each_of_text}
use Rattle.near_search.specs.Contents.{start_of}

-- the first member behind an address ends in range
pub end_within : (text : Text) (form : Form) (y : ℕ) → text.next ≤ address_end → y ≤ address_end → max y (end_or text.next (first_start (concordance text form) (y + 1))) ≤ address_end
end_within text form y sound le = here (first_start (concordance text form) (y + 1)) refl
  where
    here : (o : Option Extent) → first_start (concordance text form) (y + 1) ≡ o → max y (end_or text.next o) ≤ address_end
    here None none = omega (arith, sound, le)
    here (Some a) some =
        let of = of_each (IsOf text) (concordance text form) a (each_of_text text (denotes text form)) (find_gives (λ c. leb (y + 1) c.start) (concordance text form) a some).0 in
        omega (arith, of.below, sound, le)

-- and the first that ends at or after an address starts in range
pub start_within : (text : Text) (form : Form) (low : ℕ) → text.next ≤ address_end → start_of text form low ≤ address_end
start_within text form low sound = here (first_end (concordance text form) low) refl
  where
    here : (o : Option Extent) → first_end (concordance text form) low ≡ o → start_or text.next o ≤ address_end
    here None none = omega (arith, sound)
    here (Some a) some =
        let of = of_each (IsOf text) (concordance text form) a (each_of_text text (denotes text form)) (find_gives (λ c. leb low c.end) (concordance text form) a some).0 in
        omega (arith, of.below, of.proper, sound)

-- the members of a width, of "both of" and of "followed by" are looked for
abbrev pub IsLookedFor : Expr → Type 0
IsLookedFor e = ((n : ℕ) × (e ≡ Width n)) ⊎ (((v : Vec Expr Global) × (e ≡ Both v)) ⊎ ((v : Vec Expr Global) × (e ≡ Seq v)))

-- what surrounds the addresses in their lists is how far they reach
module _ (text : Text) (x y : ℕ) where
  abbrev IsReach : Form → Type 0
  IsReach form = (start_before text (concordance text form) x ≡ reach_from text x form) × (end_behind text (concordance text form) y ≡ reach_upto text y form)

  pub around_is_reach : (e : Expr) → IsLookedFor e → IsReach (form_of e)
  around_is_reach e (inl (n, is)) = subst IsReach (sym (ap form_of (is ∙ sym (rolls-Width n)) ∙ fold-roll-Expr Form form_step (F.Width n))) (refl, refl)
  around_is_reach e (inr (inl (v, is))) = subst IsReach (sym (ap form_of is ∙ form_of-Both v)) (refl, refl)
  around_is_reach e (inr (inr (v, is))) = subst IsReach (sym (ap form_of is ∙ form_of-Seq v)) (refl, refl)
