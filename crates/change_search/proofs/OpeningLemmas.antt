-- The members of an expansion that are compared are those of the expression.
use Rattle.std.proofs.Common.{◌≡◌, ℕ, ◌≤◌, Bool, List, length, ap, ◌∙◌, arith}
use Rattle.gcl_model.specs.Extents.{Extent}
use Rattle.gcl_model.specs.Forms.{Form}
use Rattle.gcl_model.specs.Wide.{wide}
use Rattle.live_version.specs.Contents.{VersionContent, version_text}
use Rattle.near_search.specs.Contents.{IsNearWay}
use Rattle.near_search.specs.Costs.{near_listing_cost, near_opening_cost}
use Rattle.query_search.specs.Pages.{Way, leaping, reading, ended}
use Rattle.standing_query.specs.Changes.{members}
use Rattle.wide_terms.specs.Expansion.{expansion}
use Rattle.wide_terms.specs.Laws.{ExpansionsAreWide}
use Rattle.change_search.specs.Costs.{expanded, whole_listing_cost}
use Rattle.change_search.specs.inner.Sides.{look_ups_by}

module _ (wide_lists : ExpansionsAreWide) (v : VersionContent) (form other : Form) (is : other ≡ expansion (version_text v) form) where
  pub members_are : members v other ≡ wide (version_text v) form
  members_are = ap (λ (f : Form). members v f) is ∙ wide_lists (version_text v) form

  -- of all
  pub whole_listing_is : (reads : Bool) → whole_listing_cost v other reads (length (members v other)) ≡ whole_listing_cost v (expanded v form) reads (length (wide (version_text v) form))
  whole_listing_is reads =
      ap (λ (l : List Extent). whole_listing_cost v other reads (length l)) members_are
      ∙ ap (λ (f : Form). whole_listing_cost v f reads (length (wide (version_text v) form))) is

-- what it costs to find the members of an expansion at two addresses is known by those of the expression
module _ (v : VersionContent) (form other : Form) (is : other ≡ expansion (version_text v) form) (low high low' high' : ℕ) (lows : low ≡ low') (highs : high ≡ high') where
  at : (cost : VersionContent → (low high : ℕ) → Form → ℕ) → cost v low high other ≡ cost v low' high' (expanded v form)
  at cost = ap (λ (f : Form). cost v low high f) is ∙ ap (λ (n : ℕ). cost v n high (expanded v form)) lows ∙ ap (λ (n : ℕ). cost v low' n (expanded v form)) highs

  pub near_opening_is : near_opening_cost v low high other ≡ near_opening_cost v low' high' (expanded v form)
  near_opening_is = at near_opening_cost

  pub near_listing_is : near_listing_cost v low high other ≡ near_listing_cost v low' high' (expanded v form)
  near_listing_is = at near_listing_cost

-- readers over a window make no more look-ups than a merge over it
pub near_paid : (v : VersionContent) (low high : ℕ) (form : Form) (way : Way) (accesses : ℕ) → IsNearWay v low high form way → look_ups_by way accesses ≤ near_listing_cost v low high form
near_paid v low high form (leaping each) accesses is = absurd is
near_paid v low high form (reading left) accesses is = omega (arith, is)
near_paid v low high form ended accesses is = omega arith
