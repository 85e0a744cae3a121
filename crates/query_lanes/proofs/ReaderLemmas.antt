-- What a reader knows after some enterings.
use Rattle.std.proofs.Common.{◌≡◌, suc, inl, inr, List, [], ◌∷◌, refl, sym, ◌∙◌, subst, arith}
use mathlib.Core.List.{IsPrefix}
use Rattle.logbook.specs.Pages.{Book}
use Rattle.gcl_model.proofs.Lists.{all_weaker}
use Rattle.live_version.specs.Contents.{VersionContent}
use Rattle.manifest_publish.specs.Accounts.{Account, ReaderContent, GoesOn, MayEnter, IsRefused, reached, with_pass}
use Rattle.manifest_publish.proofs.Prefixes.{prefix_self, prefix_trans}
use Rattle.query_lanes.specs.Readers.{AreOf, EachIsOf, IsLater}

pub later_self : (r : ReaderContent) → IsLater r r
later_self r = record { publisher = refl; seen = prefix_self r.seen; known = λ history on. on }

pub later_trans : (before mid after : ReaderContent) → IsLater before mid → IsLater mid after → IsLater before after
later_trans before mid after one other = record {
  publisher = other.publisher ∙ one.publisher;
  seen = prefix_trans before.seen mid.seen after.seen one.seen other.seen;
  known = λ history on. one.known history (other.known history on);
}

-- what goes on from a history that goes on from all that the reader knows does so too
goes_on : (r : ReaderContent) (seen history : List VersionContent) → GoesOn r seen → IsPrefix seen history → GoesOn r history
goes_on r seen history on p = (
  prefix_trans r.seen seen history on.0 p,
  all_weaker (λ l. IsPrefix l seen) (λ l. IsPrefix l history) (λ l q. prefix_trans l seen history q p) r.told on.1,
)

-- the reader has seen a history since that goes on from all that it knew
later_seen : (before after : ReaderContent) → after.publisher ≡ before.publisher → GoesOn before after.seen → IsLater before after
later_seen before after same on = record { publisher = same; seen = on.0; known = λ history more. goes_on before after.seen history on more.0 }

-- it entered
pub later_entered : (before after : ReaderContent) (found : Account) → MayEnter before found → after ≡ with_pass found.publisher found.history → IsLater before after
later_entered before after found may is =
    let Q : ReaderContent → Type 0 = λ r. IsLater before r in
    subst Q (sym is) (later_seen before (with_pass found.publisher found.history) may.0 may.2)

-- its entering found no memory
pub later_refused : (before after : ReaderContent) → IsRefused before after → IsLater before after
later_refused before after (inl same) = let Q : ReaderContent → Type 0 = λ r. IsLater before r in subst Q (sym same) (later_self before)
later_refused before after (inr has) = let Q : ReaderContent → Type 0 = λ r. IsLater before r in subst Q (sym has.2) (later_seen before (reached before has.0) refl has.1.2)

-- readers that are a publisher's at each place are all of it
pub are_of : (publisher : Book) (readers : List ReaderContent) → EachIsOf publisher readers → AreOf publisher readers
are_of publisher [] each = tt
are_of publisher (r ∷ readers) each = (each 0 r (omega arith), are_of publisher readers (λ i d lt. each (suc i) d (omega arith)))
