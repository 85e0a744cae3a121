use Rattle.std.proofs.Common.{◌≡◌, ◌+◌, Some, slice_get, sym, ap, ◌∙◌, subst}
use Rattle.gcl_model.proofs.Pairs.{no_pair_yet}
use Rattle.live_version.specs.Contents.{live_of}
use Rattle.term_fingers.specs.Lists.{HasNoDead, IsAt, LackPairs, list_of}
use Rattle.term_fingers.proofs.Beside.{version_lacks}
use Rattle.term_fingers.proofs.Found.{version_holds}
use Rattle.term_fingers.proofs.term.Term.earliest_pair_by.Goals as goal

pub returns-then-slot-clause-none : goal.returns-then-slot-clause-none
returns-then-slot-clause-none g c = no_pair_yet (live_of g.J.Naming.version.slots) c.args.self.now.bytes.now c.args.other.now.bytes.now c.args.k

pub returns-clause-none : goal.returns-clause-none
returns-clause-none g c =
    let v = g.J.Naming.version in
    let term = c.args.self.now in
    let other = c.args.other.now in
    let finger = c.args.finger.now in
    let behind = c.args.behind.now in
    let k = c.args.k in
    let r = c.earliest_pair-pair.result.at in
    let same : behind.slot ≡ finger.slot = sym c.slot.ensures ∙ c.if-slot.false ∙ c.slot-slot.ensures in
    let here : slice_get term.places finger.slot ≡ Some (Some finger.place) =
    ap (slice_get term.places) (sym c.slot-slot.ensures) ∙ c.has_place.ensures c.if-not-has_place.false ∙ ap (λ n. Some (Some n)) c.place.ensures in
    let here_behind : slice_get other.places finger.slot ≡ Some (Some behind.place) =
    ap (slice_get other.places) (sym c.slot-slot.ensures) ∙ c.has_place-else-not-has_place.ensures c.if-not-has_place-2.false ∙ ap (λ n. Some (Some n)) c.place-else-not-has_place.ensures in
    version_lacks v finger.slot finger.place behind.place term.bytes.now other.bytes.now term.places other.places k r c.requires term.found other.found here here_behind
    (subst (λ n. LackPairs (list_of v.slots finger.slot finger.place) (list_of v.slots n behind.place) k r) same c.earliest_pair-pair.ensures.none)

pub returns-clause-found : goal.returns-clause-found
returns-clause-found g c = λ found.
    let v = g.J.Naming.version in
    let term = c.args.self.now in
    let other = c.args.other.now in
    let finger = c.args.finger.now in
    let behind = c.args.behind.now in
    let at = c.earliest_pair-pair.result.at in
    let same : behind.slot ≡ finger.slot = sym c.slot.ensures ∙ c.if-slot.false ∙ c.slot-slot.ensures in
    let here : slice_get term.places finger.slot ≡ Some (Some finger.place) =
    ap (slice_get term.places) (sym c.slot-slot.ensures) ∙ c.has_place.ensures c.if-not-has_place.false ∙ ap (λ n. Some (Some n)) c.place.ensures in
    let here_behind : slice_get other.places finger.slot ≡ Some (Some behind.place) =
    ap (slice_get other.places) (sym c.slot-slot.ensures) ∙ c.has_place-else-not-has_place.ensures c.if-not-has_place-2.false ∙ ap (λ n. Some (Some n)) c.place-else-not-has_place.ensures in
    let undeleted : HasNoDead v.slots finger.slot = subst (HasNoDead v.slots) c.slot-slot.ensures (c.believes.ensures.undeleted found) in
    let met = c.earliest_pair-pair.ensures.found (c.believes.ensures.found found) in (
      version_holds v finger.slot finger.place term.bytes.now term.places at c.requires term.found here undeleted met.0,
      version_holds v finger.slot behind.place other.bytes.now other.places (at + 1) c.requires other.found here_behind undeleted
          (subst (λ n. IsAt (list_of v.slots n behind.place) (at + 1)) same met.1),
    )
