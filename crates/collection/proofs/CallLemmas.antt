-- Lists of calls.
use Rattle.std.proofs.Common.{◌≡◌, ◌+◌, ◌-◌, [], ◌∷◌, sym, ap, ◌∙◌, subst}
use Rattle.gcl_model.specs.Collections.{Collection, width_of}
use Rattle.gcl_model.specs.Slots.{slot_range, slots_after_add}
use Rattle.live_version.specs.Contents.{VersionContent, ranges_of}
use Rattle.live_version.specs.StandsFor.{StandsFor}
use Rattle.collection.specs.Calls.{Call, adding, deleting, merging, adopting, CallsReach, IsAfter, collection_after, ranges_after, ranges_after_all}

-- one call
record IsNear (call : Call) (v w : VersionContent) (c : Collection) : Type 0 where
  stands : StandsFor w (collection_after call c)
  ranges : ranges_of w.slots ≡ ranges_after call c (ranges_of v.slots)

call_reaches : (call : Call) (v w : VersionContent) (c : Collection) → IsAfter call v w → StandsFor v c → IsNear call v w c
call_reaches (adding name tokens) v w c h s = record {
  stands = (h.stands c s).1;
  ranges = h.ranges ∙ ap (λ n. slots_after_add (ranges_of v.slots) (slot_range n (n + width_of tokens - 1))) s.next;
}
call_reaches (deleting id) v w c h s = record { stands = (h.stands c s).1; ranges = h.ranges }
call_reaches merging v w c h s = record { stands = h.stands c s; ranges = h.ranges c s }
call_reaches (adopting opened is) v w c h s = record {
  stands = h.stands is.collection is.stands;
  ranges = ap ranges_of h.slots ∙ is.ranges;
}

pub calls_reach : CallsReach
calls_reach [] v w c same s = record { stands = subst (λ u. StandsFor u c) (sym same) s; ranges = ap (λ u. ranges_of u.slots) same }
calls_reach (call ∷ calls) v w c h s =
    let near = call_reaches call v h.0 c h.1 s in
    let rest = calls_reach calls h.0 w (collection_after call c) h.2 near.stands in
    record { stands = rest.stands; ranges = rest.ranges ∙ ap (ranges_after_all calls (collection_after call c)) near.ranges }
