use Rattle.std.proofs.Common.{slice_get, sym, ap, ◌∙◌}
use Rattle.std.proofs.lemmas.Option.{slice_get-get_or, slice_get_past}
use Rattle.delete_mask.specs.Masks.{dead_range}
use Rattle.delete_mask.proofs.PartLemmas.{dead_halved, dead_in}
use Rattle.delete_mask.proofs.parts.dead_among.Goals as goal

pub returns-in-Some : goal.returns-in-Some
returns-in-Some c =
    let parts = c.args.parts.now in
    let p = c.args.p in
    let part = c.in-Some.part.now in
    let found = c.in-Some.ensures.lookup in
    c.dead.ensures.value
    ∙ ap (λ m. dead_range m p) (c.mask.ensures.value ∙ found.1)
    ∙ sym (ap (dead_in p) (slice_get-get_or parts c.count_before.result part found.3.0))
    ∙ ap (λ n. dead_in p (slice_get parts n)) c.count_before.ensures.count
    ∙ sym (dead_halved parts p c.requires)

pub returns-in-None : goal.returns-in-None
returns-in-None c =
    let parts = c.args.parts.now in
    let p = c.args.p in
    sym (dead_halved parts p c.requires ∙ sym (ap (λ n. dead_in p (slice_get parts n)) c.count_before.ensures.count) ∙ ap (dead_in p) (slice_get_past parts c.count_before.result c.in-None.ensures.lookup.3))
