use Rattle.std.proofs.Common.{sym, ap, ◌∙◌}
use Rattle.index_shard.specs.Searched.{nearest}
use Rattle.index_shard.proofs.TableLaws.{at_no_place, at_its_place}
use Rattle.term_fingers.proofs.Places.{list_known, nearest_in_none}
use Rattle.term_fingers.proofs.term.Term.nearest.Goals as goal

pub returns-in_err-place : goal.returns-in_err-place
returns-in_err-place g c =
    c.from_residual.ensures ∙ nearest_in_none c.args.direction _ c.args.k (at_no_place c.args.shard.now.table c.args.self.now.bytes.now (sym c.in_err-place.ensures))

pub postings-list-requires : goal.postings-list-requires
postings-list-requires g c = (at_its_place c.args.shard.now.table c.args.self.now.bytes.now c.in_ok-place.place (sym c.in_ok-place.ensures)).0

pub returns-in-Ok : goal.returns-in-Ok
returns-in-Ok g c =
    let at = (at_its_place c.args.shard.now.table c.args.self.now.bytes.now c.in_ok-place.place (sym c.in_ok-place.ensures)).1 in
    c.nearest.ensures ∙ ap (λ ps. nearest c.args.direction ps c.args.k) (c.postings-list.ensures.value ∙ at)

pub nearest-requires : goal.nearest-requires
nearest-requires g c = c.postings-list.ensures.value ∙ list_known g.J.Naming.version.slots c.args.number c.in_ok-place.place c.args.shard.now c.requires

pub nearest_anew-requires : goal.nearest_anew-requires
nearest_anew-requires g c = c.postings-list.ensures.value ∙ list_known g.J.Naming.version.slots c.args.number c.in_ok-place.place c.args.shard.now c.requires

pub returns-in-Err : goal.returns-in-Err
returns-in-Err g c =
    let at = (at_its_place c.args.shard.now.table c.args.self.now.bytes.now c.in_ok-place.place (sym c.in_ok-place.ensures)).1 in
    c.nearest_anew.ensures ∙ ap (λ ps. nearest c.args.direction ps c.args.k) (c.postings-list.ensures.value ∙ at)
