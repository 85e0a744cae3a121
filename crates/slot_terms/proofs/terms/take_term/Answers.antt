use Rattle.std.proofs.Common.{◌++◌, refl, sym, ap, ◌∙◌, arith, append-nil}
use Rattle.slot_terms.specs.Parts.{PartContent, alive, head_postings, past}
use Rattle.slot_terms.proofs.Heads.{past_more}
use Rattle.slot_terms.proofs.Loops.{flat_map_item}
use Rattle.slot_terms.proofs.Taken.{taken_all}
use Rattle.slot_terms.proofs.terms.take_term.Goals as goal

pub loop-part-preserved : goal.loop-part-preserved
loop-part-preserved c =
    let parts = c.args.parts.now in
    let i = c.loop-part.part-index in
    let item = c.part-item.result in
    let out = c.loop-part.addresses.items in
    let term = c.args.first.now.term.now in
    let more =
    past_more parts c.loop-part.parts i term item c.take.new.self (omega arith) c.loop-part.invariant.past c.part-item.is (c.in_ok-take.ensures.past ∙ ap (past term) (sym c.part-item.is)) in
    record {
      addresses =
          flat_map_item (λ part. alive part.mask (head_postings part.left term)) parts i c.args.addresses.now.items out c.take.new.addresses.items item (omega arith) more.0
          c.loop-part.invariant.addresses (c.in_ok-take.ensures.addresses ∙ ap (λ (p : PartContent). out ++ alive p.mask (head_postings p.left term)) (sym c.part-item.is));
      past = more.1;
    }

pub loop-part-init : goal.loop-part-init
loop-part-init c = record { addresses = sym (append-nil c.args.addresses.now.items); past = refl }

pub take-requires : goal.take-requires
take-requires c = c.requires

pub returns-clause-addresses : goal.returns-clause-addresses
returns-clause-addresses c =
    let was = c.loop-part.invariant in
    (taken_all c.args.first.now.term.now c.args.parts.now c.loop-part.parts c.args.addresses.now.items c.loop-part.addresses.items c.loop-part.part-index c.loop-part-test.false (record { lists = was.addresses; past_it = was.past })).0

pub returns-clause-past : goal.returns-clause-past
returns-clause-past c =
    let was = c.loop-part.invariant in
    (taken_all c.args.first.now.term.now c.args.parts.now c.loop-part.parts c.args.addresses.now.items c.loop-part.addresses.items c.loop-part.part-index c.loop-part-test.false (record { lists = was.addresses; past_it = was.past })).1
