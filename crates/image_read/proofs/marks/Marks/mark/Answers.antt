use Rattle.std.proofs.Common.{◌≡◌, ◌<◌, ◌/◌, true, length, set, sym, arith, ap, ◌∙◌}
use Rattle.std.proofs.lemmas.Grind.{get_or_default_zero}
use Rattle.image_read.proofs.MarkLemmas.{bits-length, bits-set}
use Rattle.image_read.proofs.marks.Marks.mark.Goals as goal

pub index_mut-requires : goal.index_mut-requires
index_mut-requires c =
    let same : length c.args.self.now ≡ c.self.inside.count = ap length (sym c.self.view_is) ∙ bits-length c.self.inside.words.items c.self.inside.count in
    omega (arith, same, c.requires, c.self.invariant, c.self.inside.words.ok)

pub returns : goal.returns
returns c =
    let same : length c.args.self.now ≡ c.self.inside.count = ap length (sym c.self.view_is) ∙ bits-length c.self.inside.words.items c.self.inside.count in
    let room = c.self.invariant in
    let within : c.args.at < c.self.inside.count = omega (arith, same, c.requires) in
    let read = c.index_mut.ensures.value ∙ get_or_default_zero c.self.inside.words.items (c.args.at / 64) c.index_mut.result.now (omega (arith, within, room)) in
    bits-set c.self.inside.words.items c.self.inside.count c.args.at c.index_mut.result.now room within read
    ∙ ap (λ l. set l c.args.at true) c.self.view_is
