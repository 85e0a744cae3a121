use Rattle.std.proofs.Common.{◌≡◌, ◌<◌, ◌/◌, ◌%◌, false, eqb, get_or, length, sym, arith, ap, ◌∙◌}
use Rattle.std.proofs.lemmas.Grind.{get_or_default_zero}
use Rattle.std.proofs.lemmas.Nat.Bits.{shr_and_one}
use Rattle.std.specs.Int.{bit_at}
use Rattle.image_read.proofs.MarkLemmas.{bits-at, bits-length}
use Rattle.image_read.proofs.marks.Marks.is_marked.Goals as goal

pub index-requires : goal.index-requires
index-requires c =
    let within : c.args.at < length c.args.self.now = c.requires in
    let long = bits-length c.self.inside.words.items c.self.inside.count in
    let same : length c.args.self.now ≡ c.self.inside.count = ap length (sym c.self.view_is) ∙ long in
    omega (arith, within, same, c.self.invariant, c.self.inside.words.ok)

pub returns : goal.returns
returns c =
    let long = bits-length c.self.inside.words.items c.self.inside.count in
    let same : length c.args.self.now ≡ c.self.inside.count = ap length (sym c.self.view_is) ∙ long in
    let within : c.args.at < c.self.inside.count = omega (arith, same, c.requires) in
    let room = c.self.invariant in
    let read = c.index.ensures ∙ get_or_default_zero c.self.inside.words.items (c.args.at / 64) c.index.result.now (omega (arith, within, room)) in
    ap (λ x. eqb x 1) (shr_and_one c.index.result.now (c.args.at % 64)) ∙ ap (λ x. eqb (bit_at x (c.args.at % 64)) 1) read
    ∙ sym (bits-at c.self.inside.words.items c.self.inside.count c.args.at within) ∙ ap (λ l. get_or l c.args.at false) c.self.view_is
