use Rattle.std.proofs.Common.{◌+◌, arith}
use Rattle.std.proofs.lemmas.Bool.{ltb-true}
use Rattle.image_read.proofs.StretchLemmas.{met_at}
use Rattle.image_read.proofs.places.is_met.Goals as goal

pub returns-else-i-eq0-clause-value : goal.returns-else-i-eq0-clause-value
returns-else-i-eq0-clause-value c front =
    met_at c.args.address (c.args.place + c.args.more) c.args.stretches.now _ c.requires (omega (arith, c.if-len-place.false, c.if-len-place-2.false)) c.if-address-stretches.true (λ some. ltb-true _ _ front)
