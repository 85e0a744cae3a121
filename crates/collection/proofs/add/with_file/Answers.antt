use Rattle.std.proofs.Common.{ap, ◌∙◌}
use Rattle.gcl_model.specs.Collections.{with_boundaries, words_from}
use Rattle.collection.proofs.SettlingLemmas.{adds-file}
use Rattle.collection.proofs.add.with_file.Goals as goal

pub returns : goal.returns
returns c =
    let v = c.args.last.now in
    let e = c.in_ok-grown.ensures in
    adds-file v c.in_ok-grown.grown c.in_ok-version.version record { id = c.next_id.result; base = c.next.result; len = c.width.result; name = c.in_ok-copy_of.field-0 } c.placed-shard.result c.args.name.now c.args.index c.next.ensures.value c.width.ensures.value c.in_ok-copy_of.ensures c.requires.fits c.requires.named c.width.ensures.tokens
    (c.placed-shard.ensures.words ∙ ap (λ p. words_from p (with_boundaries c.args.index)) c.next-2.ensures.value) e.stands e.ranges c.in_ok-version.ensures
