use Rattle.std.proofs.Common.{◌∙◌, ap, map}
use Rattle.text_search.specs.Tables.{noted}
use Rattle.text_search.proofs.TableLemmas.{table_with_same, noted_at}
use Rattle.text_search.proofs.table.TermTable.note.Goals as goal

pub invariant_of-self : goal.invariant_of-self
invariant_of-self c =
    table_with_same c.self.inside.buckets.items c.key.result c.index_mut-bucket.result.now c.note.new.self c.self.invariant c.key.ensures.bucket c.index_mut-bucket.ensures.value c.note.ensures.tokens

pub invariant_of-self-2 : goal.invariant_of-self-2
invariant_of-self-2 c =
    table_with_same c.self.inside.buckets.items c.key.result c.index_mut-bucket.result.now c.note.new.self c.self.invariant c.key.ensures.bucket c.index_mut-bucket.ensures.value c.note.ensures.tokens

pub returns : goal.returns
returns c =
    noted_at c.self.inside.buckets.items c.args.token.now.token c.args.address c.key.result c.index_mut-bucket.result.now c.note.new.self c.self.invariant (c.key.ensures.key c.args.token.now.token c.len.ensures)
    c.key.ensures.bucket c.index_mut-bucket.ensures.value c.in_ok-note.ensures.ok
    ∙ ap (map (noted c.args.token.now.token c.args.address)) c.self.view_is
