use Rattle.std.proofs.Common.{◌∙◌, sym, refl}
use Rattle.text_search.proofs.TableLemmas.{names_known, names_put, empty_put, table_with_more}
use Rattle.text_search.proofs.table.TermTable.put.Goals as goal

pub returns-then-has-clause-named : goal.returns-then-has-clause-named
returns-then-has-clause-named c =
    names_known c.self.inside.buckets.items c.key.result c.index_mut-bucket.result.now c.args.self.now c.args.token.now c.self.invariant c.key.ensures.bucket c.index_mut-bucket.ensures.value
    (sym c.has.ensures ∙ c.if-has.true) c.self.view_is

pub invariant_of-self-2 : goal.invariant_of-self-2
invariant_of-self-2 c =
    table_with_more c.self.inside.buckets.items c.key.result c.index_mut-bucket.result.now c.push.new.self c.args.token.now c.self.invariant c.key.ensures.bucket (c.key.ensures.key c.args.token.now refl)
    c.index_mut-bucket.ensures.value c.in_ok-push.ensures.ok

pub returns-clause-named : goal.returns-clause-named
returns-clause-named c =
    names_put c.self.inside.buckets.items c.key.result c.index_mut-bucket.result.now c.push.new.self c.args.self.now c.args.token.now c.self.invariant c.key.ensures.bucket c.index_mut-bucket.ensures.value
    c.in_ok-push.ensures.ok c.self.view_is

pub returns-clause-empty : goal.returns-clause-empty
returns-clause-empty c =
    empty_put c.self.inside.buckets.items c.key.result c.index_mut-bucket.result.now c.push.new.self c.args.self.now c.args.token.now c.index_mut-bucket.ensures.value c.in_ok-push.ensures.ok c.self.view_is
