use Rattle.std.proofs.Common.{◌∙◌, ap, refl}
use Rattle.text_search.specs.Tables.{places_in}
use Rattle.text_search.proofs.TableLemmas.{places_at}
use Rattle.text_search.proofs.table.TermTable.places.Goals as goal

pub returns : goal.returns
returns c =
    let token = c.args.token.now in
    c.places.ensures ∙ ap (λ bucket. places_in bucket token) c.index.ensures
    ∙ places_at c.self.inside.buckets.items token c.key.result _ c.self.invariant (c.key.ensures.key token refl) c.key.ensures.bucket
    ∙ ap (λ entries. places_in entries token) c.self.view_is
