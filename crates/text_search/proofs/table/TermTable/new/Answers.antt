use Rattle.std.proofs.Common.{◌≡◌, ◌∙◌, List, sym, subst, [], arith}
use Rattle.std.proofs.lemmas.List.{length-replicate}
use Rattle.text_search.specs.Tables.{Entry, IsTable}
use Rattle.text_search.proofs.TableLemmas.{keyed_none}
use Rattle.text_search.proofs.table.TermTable.new.Goals as goal

pub invariant_of-result : goal.invariant_of-result
invariant_of-result c =
    let none : List Entry = [] in
    let full : c.loop.counter ≡ 64 = omega (arith, c.loop-test.false, c.loop.auto.counter-end) in
    subst IsTable (sym c.loop.invariant) record { count = length-replicate c.loop.counter none ∙ full; keyed = keyed_none 0 c.loop.counter }
