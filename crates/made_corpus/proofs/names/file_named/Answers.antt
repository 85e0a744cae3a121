use Rattle.std.proofs.Common.{sym, ap, arith, get_or, length}
use Rattle.std.proofs.lemmas.Bool.Decides.{nat_tests}
use Rattle.made_corpus.proofs.NameLemmas.{file_named-none, file_named-no_number, file_named-over, file_named-number}
use Rattle.made_corpus.proofs.names.file_named.Goals as goal
use Rattle.made_corpus.proofs.names.file_named.Goals.{then-is_empty-via-then-is_empty, then-is_empty-via-else-is_empty+then-name-ne109}

pub returns-then-is_empty-clause-value : goal.returns-then-is_empty-clause-value
returns-then-is_empty-clause-value c =
    let name = c.args.name.now in
    elim c.then-is_empty.branch [
      | then-is_empty-via-then-is_empty w ↦ sym (file_named-none c.args.count name (λ i before is. absurd (grind (arith, nat_tests, ap length is, c.is_empty.ensures))))
      | then-is_empty-via-else-is_empty+then-name-ne109 w ↦ sym (file_named-none c.args.count name (λ i before is. absurd (w.if-name-ne109.true (ap (λ bytes. get_or bytes 0 0) is))))
    ]

pub returns-in-None-clause-value : goal.returns-in-None-clause-value
returns-in-None-clause-value c = sym (file_named-no_number c.args.count c.args.name.now c.number_of.result c.ranges.count.fits c.in-None.is c.number_of.ensures.each)

pub returns-then-i-count-clause-value : goal.returns-then-i-count-clause-value
returns-then-i-count-clause-value c = sym (file_named-over c.args.count c.args.name.now c.number_of.result c.in-Some.i c.ranges.count.fits c.if-i-count.true c.in-Some.is c.number_of.ensures.each)

pub returns-clause-value : goal.returns-clause-value
returns-clause-value c = sym (file_named-number c.args.count c.args.name.now c.in-Some.i c.ranges.count.fits (omega arith) (grind (arith, nat_tests, c.is_empty.ensures)) c.if-name-ne109.false c.in-Some.ensures.some)
