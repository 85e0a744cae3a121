use Rattle.std.proofs.Common.{◌≡◌, [], ◌∷◌, ◌++◌, ◌∙◌, sym, ap, append_assoc}
use Rattle.made_corpus.proofs.CountLemmas.{counts-append}
use Rattle.made_corpus.proofs.summary.SummarySink.with_all.Goals as goal

pub invariant_of-result : goal.invariant_of-result
invariant_of-result c =
    let before = c.args.self.now.taken in
    let first = c.in_ok-first.first.now in
    let rest = c.in_ok-first.rest.now in
    let taken : c.with_all-taken.result ≡ before ++ c.args.piece.now =
    c.with_all-taken.ensures ∙ ap (λ text. text ++ rest) c.with.ensures ∙ append_assoc before (first ∷ []) rest
    ∙ ap (λ piece. before ++ piece) (sym c.in_ok-first.ensures.cases.0) in
    record {
      counted = rw (c.in_ok-counts.ensures, taken) (counts-append c.args.self.now.counts before c.args.piece.now c.args.self.now.counted);
    }
