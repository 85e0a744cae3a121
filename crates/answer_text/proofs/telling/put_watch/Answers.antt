use Rattle.std.proofs.Common.{refl, ◌++◌, ℕ, List, subst}
use Rattle.std.specs.Prelude.{OnErr, OnOk}
use Rattle.answer_text.specs.Puts.{GetsPart, Puts}
use Rattle.answer_text.proofs.CauseLemmas.{cause_memory, counts_memory}
use Rattle.answer_text.proofs.telling.put_watch.Goals as goal

pub returns-clause-puts : goal.returns-clause-puts
returns-clause-puts g c =
    subst (λ (t : List ℕ). OnOk c.put_all_changes.result (Puts (g.K.Sink.written c.args.sink.now) (g.K.Sink.written c.put_all_changes.new.sink) c.args.out.now.items c.put_all_changes.new.out.items t)) c.in_ok-listing.ensures c.put_all_changes.ensures.puts

pub returns-clause-part : goal.returns-clause-part
returns-clause-part g c =
    subst (λ (t : List ℕ). OnErr c.put_all_changes.result (GetsPart (g.K.Sink.written c.args.sink.now) (g.K.Sink.written c.put_all_changes.new.sink) (c.args.out.now.items ++ t))) c.in_ok-listing.ensures c.put_all_changes.ensures.part

pub returns-in_err-listing-clause-cause : goal.returns-in_err-listing-clause-cause
returns-in_err-listing-clause-cause g c = cause_memory c.from_residual.result (g.K.Sink.faults c.args.sink.now) (g.K.Sink.faults c.args.sink.now) refl c.from_residual.ensures.1

pub returns-in_err-listing-clause-counts : goal.returns-in_err-listing-clause-counts
returns-in_err-listing-clause-counts g c = counts_memory c.from_residual.result (g.K.Sink.faults c.args.sink.now) (g.K.Sink.faults c.args.sink.now) refl c.from_residual.ensures.1

pub returns-clause-cause : goal.returns-clause-cause
returns-clause-cause g c = c.put_all_changes.ensures.cause

pub returns-clause-counts : goal.returns-clause-counts
returns-clause-counts g c = c.put_all_changes.ensures.counts
