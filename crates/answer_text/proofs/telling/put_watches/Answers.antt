use Rattle.std.proofs.Common.{◌∷◌, ◌++◌, [], ℕ, List, map, refl, sym, subst, append-nil, arith, rules}
use Rattle.std.proofs.lemmas.List.{drop_all, length-map}
use Rattle.gcl_model.proofs.Cases.{on_err}
use Rattle.live_version.specs.Contents.{version_text}
use Rattle.collection.specs.Engines.{last_of}
use Rattle.answer_text.specs.Puts.{GetsPart, Puts}
use Rattle.answer_text.specs.Watching.{watched_of, watches_text}
use Rattle.answer_text.proofs.PutLemmas.{all_put, held_more, more_first, part_all}
use Rattle.answer_text.proofs.ToldLemmas.{one_watch, watch_here, watches_on}
use Rattle.answer_text.proofs.CauseLemmas.{cause_done, cause_passed, counts_passed}
use Rattle.answer_text.proofs.telling.put_watches.Goals as goal

pub loop-i-init : goal.loop-i-init
loop-i-init g c = record {
  puts = record { so_far = []; whole = refl; count_is = refl; puts = held_more (g.K.Sink.written c.args.sink.now) c.args.out.now.items c.args.out.now.items [] (sym (append-nil c.args.out.now.items)) };
  later = omega arith;
  same = refl;
}

pub loop-i-preserved : goal.loop-i-preserved
loop-i-preserved g c =
    let before = version_text (last_of c.args.before.now.history) in
    let now = version_text c.args.engine.now.version in
    let one = one_watch before now (watched_of c.get.result.now) in
    record {
      puts = more_first (watches_text before now) (watches_on before now) _ _ _ c.args.out.now.items c.loop-i.out.items c.put_watch.new.out.items _ _ (watched_of c.get.result.now ∷ []) _ _ _
          (watch_here c.args.watches.now.live c.loop-i.i c.get.result.now (search rules) c.get.ensures.value) refl c.loop-i.invariant.puts
          (subst (λ (t : List ℕ). Puts (g.K.Sink.written c.loop-i.sink) (g.K.Sink.written c.put_watch.new.sink) c.loop-i.out.items c.put_watch.new.out.items t) one c.in_ok-put_watch.ensures.puts);
      later = search rules;
      same = search rules;
    }

pub returns-in_err-put_watch-clause-part : goal.returns-in_err-put_watch-clause-part
returns-in_err-put_watch-clause-part g c =
    let before = version_text (last_of c.args.before.now.history) in
    let now = version_text c.args.engine.now.version in
    let one = one_watch before now (watched_of c.get.result.now) in
    on_err _ c.from_residual.result (part_all (watches_text before now) (watches_on before now) _ _ _ c.args.out.now.items c.loop-i.out.items _ _ (watched_of c.get.result.now ∷ []) _ _
    (watch_here c.args.watches.now.live c.loop-i.i c.get.result.now (search rules) c.get.ensures.value) c.loop-i.invariant.puts
    (subst (λ (t : List ℕ). GetsPart (g.K.Sink.written c.loop-i.sink) (g.K.Sink.written c.put_watch.new.sink) (c.loop-i.out.items ++ t)) one c.in_err-put_watch.ensures.part))

pub returns-clause-puts : goal.returns-clause-puts
returns-clause-puts g c =
    let before = version_text (last_of c.args.before.now.history) in
    let now = version_text c.args.engine.now.version in
    let many = length-map c.args.watches.now.live watched_of in
    (all_put (watches_text before now) (watches_on before now) _ _ c.args.out.now.items c.loop-i.out.items _ _ c.loop-i.i
    (drop_all c.loop-i.i (map watched_of c.args.watches.now.live) (omega (arith, many, c.len-i-end.ensures.value, c.loop-i-test.false))) c.loop-i.invariant.puts).0

pub returns-in_err-put_watch-clause-cause : goal.returns-in_err-put_watch-clause-cause
returns-in_err-put_watch-clause-cause g c = cause_passed c.from_residual.result c.in_err-put_watch.field-0.0 (g.K.Sink.faults c.args.sink.now) (g.K.Sink.faults c.loop-i.sink) (g.K.Sink.faults c.put_watch.new.sink) c.loop-i.invariant.same c.from_residual.ensures.1 c.in_err-put_watch.ensures.cause

pub returns-in_err-put_watch-clause-counts : goal.returns-in_err-put_watch-clause-counts
returns-in_err-put_watch-clause-counts g c = counts_passed Unit c.from_residual.result c.in_err-put_watch.field-0.0 (g.K.Sink.faults c.args.sink.now) (g.K.Sink.faults c.loop-i.sink) (g.K.Sink.faults c.put_watch.new.sink) c.loop-i.invariant.same c.from_residual.ensures.1 c.in_err-put_watch.ensures.counts

pub returns-clause-cause : goal.returns-clause-cause
returns-clause-cause g c = cause_done tt (g.K.Sink.faults c.args.sink.now) (g.K.Sink.faults c.loop-i.sink) c.loop-i.invariant.same

pub returns-clause-counts : goal.returns-clause-counts
returns-clause-counts g c = c.loop-i.invariant.same
