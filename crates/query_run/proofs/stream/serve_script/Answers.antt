use Rattle.std.proofs.Common.{◌≡◌, ℕ, ◌+◌, ◌≤◌, false, List, [], ◌++◌, length, sym, ap, ◌∙◌, subst, arith, rules}
use Rattle.std.specs.Prelude.{Err}
use Rattle.gcl_model.proofs.Cases.{on_err}
use Rattle.script_lang.specs.Lines.{ended, lines}
use Rattle.script_answers.specs.Answers.{names_kept_of, names_kept_of_line, names_of, names_of_line}
use Rattle.script_answers.specs.inner.Service.{Serves, stand}
use Rattle.script_answers.proofs.Service.{halts_as}
use Rattle.query_run.specs.Faults.{of_read, of_run}
use Rattle.query_run.specs.inner.Streams.{ServesWithin}
use Rattle.query_run.specs.declared.read.ReadFault.TheVariants.{TooLong as ReadTooLong}
use Rattle.query_run.proofs.StreamLemmas.{at_script, come_last, come_next, ended_few, ending_is, fed_piece, hands_all, hands_over, hands_piece, long_ended, no_files, none_among, read_long, reads_all, reads_halts, reads_served, reads_stop, reads_within, run_ending, sure_run, takes_handed, takes_more}
use Rattle.query_run.proofs.stream.serve_script.Goals as goal

pub returns-in_err-read_piece-clause-halts : goal.returns-in_err-read_piece-clause-halts
returns-in_err-read_piece-clause-halts g c = on_err _ c.from_residual.result (at_script (g.S.Source.left c.args.source.now) _ (λ script is.
    rw (ending_is c.from_residual.result (of_read c.in_err-read_piece.field-0.0) c.from_residual.ensures.1)
    (reads_stop c.args.setting.now.limits script (stand (g.F.Files.held c.args.files.now) c.args.opened.now c.args.progress.now) (g.K.Sink.written c.args.sink.now) c.loop-feed.read c.loop-feed.feed.held _ _ (stand (g.F.Files.held c.loop-feed.files) c.loop-feed.opened c.loop-feed.progress) (g.K.Sink.written c.loop-feed.sink) (no_files c.in_err-read_piece.field-0.0) (c.loop-feed.invariant.reads script is))))

pub returns-in_err-read_piece-clause-within : goal.returns-in_err-read_piece-clause-within
returns-in_err-read_piece-clause-within g c = λ long. at_script (g.S.Source.left c.args.source.now) (λ script. ServesWithin c.args.setting.now.limits script (stand (g.F.Files.held c.args.files.now) c.args.opened.now c.args.progress.now) (stand (g.F.Files.held c.loop-feed.files) c.loop-feed.opened c.loop-feed.progress) (g.K.Sink.written c.args.sink.now) (g.K.Sink.written c.loop-feed.sink)) (λ script is.
    reads_within c.args.setting.now.limits script (stand (g.F.Files.held c.args.files.now) c.args.opened.now c.args.progress.now) (g.K.Sink.written c.args.sink.now) c.loop-feed.read c.loop-feed.feed.held (stand (g.F.Files.held c.loop-feed.files) c.loop-feed.opened c.loop-feed.progress) (g.K.Sink.written c.loop-feed.sink) c.loop-feed.invariant.none c.loop-feed.invariant.few (c.loop-feed.invariant.reads script is))

pub returns-in_err-read_piece-clause-read : goal.returns-in_err-read_piece-clause-read
returns-in_err-read_piece-clause-read g c = record {
  took = λ short. takes_more c.loop-feed.read c.args.setting.now.limits.script (g.S.Source.left c.args.source.now) (g.S.Source.left c.loop-feed.source) (g.S.Source.left c.read_piece.new.source) c.loop-feed.invariant.few c.loop-feed.invariant.taken (c.in_err-read_piece.ensures.took (λ long. let same : c.in_err-read_piece.field-0.0 ≡ ReadTooLong = cc long in short (long_ended c.from_residual.result c.in_err-read_piece.field-0.0 c.from_residual.ensures.1 same)));
  ended = search rules;
  short = search rules;
  too_long = λ long. hands_over c.loop-feed.read c.args.setting.now.limits.script (g.S.Source.left c.args.source.now) (g.S.Source.left c.loop-feed.source) (g.S.Source.left c.read_piece.new.source) c.loop-feed.invariant.few c.loop-feed.invariant.taken
      (c.in_err-read_piece.ensures.too_long (ap Err (read_long c.from_residual.result c.in_err-read_piece.field-0.0 c.from_residual.ensures.1 long)));
  faults = search rules;
}

pub serve_held-requires-clause-room : goal.serve_held-requires-clause-room
serve_held-requires-clause-room g c κs within = omega (arith, ap length c.ready.ensures, ended_few c.read_piece.new.feed.held, c.in_ok-read_piece.ensures.fed.held_few, c.in_ok-read_piece.ensures.fed.count_is, c.loop-feed.invariant.counted, c.in_ok-read_piece.ensures.counted, c.in_ok-read_piece.ensures.within, c.args.setting.now.allowed.1.1.0.1)

pub returns-in_err-serve_held-clause-halts : goal.returns-in_err-serve_held-clause-halts
returns-in_err-serve_held-clause-halts g c = on_err _ c.from_residual-in_err-serve_held.result (at_script (g.S.Source.left c.args.source.now) _ (λ script is.
    let next = come_next c.args.setting.now.limits.line c.loop-feed.read c.read_piece.new.read c.loop-feed.opened.lines c.loop-feed.feed c.read_piece.new.feed (g.S.Source.left c.args.source.now) (g.S.Source.left c.loop-feed.source) (g.S.Source.left c.read_piece.new.source) script c.ready.result.now is c.loop-feed.invariant.most c.in_ok-read_piece.ensures.counted c.loop-feed.invariant.taken c.in_ok-read_piece.ensures.fed c.ready.ensures (c.loop-feed.invariant.reads script is).fed in
    rw (ending_is c.from_residual-in_err-serve_held.result (of_run c.in_err-serve_held.field-0.0) c.from_residual-in_err-serve_held.ensures.1 ∙ run_ending c.in_err-serve_held.field-0.0)
    (halts_as c.args.setting.now.limits (lines c.args.setting.now.limits.line script) _ _ _ _ _ _ _ (λ kept. kept ∙ sym c.loop-feed.invariant.unkept)
    (reads_halts c.args.setting.now.limits script (stand (g.F.Files.held c.args.files.now) c.args.opened.now c.args.progress.now) (g.K.Sink.written c.args.sink.now) c.loop-feed.read c.loop-feed.feed.held (lines c.args.setting.now.limits.line c.ready.result.now) next.0 _ _ (stand (g.F.Files.held c.loop-feed.files) c.loop-feed.opened c.loop-feed.progress) (stand (g.F.Files.held c.serve_held.new.files) c.serve_held.new.opened c.serve_held.new.progress) (g.K.Sink.written c.loop-feed.sink) (g.K.Sink.written c.serve_held.new.sink) (c.loop-feed.invariant.reads script is) next.1 c.in_err-serve_held.ensures.halts))))

pub returns-in_err-serve_held-clause-read : goal.returns-in_err-serve_held-clause-read
returns-in_err-serve_held-clause-read g c = record {
  took = λ short. takes_handed c.read_piece.new.read c.args.setting.now.limits.script (g.S.Source.left c.args.source.now) (g.S.Source.left c.read_piece.new.source) c.in_ok-read_piece.ensures.within (hands_piece c.loop-feed.read c.read_piece.new.read c.loop-feed.feed c.read_piece.new.feed (g.S.Source.left c.args.source.now) (g.S.Source.left c.loop-feed.source) (g.S.Source.left c.read_piece.new.source) c.in_ok-read_piece.ensures.counted c.loop-feed.invariant.taken c.in_ok-read_piece.ensures.fed);
  ended = search rules;
  short = search rules;
  too_long = search rules;
  faults = search rules;
}

pub returns-in_err-serve_held-clause-files : goal.returns-in_err-serve_held-clause-files
returns-in_err-serve_held-clause-files g c = record {
  quiet = at_script (g.S.Source.left c.args.source.now) (λ script. names_of (lines c.args.setting.now.limits.line script) ≡ [] → c.serve_held.new.files ≡ c.args.files.now) (λ script is nothing.
      let next = come_next c.args.setting.now.limits.line c.loop-feed.read c.read_piece.new.read c.loop-feed.opened.lines c.loop-feed.feed c.read_piece.new.feed (g.S.Source.left c.args.source.now) (g.S.Source.left c.loop-feed.source) (g.S.Source.left c.read_piece.new.source) script c.ready.result.now is c.loop-feed.invariant.most c.in_ok-read_piece.ensures.counted c.loop-feed.invariant.taken c.in_ok-read_piece.ensures.fed c.ready.ensures (c.loop-feed.invariant.reads script is).fed in
      c.in_err-serve_held.ensures.files.quiet (none_among names_of_line c.loop-feed.opened.lines (lines c.args.setting.now.limits.line script) (lines c.args.setting.now.limits.line c.ready.result.now) next.0 next.1 nothing) ∙ c.loop-feed.invariant.quiet script is nothing);
  unsaved = at_script (g.S.Source.left c.args.source.now) (λ script. names_kept_of (lines c.args.setting.now.limits.line script) ≡ [] → g.F.Files.held c.serve_held.new.files ≡ g.F.Files.held c.args.files.now) (λ script is nothing.
      let next = come_next c.args.setting.now.limits.line c.loop-feed.read c.read_piece.new.read c.loop-feed.opened.lines c.loop-feed.feed c.read_piece.new.feed (g.S.Source.left c.args.source.now) (g.S.Source.left c.loop-feed.source) (g.S.Source.left c.read_piece.new.source) script c.ready.result.now is c.loop-feed.invariant.most c.in_ok-read_piece.ensures.counted c.loop-feed.invariant.taken c.in_ok-read_piece.ensures.fed c.ready.ensures (c.loop-feed.invariant.reads script is).fed in
      c.in_err-serve_held.ensures.files.unsaved (none_among names_kept_of_line c.loop-feed.opened.lines (lines c.args.setting.now.limits.line script) (lines c.args.setting.now.limits.line c.ready.result.now) next.0 next.1 nothing) ∙ c.loop-feed.invariant.unsaved script is nothing);
  sure = λ sure. c.in_err-serve_held.ensures.files.sure (sure_run c.from_residual-in_err-serve_held.result c.in_err-serve_held.field-0.0 c.from_residual-in_err-serve_held.ensures.1 sure) ∙ c.loop-feed.invariant.unkept;
}

pub loop-feed-preserved : goal.loop-feed-preserved
loop-feed-preserved g c = record {
  few = c.in_ok-read_piece.ensures.within;
  none = c.take_ready.ensures.none;
  most = c.take_ready.ensures.most ∙ c.in_ok-read_piece.ensures.fed.most_is ∙ c.loop-feed.invariant.most;
  counted = omega (arith, ap length c.ready.ensures, c.in_ok-serve_held.ensures.counted, c.take_ready.ensures.whole, c.in_ok-read_piece.ensures.fed.held_few, c.in_ok-read_piece.ensures.fed.count_is, c.loop-feed.invariant.counted, c.in_ok-read_piece.ensures.counted);
  serving = c.in_ok-serve_held.ensures.serving;
  taken = (hands_piece c.loop-feed.read c.read_piece.new.read c.loop-feed.feed c.read_piece.new.feed (g.S.Source.left c.args.source.now) (g.S.Source.left c.loop-feed.source) (g.S.Source.left c.read_piece.new.source) c.in_ok-read_piece.ensures.counted c.loop-feed.invariant.taken c.in_ok-read_piece.ensures.fed);
  source_later = search rules;
  source_same = c.in_ok-read_piece.ensures.calm ∙ c.loop-feed.invariant.source_same;
  sink_later = search rules;
  sink_same = search rules;
  files_later = search rules;
  files_same = search rules;
  unkept = c.in_ok-serve_held.ensures.files.sure tt ∙ c.loop-feed.invariant.unkept;
  quiet = λ script is nothing.
      let next = come_next c.args.setting.now.limits.line c.loop-feed.read c.read_piece.new.read c.loop-feed.opened.lines c.loop-feed.feed c.read_piece.new.feed (g.S.Source.left c.args.source.now) (g.S.Source.left c.loop-feed.source) (g.S.Source.left c.read_piece.new.source) script c.ready.result.now is c.loop-feed.invariant.most c.in_ok-read_piece.ensures.counted c.loop-feed.invariant.taken c.in_ok-read_piece.ensures.fed c.ready.ensures (c.loop-feed.invariant.reads script is).fed in
      c.in_ok-serve_held.ensures.files.quiet (none_among names_of_line c.loop-feed.opened.lines (lines c.args.setting.now.limits.line script) (lines c.args.setting.now.limits.line c.ready.result.now) next.0 next.1 nothing) ∙ c.loop-feed.invariant.quiet script is nothing;
  unsaved = λ script is nothing.
      let next = come_next c.args.setting.now.limits.line c.loop-feed.read c.read_piece.new.read c.loop-feed.opened.lines c.loop-feed.feed c.read_piece.new.feed (g.S.Source.left c.args.source.now) (g.S.Source.left c.loop-feed.source) (g.S.Source.left c.read_piece.new.source) script c.ready.result.now is c.loop-feed.invariant.most c.in_ok-read_piece.ensures.counted c.loop-feed.invariant.taken c.in_ok-read_piece.ensures.fed c.ready.ensures (c.loop-feed.invariant.reads script is).fed in
      c.in_ok-serve_held.ensures.files.unsaved (none_among names_kept_of_line c.loop-feed.opened.lines (lines c.args.setting.now.limits.line script) (lines c.args.setting.now.limits.line c.ready.result.now) next.0 next.1 nothing) ∙ c.loop-feed.invariant.unsaved script is nothing;
  reads = λ script is.
      reads_served c.args.setting.now.limits script (stand (g.F.Files.held c.args.files.now) c.args.opened.now c.args.progress.now) (g.K.Sink.written c.args.sink.now) c.read_piece.new.read c.read_piece.new.feed.held c.take_ready.new.self.held (stand (g.F.Files.held c.loop-feed.files) c.loop-feed.opened c.loop-feed.progress) (stand (g.F.Files.held c.serve_held.new.files) c.serve_held.new.opened c.serve_held.new.progress) (g.K.Sink.written c.loop-feed.sink) (g.K.Sink.written c.serve_held.new.sink)
      (record { fed = fed_piece c.args.setting.now.limits.line c.loop-feed.read c.read_piece.new.read c.loop-feed.opened.lines c.loop-feed.feed c.read_piece.new.feed (g.S.Source.left c.args.source.now) (g.S.Source.left c.loop-feed.source) (g.S.Source.left c.read_piece.new.source) script is c.loop-feed.invariant.most c.in_ok-read_piece.ensures.counted c.loop-feed.invariant.taken c.in_ok-read_piece.ensures.fed (c.loop-feed.invariant.reads script is).fed; come = (c.loop-feed.invariant.reads script is).come })
      (subst (λ (most : ℕ). (later : List ℕ) → lines most (c.read_piece.new.feed.held ++ later) ≡ lines most (ended c.read_piece.new.feed.held) ++ lines most (c.take_ready.new.self.held ++ later)) (c.in_ok-read_piece.ensures.fed.most_is ∙ c.loop-feed.invariant.most) c.take_ready.ensures.lines)
      (subst (λ (l : List ℕ). Serves c.args.setting.now.limits (lines c.args.setting.now.limits.line l) (stand (g.F.Files.held c.loop-feed.files) c.loop-feed.opened c.loop-feed.progress) (stand (g.F.Files.held c.serve_held.new.files) c.serve_held.new.opened c.serve_held.new.progress) (g.K.Sink.written c.loop-feed.sink) (g.K.Sink.written c.serve_held.new.sink)) c.ready.ensures c.in_ok-serve_held.ensures.serves);
}

pub serve_held-requires-2-clause-room : goal.serve_held-requires-2-clause-room
serve_held-requires-2-clause-room g c κs within = omega (arith, ap length c.rest.ensures, c.in_ok-read_piece.ensures.fed.held_few, c.in_ok-read_piece.ensures.fed.count_is, c.loop-feed.invariant.counted, c.in_ok-read_piece.ensures.counted, c.in_ok-read_piece.ensures.within, c.args.setting.now.allowed.1.1.0.1)

pub returns-in_err-serve_held-2-clause-halts : goal.returns-in_err-serve_held-2-clause-halts
returns-in_err-serve_held-2-clause-halts g c = on_err _ c.from_residual-in_err-serve_held-2.result (at_script (g.S.Source.left c.args.source.now) _ (λ script is.
    let no : c.in_ok-read_piece.field-0 ≡ false = search rules in
    let last = come_last c.args.setting.now.limits.line c.loop-feed.read c.read_piece.new.read c.loop-feed.opened.lines c.loop-feed.feed c.read_piece.new.feed (g.S.Source.left c.args.source.now) (g.S.Source.left c.loop-feed.source) (g.S.Source.left c.read_piece.new.source) script c.rest.result.now is c.loop-feed.invariant.most c.in_ok-read_piece.ensures.counted c.loop-feed.invariant.taken c.in_ok-read_piece.ensures.fed (c.in_ok-read_piece.ensures.none no).0 c.rest.ensures (c.loop-feed.invariant.reads script is).fed in
    rw (ending_is c.from_residual-in_err-serve_held-2.result (of_run c.in_err-serve_held-2.field-0.0) c.from_residual-in_err-serve_held-2.ensures.1 ∙ run_ending c.in_err-serve_held-2.field-0.0)
    (halts_as c.args.setting.now.limits (lines c.args.setting.now.limits.line script) _ _ _ _ _ _ _ (λ kept. kept ∙ sym c.loop-feed.invariant.unkept)
    (reads_halts c.args.setting.now.limits script (stand (g.F.Files.held c.args.files.now) c.args.opened.now c.args.progress.now) (g.K.Sink.written c.args.sink.now) c.loop-feed.read c.loop-feed.feed.held (lines c.args.setting.now.limits.line c.rest.result.now) [] _ _ (stand (g.F.Files.held c.loop-feed.files) c.loop-feed.opened c.loop-feed.progress) (stand (g.F.Files.held c.serve_held-2.new.files) c.serve_held-2.new.opened c.serve_held-2.new.progress) (g.K.Sink.written c.loop-feed.sink) (g.K.Sink.written c.serve_held-2.new.sink) (c.loop-feed.invariant.reads script is) last c.in_err-serve_held-2.ensures.halts))))

pub returns-in_err-serve_held-2-clause-read : goal.returns-in_err-serve_held-2-clause-read
returns-in_err-serve_held-2-clause-read g c = record {
  took = λ short. takes_handed c.read_piece.new.read c.args.setting.now.limits.script (g.S.Source.left c.args.source.now) (g.S.Source.left c.read_piece.new.source) c.in_ok-read_piece.ensures.within (hands_piece c.loop-feed.read c.read_piece.new.read c.loop-feed.feed c.read_piece.new.feed (g.S.Source.left c.args.source.now) (g.S.Source.left c.loop-feed.source) (g.S.Source.left c.read_piece.new.source) c.in_ok-read_piece.ensures.counted c.loop-feed.invariant.taken c.in_ok-read_piece.ensures.fed);
  ended = search rules;
  short = search rules;
  too_long = search rules;
  faults = search rules;
}

pub returns-in_err-serve_held-2-clause-files : goal.returns-in_err-serve_held-2-clause-files
returns-in_err-serve_held-2-clause-files g c =
    let no : c.in_ok-read_piece.field-0 ≡ false = search rules in
    record {
      quiet = at_script (g.S.Source.left c.args.source.now) (λ script. names_of (lines c.args.setting.now.limits.line script) ≡ [] → c.serve_held-2.new.files ≡ c.args.files.now) (λ script is nothing.
          let next = come_last c.args.setting.now.limits.line c.loop-feed.read c.read_piece.new.read c.loop-feed.opened.lines c.loop-feed.feed c.read_piece.new.feed (g.S.Source.left c.args.source.now) (g.S.Source.left c.loop-feed.source) (g.S.Source.left c.read_piece.new.source) script c.rest.result.now is c.loop-feed.invariant.most c.in_ok-read_piece.ensures.counted c.loop-feed.invariant.taken c.in_ok-read_piece.ensures.fed (c.in_ok-read_piece.ensures.none no).0 c.rest.ensures (c.loop-feed.invariant.reads script is).fed in
          c.in_err-serve_held-2.ensures.files.quiet (none_among names_of_line c.loop-feed.opened.lines (lines c.args.setting.now.limits.line script) (lines c.args.setting.now.limits.line c.rest.result.now) [] next nothing) ∙ c.loop-feed.invariant.quiet script is nothing);
      unsaved = at_script (g.S.Source.left c.args.source.now) (λ script. names_kept_of (lines c.args.setting.now.limits.line script) ≡ [] → g.F.Files.held c.serve_held-2.new.files ≡ g.F.Files.held c.args.files.now) (λ script is nothing.
          let next = come_last c.args.setting.now.limits.line c.loop-feed.read c.read_piece.new.read c.loop-feed.opened.lines c.loop-feed.feed c.read_piece.new.feed (g.S.Source.left c.args.source.now) (g.S.Source.left c.loop-feed.source) (g.S.Source.left c.read_piece.new.source) script c.rest.result.now is c.loop-feed.invariant.most c.in_ok-read_piece.ensures.counted c.loop-feed.invariant.taken c.in_ok-read_piece.ensures.fed (c.in_ok-read_piece.ensures.none no).0 c.rest.ensures (c.loop-feed.invariant.reads script is).fed in
          c.in_err-serve_held-2.ensures.files.unsaved (none_among names_kept_of_line c.loop-feed.opened.lines (lines c.args.setting.now.limits.line script) (lines c.args.setting.now.limits.line c.rest.result.now) [] next nothing) ∙ c.loop-feed.invariant.unsaved script is nothing);
      sure = λ sure. c.in_err-serve_held-2.ensures.files.sure (sure_run c.from_residual-in_err-serve_held-2.result c.in_err-serve_held-2.field-0.0 c.from_residual-in_err-serve_held-2.ensures.1 sure) ∙ c.loop-feed.invariant.unkept;
    }

pub returns-clause-serves : goal.returns-clause-serves
returns-clause-serves g c = at_script (g.S.Source.left c.args.source.now) _ (λ script is.
    let no : c.in_ok-read_piece.field-0 ≡ false = search rules in
    let last = come_last c.args.setting.now.limits.line c.loop-feed.read c.read_piece.new.read c.loop-feed.opened.lines c.loop-feed.feed c.read_piece.new.feed (g.S.Source.left c.args.source.now) (g.S.Source.left c.loop-feed.source) (g.S.Source.left c.read_piece.new.source) script c.rest.result.now is c.loop-feed.invariant.most c.in_ok-read_piece.ensures.counted c.loop-feed.invariant.taken c.in_ok-read_piece.ensures.fed (c.in_ok-read_piece.ensures.none no).0 c.rest.ensures (c.loop-feed.invariant.reads script is).fed in
    reads_all c.args.setting.now.limits script (stand (g.F.Files.held c.args.files.now) c.args.opened.now c.args.progress.now) (g.K.Sink.written c.args.sink.now) c.loop-feed.read c.loop-feed.feed.held (lines c.args.setting.now.limits.line c.rest.result.now) (stand (g.F.Files.held c.loop-feed.files) c.loop-feed.opened c.loop-feed.progress) (stand (g.F.Files.held c.serve_held-2.new.files) c.serve_held-2.new.opened c.serve_held-2.new.progress) (g.K.Sink.written c.loop-feed.sink) (g.K.Sink.written c.serve_held-2.new.sink) (c.loop-feed.invariant.reads script is) last c.in_ok-serve_held-2.ensures.serves)

pub returns-clause-read : goal.returns-clause-read
returns-clause-read g c =
    let no : c.in_ok-read_piece.field-0 ≡ false = search rules in
    record {
      took = λ short. takes_handed c.read_piece.new.read c.args.setting.now.limits.script (g.S.Source.left c.args.source.now) (g.S.Source.left c.read_piece.new.source) c.in_ok-read_piece.ensures.within (hands_piece c.loop-feed.read c.read_piece.new.read c.loop-feed.feed c.read_piece.new.feed (g.S.Source.left c.args.source.now) (g.S.Source.left c.loop-feed.source) (g.S.Source.left c.read_piece.new.source) c.in_ok-read_piece.ensures.counted c.loop-feed.invariant.taken c.in_ok-read_piece.ensures.fed);
      ended = (c.in_ok-read_piece.ensures.none no).0;
      short = at_script (g.S.Source.left c.args.source.now) (λ script. length script ≤ c.args.setting.now.limits.script) (λ script is.
          let short = hands_all c.read_piece.new.read (g.S.Source.left c.args.source.now) (g.S.Source.left c.read_piece.new.source) script is (hands_piece c.loop-feed.read c.read_piece.new.read c.loop-feed.feed c.read_piece.new.feed (g.S.Source.left c.args.source.now) (g.S.Source.left c.loop-feed.source) (g.S.Source.left c.read_piece.new.source) c.in_ok-read_piece.ensures.counted c.loop-feed.invariant.taken c.in_ok-read_piece.ensures.fed) (c.in_ok-read_piece.ensures.none no).0 in
          omega (arith, short, c.in_ok-read_piece.ensures.within));
      too_long = search rules;
      faults = search rules;
    }

pub returns-clause-files : goal.returns-clause-files
returns-clause-files g c =
    let no : c.in_ok-read_piece.field-0 ≡ false = search rules in
    record {
      quiet = at_script (g.S.Source.left c.args.source.now) (λ script. names_of (lines c.args.setting.now.limits.line script) ≡ [] → c.serve_held-2.new.files ≡ c.args.files.now) (λ script is nothing.
          let next = come_last c.args.setting.now.limits.line c.loop-feed.read c.read_piece.new.read c.loop-feed.opened.lines c.loop-feed.feed c.read_piece.new.feed (g.S.Source.left c.args.source.now) (g.S.Source.left c.loop-feed.source) (g.S.Source.left c.read_piece.new.source) script c.rest.result.now is c.loop-feed.invariant.most c.in_ok-read_piece.ensures.counted c.loop-feed.invariant.taken c.in_ok-read_piece.ensures.fed (c.in_ok-read_piece.ensures.none no).0 c.rest.ensures (c.loop-feed.invariant.reads script is).fed in
          c.in_ok-serve_held-2.ensures.files.quiet (none_among names_of_line c.loop-feed.opened.lines (lines c.args.setting.now.limits.line script) (lines c.args.setting.now.limits.line c.rest.result.now) [] next nothing) ∙ c.loop-feed.invariant.quiet script is nothing);
      unsaved = at_script (g.S.Source.left c.args.source.now) (λ script. names_kept_of (lines c.args.setting.now.limits.line script) ≡ [] → g.F.Files.held c.serve_held-2.new.files ≡ g.F.Files.held c.args.files.now) (λ script is nothing.
          let next = come_last c.args.setting.now.limits.line c.loop-feed.read c.read_piece.new.read c.loop-feed.opened.lines c.loop-feed.feed c.read_piece.new.feed (g.S.Source.left c.args.source.now) (g.S.Source.left c.loop-feed.source) (g.S.Source.left c.read_piece.new.source) script c.rest.result.now is c.loop-feed.invariant.most c.in_ok-read_piece.ensures.counted c.loop-feed.invariant.taken c.in_ok-read_piece.ensures.fed (c.in_ok-read_piece.ensures.none no).0 c.rest.ensures (c.loop-feed.invariant.reads script is).fed in
          c.in_ok-serve_held-2.ensures.files.unsaved (none_among names_kept_of_line c.loop-feed.opened.lines (lines c.args.setting.now.limits.line script) (lines c.args.setting.now.limits.line c.rest.result.now) [] next nothing) ∙ c.loop-feed.invariant.unsaved script is nothing);
      sure = λ sure. c.in_ok-serve_held-2.ensures.files.sure tt ∙ c.loop-feed.invariant.unkept;
    }

pub returns-clause-serving : goal.returns-clause-serving
returns-clause-serving g c = (
  c.in_ok-serve_held-2.ensures.serving,
  omega (arith, c.in_ok-serve_held-2.ensures.counted, ap length c.rest.ensures, c.in_ok-read_piece.ensures.fed.held_few, c.in_ok-read_piece.ensures.fed.count_is, c.loop-feed.invariant.counted, c.in_ok-read_piece.ensures.counted, c.in_ok-read_piece.ensures.within, c.args.setting.now.allowed.1.1.0.1),
)
