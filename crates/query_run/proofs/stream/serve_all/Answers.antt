use Rattle.std.proofs.Common.{◌≡◌, refl, sym, ap, subst, arith, rules}
use Rattle.live_version.specs.Contents.{VersionContent}
use Rattle.standing_query.specs.Watches.{AreWellFormedWatches, WatchListContent}
use Rattle.script_answers.specs.States.{Keeps}
use Rattle.script_answers.specs.inner.Service.{merges_pending, stand}
use Rattle.script_answers.proofs.SaveReplies.{fresh_savable}
use Rattle.query_run.proofs.Told.{told_serves, told_within}
use Rattle.query_run.proofs.stream.serve_all.Goals as goal

pub serve_script-requires-clause-serving : goal.serve_script-requires-clause-serving
serve_script-requires-clause-serving g c κs within =
    let none : c.args.opened.now.lines ≡ 0 = c.requires.opened.none in
    let number : c.args.opened.now.engine.version.number ≡ 0 = ap (λ (v : VersionContent). v.number) c.requires.opened.version in
    let idle = ap merges_pending c.requires.progress.2 in
    let asked = c.requires.progress.0 in
    record {
      savable = fresh_savable c.args.opened.now.engine c.args.opened.now.lines c.requires.opened c.version-version.ensures.engine;
      numbers = omega (arith, number, idle);
      asked = omega (arith, asked);
      lanes = c.requires.readers.1;
      of = c.requires.readers.0;
      watches = subst (λ (w : WatchListContent). AreWellFormedWatches w.live) (sym c.requires.progress.3) tt;
      numbered = let next = ap (λ (w : WatchListContent). w.next) c.requires.progress.3 in omega (arith, next);
    }

pub returns-in_err-serve_script-clause-part_within : goal.returns-in_err-serve_script-clause-part_within
returns-in_err-serve_script-clause-part_within g c = λ long.
    told_within c.args.setting.now.limits (stand (g.F.Files.held c.args.files.now) c.args.opened.now c.args.progress.now) c.args.opened.now.engine.version.first (g.S.Source.left c.args.source.now) c.requires.opened refl c.requires.progress.2 c.requires.progress.3 (stand (g.F.Files.held c.serve_script.new.files) c.serve_script.new.opened c.serve_script.new.progress) (g.K.Sink.written c.args.sink.now) (g.K.Sink.written c.serve_script.new.sink) (c.in_err-serve_script.ensures.within (search rules))

pub returns-in_err-merge_pending-clause-stopped : goal.returns-in_err-merge_pending-clause-stopped
returns-in_err-merge_pending-clause-stopped g c =
    told_serves c.args.setting.now.limits (stand (g.F.Files.held c.args.files.now) c.args.opened.now c.args.progress.now) c.args.opened.now.engine.version.first (g.S.Source.left c.args.source.now) c.requires.opened refl c.requires.progress.2 c.requires.progress.3 _ _ (stand (g.F.Files.held c.serve_script.new.files) c.serve_script.new.opened c.serve_script.new.progress) c.merge_pending.new.engine (g.K.Sink.written c.args.sink.now) (g.K.Sink.written c.serve_script.new.sink) (search rules)
    (λ state keeps. (subst (λ e. Keeps e c.serve_script.new.progress.pending state) (sym c.in_err-merge_pending.ensures.err) keeps).stands) c.in_ok-serve_script.ensures.serves

pub returns-clause-stopped : goal.returns-clause-stopped
returns-clause-stopped g c =
    told_serves c.args.setting.now.limits (stand (g.F.Files.held c.args.files.now) c.args.opened.now c.args.progress.now) c.args.opened.now.engine.version.first (g.S.Source.left c.args.source.now) c.requires.opened refl c.requires.progress.2 c.requires.progress.3 _ _ (stand (g.F.Files.held c.serve_script.new.files) c.serve_script.new.opened c.serve_script.new.progress) c.merge_pending.new.engine (g.K.Sink.written c.args.sink.now) (g.K.Sink.written c.serve_script.new.sink) (λ failed. failed)
    (λ state keeps. (c.in_ok-merge_pending.ensures.keeps state keeps).stands) c.in_ok-serve_script.ensures.serves
