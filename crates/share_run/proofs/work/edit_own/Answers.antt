use Rattle.std.proofs.Common.{◌≡◌, ◌+◌, ◌≤◌, ap, ◌∙◌, subst, arith}
use Rattle.share_run.specs.Work.{answers_of, files_for}
use Rattle.share_run.proofs.work.edit_own.Goals as goal

pub returns : goal.returns
returns g c = λ yes'.
    let i = c.loop-i.invariant in
    let e = c.args.editor.now in
    let added = i.added in
    let few = i.few in
    let all : c.loop-i.i ≡ c.args.options.now.count = omega (arith, c.loop-i-test.false, c.loop-i.auto.i-end) in
    record {
      dels = c.loop-i.progress.dels;
      number = i.number;
      answers = i.answers ∙ ap (λ n. answers_of e + files_for c.args.options.now.editors e.number n + c.loop-i.progress.dels) all;
      within = subst (λ n. c.loop-i.editor.added ≤ e.added + files_for c.args.options.now.editors e.number n) all i.within;
      least = omega (arith, added);
      most = omega (arith, added, few);
      gone = i.gone;
    }
