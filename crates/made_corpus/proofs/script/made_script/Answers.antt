use Rattle.std.proofs.Common.{◌+◌, ◌-◌, ◌*◌, ◌≤◌, refl, ◌∙◌, arith}
use Rattle.made_corpus.proofs.LineLemmas.{script-step, script-done, script-count, script-counted}
use Rattle.made_corpus.proofs.script.made_script.Goals as goal

pub loop-i-preserved : goal.loop-i-preserved
loop-i-preserved c =
    let before = c.loop-i.invariant in
    let put = c.in_ok-lines.ensures in
    let few : c.loop-i.lines ≤ 5 * c.loop-i.i = before.few in
    record {
      text = script-step (c.args.count - c.loop-i.i) (c.args.count - (c.loop-i.i + 1)) c.loop-i.i (c.loop-i.i + 1) c.loop-i.draws.state _ c.loop-i.out.items _ _ (omega arith) refl put.lines before.text;
      number = script-count (c.args.count - c.loop-i.i) (c.args.count - (c.loop-i.i + 1)) c.loop-i.i (c.loop-i.i + 1) c.loop-i.draws.state _ c.loop-i.lines _ _ (omega arith) refl put.lines.state put.number before.number;
      few = omega (arith, few, put.few);
    }

pub returns-clause-text : goal.returns-clause-text
returns-clause-text c = c.of.ensures ∙ script-done (c.args.count - c.loop-i.i) c.loop-i.i c.loop-i.draws.state c.loop-i.out.items _ (omega arith) c.loop-i.invariant.text

pub returns-clause-lines : goal.returns-clause-lines
returns-clause-lines c = script-counted (c.args.count - c.loop-i.i) c.loop-i.i c.loop-i.draws.state c.loop-i.lines _ (omega arith) c.loop-i.invariant.number
