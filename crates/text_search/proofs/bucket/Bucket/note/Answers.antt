use Rattle.std.proofs.Common.{arith, ap, ◌∙◌}
use Rattle.text_search.specs.Tables.{tokens_in}
use Rattle.text_search.proofs.TableLemmas.{note_other, note_same, note_failed, tokens-done, length_done}
use Rattle.text_search.proofs.bucket.Bucket.note.Goals as goal

pub loop-i-preserved-then-not-is : goal.loop-i-preserved-then-not-is
loop-i-preserved-then-not-is c = record {
  size = c.loop-i.invariant.size;
  entries = note_other c.args.token.now.token c.args.address c.loop-i.self-inside.terms.items c.args.self.now c.loop-i.i c.index_mut-term.result.now c.is.result c.loop-i.invariant.entries
      (omega (arith, c.loop-i.invariant.size, c.loop-i-test.true)) c.index_mut-term.ensures.value c.is.ensures.1 c.if-not-is.true;
}

pub returns-in_err-push-clause-tokens : goal.returns-in_err-push-clause-tokens
returns-in_err-push-clause-tokens c =
    note_failed c.args.token.now.token c.args.address c.loop-i.self-inside.terms.items c.args.self.now c.loop-i.i c.index_mut-term.result.now c.push.new.self c.loop-i.invariant.entries
    (length_done c.args.token.now.token c.args.address c.loop-i.self-inside.terms.items c.args.self.now c.loop-i.i c.loop-i.invariant.entries (omega (arith, c.loop-i.invariant.size, c.loop-i-test.true)))
    c.index_mut-term.ensures.value c.push.ensures.token

pub loop-i-preserved : goal.loop-i-preserved
loop-i-preserved c = record {
  size = c.loop-i.invariant.size;
  entries = note_same c.args.token.now.token c.args.address c.loop-i.self-inside.terms.items c.args.self.now c.loop-i.i c.index_mut-term.result.now c.push.new.self c.loop-i.invariant.entries
      (omega (arith, c.loop-i.invariant.size, c.loop-i-test.true)) c.index_mut-term.ensures.value (c.is.ensures.0 c.if-not-is.false) c.push.ensures.token c.in_ok-push.ensures.ok;
}

pub returns-clause-tokens : goal.returns-clause-tokens
returns-clause-tokens c = ap tokens_in c.loop-i.invariant.entries ∙ tokens-done c.args.token.now.token c.args.address c.args.self.now c.loop-i.i
