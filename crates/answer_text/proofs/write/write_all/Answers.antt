use Rattle.std.proofs.Common.{ℕ, List, ◌-◌, take, drop, sym, ◌∙◌, subst, rules}
use Rattle.std.proofs.lemmas.List.{take-append-drop}
use Rattle.std.proofs.Math.Seq.{take-add}
use Rattle.std.specs.Io.KnownBytes.{Appends}
use Rattle.std.proofs.KnownBytes.{Appends-kept, Appends-trans}
use Rattle.answer_text.proofs.PutLemmas.{piece_front}
use Rattle.answer_text.proofs.write.write_all.Goals as goal

pub returns-in_err-at-clause-part : goal.returns-in_err-at-clause-part
returns-in_err-at-clause-part g c = record {
  part = take c.loop-at.at c.args.text.now;
  rest = drop c.loop-at.at c.args.text.now;
  whole = sym (take-append-drop c.loop-at.at c.args.text.now);
  written = Appends-kept _ _ _ _ c.loop-at.invariant.written c.in_err-at.ensures.bytes;
}

pub loop-at-preserved : goal.loop-at-preserved
loop-at-preserved g c =
    let text = c.args.text.now in
    let at = c.loop-at.at in
    let n : ℕ = c.in_ok-at.field-0 in
    let piece = c.in_ok-at.ensures.bytes in
    let more = subst (λ (l : List ℕ). Appends (g.K.Sink.written c.loop-at.sink) (g.K.Sink.written c.write.new.self) l) (piece_front n (c.min-end.result - at) (drop at text) (search rules)) piece in
    record {
      within = search rules;
      written = subst (λ (l : List ℕ). Appends (g.K.Sink.written c.args.sink.now) (g.K.Sink.written c.write.new.self) l) (sym (take-add at n text)) (Appends-trans _ _ _ _ _ c.loop-at.invariant.written more);
      later = search rules;
      calm = c.in_ok-at.ensures.counts ∙ c.loop-at.invariant.calm;
    }
