use Rattle.std.proofs.Common.{◌≡◌, true, sym, ◌∙◌, subst}
use Rattle.gcl_model.specs.Forms.{phrase}
use Rattle.phrase_walk.specs.Starts.{is_one_word}
use Rattle.gcl_eval.specs.KnownAnswers.{KnowsRun}
use Rattle.gcl_eval.specs.declared.direction.Access.TheVariants.{FirstStart}
use Rattle.gcl_eval.proofs.Found.{access_within}
use Rattle.gcl_eval.proofs.RunLemmas.{known_run, run_is_kept}
use Rattle.gcl_eval.proofs.onward.first_of_phrase.Goals as goal
use Rattle.gcl_eval.proofs.onward.first_of_phrase.Goals.{then-is_some, then-is_some-via-then-is_some, then-is_some-via-else-is_some+then-has_one_word, else-is_some+else-has_one_word}

pub returns-clause-within : goal.returns-clause-within
returns-clause-within g c =
    access_within FirstStart (g.C.CountedLeaves.text c.args.source.now) (phrase c.args.tokens.now) c.args.k c.in_ok-answer.answer c.span-span.ensures.sound c.in_ok-answer.ensures.answer

pub returns-clause-known : goal.returns-clause-known
returns-clause-known g c =
    let text = g.C.CountedLeaves.text c.args.source.now in
    let tokens = c.args.tokens.now in
    let last : KnowsRun text tokens c.known_of-last.result = subst (λ o. KnowsRun text tokens o) (sym c.known_of-last.ensures) c.requires.known in
    let within = access_within FirstStart text (phrase tokens) c.args.k c.in_ok-answer.answer c.span-span.ensures.sound c.in_ok-answer.ensures.answer in
    elim c.if-is_some.branch [
      | then-is_some w ↦
          let one : is_one_word tokens ≡ true = elim w.then-is_some.branch [
            | then-is_some-via-then-is_some v ↦ known_run text tokens c.known_of-last.result last (sym c.is_some.ensures ∙ v.if-is_some.true)
            | then-is_some-via-else-is_some+then-has_one_word v ↦ sym v.has_one_word.ensures ∙ v.if-has_one_word.true
          ] in
          rw (w.known-is, w.keep.ensures) (run_is_kept text tokens c.args.known.now w.asked_at.result c.args.k c.in_ok-answer.answer one w.asked_at.ensures.at w.asked_at.ensures.answer c.in_ok-answer.ensures.answer within)
      | else-is_some+else-has_one_word w ↦ rw w.known-is c.requires.known
    ]
