use Rattle.std.proofs.Common.{◌≡◌, ◌<◌, ◌++◌, ◌∷◌, [], length, slice_get, Some, rules, refl, ap, ◌∙◌}
use Rattle.std.proofs.lemmas.Option.{slice_get_read}
use Rattle.gcl_model.specs.Texts.{Text}
use Rattle.live_version.specs.Contents.{version_text}
use Rattle.query_lanes.specs.declared.asks.Ask.{Ask}
use Rattle.query_lanes.specs.Answers.{answer_in}
use Rattle.query_lanes.proofs.ListLemmas.{map-take_more}
use Rattle.query_lanes.proofs.gather.gather.Goals as goal

pub loop-j-preserved-in-Some : goal.loop-j-preserved-in-Some
loop-j-preserved-in-Some c =
    let text : Text = version_text c.args.engine.now.version in
    let within : c.loop-j.j < length c.args.asks.now = search rules in
    record {
      answers = c.in_ok-push.ensures.items ∙ (ap (λ l. l ++ c.in-Some.found ∷ []) c.loop-j.invariant.answers
          ∙ map-take_more (answer_in text) c.args.asks.now c.loop-j.j c.in-Some.found within (λ ask asked. c.in-Some.ensures.found text ask c.loop-j.invariant.trusted asked));
      trusted = c.take_kept.ensures.trusted text c.loop-j.invariant.trusted;
    }

pub loop-j-preserved : goal.loop-j-preserved
loop-j-preserved c =
    let text : Text = version_text c.args.engine.now.version in
    let within : c.loop-j.j < length c.args.asks.now = search rules in
    let got : slice_get c.args.asks.now c.loop-j.j ≡ Some c.index-asks-j.result = slice_get_read c.args.asks.now (length c.args.asks.now) c.loop-j.j c.index-asks-j.result refl within c.index-asks-j.is in
    let made : c.in_ok-found.found ≡ answer_in text c.index-asks-j.result = c.in_ok-found.ensures in
    record {
      answers = c.in_ok-push-2.ensures.items ∙ (ap (λ l. l ++ c.in_ok-found.found ∷ []) c.loop-j.invariant.answers
          ∙ map-take_more (answer_in text) c.args.asks.now c.loop-j.j c.in_ok-found.found within (λ ask asked. let same : c.index-asks-j.result ≡ ask = cc (got, asked) in made ∙ ap (λ (a : Ask). answer_in text a) same));
      trusted = c.take_kept.ensures.trusted text c.loop-j.invariant.trusted;
    }
