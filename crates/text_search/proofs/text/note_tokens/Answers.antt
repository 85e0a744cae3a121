use Rattle.std.proofs.Common.{◌≡◌, ◌+◌, List, ℕ, ◌∷◌, ◌++◌, length, map, take, drop, ap, arith, ◌∙◌, sym}
use Rattle.std.proofs.lemmas.List.{append-nil, length-map, drop-drop}
use Rattle.gcl_model.specs.Collections.{words_from}
use Rattle.gcl_model.specs.Tokens.{tokens_of}
use Rattle.word_tokens.proofs.PartLemmas.{few_tokens}
use Rattle.token_places.specs.Places.{Placed}
use Rattle.token_places.proofs.PlaceLemmas.{tokens_have_places}
use Rattle.text_search.specs.Tables.{filled, noted}
use Rattle.text_search.proofs.FileLemmas.{filled-more, words_noted}
use Rattle.text_search.proofs.text.note_tokens.Goals as goal

pub loop-token-init : goal.loop-token-init
loop-token-init c =
    let same : map (λ (t : Placed). t.token) c.new-cursor.result ≡ tokens_of c.args.bytes.now = ap (map (λ (t : Placed). t.token)) c.new-cursor.ensures ∙ tokens_have_places c.args.bytes.now in
    record {
      rest = same;
      size = omega (arith, length-map c.new-cursor.result (λ (t : Placed). t.token), ap length same);
      noted = λ words names h. h ∙ ap (λ ws. filled ws names) (sym (append-nil words));
    }

pub overflow_add-passed : goal.overflow_add-passed
overflow_add-passed c = omega (arith, c.loop-token.invariant.size, ap length c.in-Some.ensures.some, few_tokens c.args.bytes.now, c.requires)

pub loop-token-preserved : goal.loop-token-preserved
loop-token-preserved c =
    let tokens = tokens_of c.args.bytes.now in
    let i = c.loop-token.passed in
    let more : List (List ℕ) = map (λ (t : Placed). t.token) c.next.new.self in
    let is : drop i tokens ≡ c.in-Some.token.token ∷ more = sym c.loop-token.invariant.rest ∙ ap (map (λ (t : Placed). t.token)) c.in-Some.ensures.some in
    record {
      rest = sym (sym (drop-drop 1 i tokens) ∙ ap (drop 1) is);
      size = omega (arith, c.loop-token.invariant.size, ap length c.in-Some.ensures.some);
      noted = λ words names h.
          c.in_ok-note.ensures ∙ ap (map (noted c.in-Some.token.token (i + 1))) (c.loop-token.invariant.noted words names h)
          ∙ filled-more (words ++ words_from 1 (take i tokens)) names c.in-Some.token.token (i + 1) ∙ ap (λ ws. filled ws names) (words_noted words tokens more c.in-Some.token.token i is);
    }

pub overflow_add-result : goal.overflow_add-result
overflow_add-result c = omega (arith, c.loop-token.invariant.size, few_tokens c.args.bytes.now, c.requires)
