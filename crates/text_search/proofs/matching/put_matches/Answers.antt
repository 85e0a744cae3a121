use Rattle.std.proofs.Common.{map, ap, sym, ◌∙◌}
use Rattle.token_places.specs.Places.{Placed}
use Rattle.token_places.proofs.PlaceLemmas.{tokens_have_places}
use Rattle.text_search.specs.Matching.{with_matches}
use Rattle.text_search.proofs.matching.put_matches.Goals as goal

pub loop-token-init : goal.loop-token-init
loop-token-init c =
    ap (λ tokens. with_matches c.args.prefix.now tokens c.args.words.now.items) (ap (map (λ (t : Placed). t.token)) c.new-cursor.ensures ∙ tokens_have_places c.args.bytes.now)

pub loop-token-preserved : goal.loop-token-preserved
loop-token-preserved c =
    ap (λ words. with_matches c.args.prefix.now (map (λ (t : Placed). t.token) c.next.new.self) words) c.in_ok-put_match.ensures
    ∙ sym (ap (λ tokens. with_matches c.args.prefix.now (map (λ (t : Placed). t.token) tokens) c.loop-token.words.items) c.in-Some.ensures.some)
    ∙ c.loop-token.invariant
