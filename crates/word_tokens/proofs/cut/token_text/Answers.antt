use Rattle.std.proofs.Common.{sym, subst}
use Rattle.gcl_model.specs.Tokens.{tokens_of}
use Rattle.word_tokens.specs.Joined.{AreJoined}
use Rattle.word_tokens.proofs.JoinedLemmas.{all_joined, are_joined}
use Rattle.word_tokens.proofs.cut.token_text.Goals as goal

pub invariant_of-result : goal.invariant_of-result
invariant_of-result c =
    let join = all_joined c.args.bytes.now c.loop-rest.joined.items c.loop-rest.ends.items c.loop-rest.rest.now c.loop-rest-test.ensures c.loop-rest.invariant.0 c.loop-rest.invariant.1 in
    subst (λ tokens. AreJoined tokens c.loop-rest.joined.items c.loop-rest.ends.items) (sym (are_joined (tokens_of c.args.bytes.now) _ _ join.joined join.cut)) join

pub returns : goal.returns
returns c =
    let join = all_joined c.args.bytes.now c.loop-rest.joined.items c.loop-rest.ends.items c.loop-rest.rest.now c.loop-rest-test.ensures c.loop-rest.invariant.0 c.loop-rest.invariant.1 in
    are_joined (tokens_of c.args.bytes.now) _ _ join.joined join.cut
