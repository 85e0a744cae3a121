use Rattle.std.proofs.Common.{cond, ap, sym, ◌∙◌}
use Rattle.wide_terms.specs.Vocabulary.{with_token}
use Rattle.text_search.proofs.MatchLemmas.{begins_yes, begins_no}
use Rattle.text_search.proofs.matching.put_match.Goals as goal

pub returns-then-not-starts_with : goal.returns-then-not-starts_with
returns-then-not-starts_with c =
    let token = c.args.token.now.token in
    let words = c.args.words.now.items in
    sym (ap (λ b. cond b (with_token token words) words) (begins_no c.args.prefix.now token c.starts_with.result c.starts_with.ensures c.if-not-starts_with.true))

pub returns : goal.returns
returns c =
    let token = c.args.token.now.token in
    let words = c.args.words.now.items in
    c.in_ok-put_word.ensures ∙ ap (λ word. with_token word words) c.in_ok-word.ensures
    ∙ sym (ap (λ b. cond b (with_token token words) words) (begins_yes c.args.prefix.now token c.starts_with.result c.starts_with.ensures c.if-not-starts_with.false))
