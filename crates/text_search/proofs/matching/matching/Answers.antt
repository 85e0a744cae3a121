use Rattle.std.proofs.Common.{ap, ◌∙◌}
use Rattle.gcl_model.specs.Collections.{file_start, file_end}
use Rattle.gcl_model.specs.Tokens.{tokens_of}
use Rattle.token_places.specs.Places.{Placed}
use Rattle.text_search.specs.Matching.{with_match, with_matches}
use Rattle.text_search.proofs.MatchLemmas.{match_file}
use Rattle.text_search.proofs.matching.matching.Goals as goal

pub returns : goal.returns
returns c =
    let prefix = c.args.prefix.now in
    let bytes = c.args.bytes.now in
    c.in_ok-list.ensures ∙ c.as_slice.ensures.value ∙ c.in_ok-put_match-2.ensures
    ∙ ap (λ (t : Placed). with_match prefix t.token c.put_matches.new.words.items) c.file_end.ensures
    ∙ ap (with_match prefix file_end) (
    c.in_ok-put_matches.ensures
    ∙ ap (with_matches prefix (tokens_of bytes)) (
    c.in_ok-put_match.ensures
    ∙ ap (λ (t : Placed). with_match prefix t.token c.new-words.result.items) c.file_start.ensures
    ∙ ap (with_match prefix file_start) c.new-words.ensures.items))
    ∙ match_file bytes prefix
