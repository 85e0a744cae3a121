use Rattle.std.proofs.Common.{List, ℕ, length, ap, subst, ◌∙◌, arith}
use Rattle.word_tokens.specs.Joined.{AreJoined}
use Rattle.word_tokens.proofs.JoinedLemmas.{length-cut_from, start-at}
use Rattle.word_tokens.proofs.joined.TokenText.start.Goals as goal

pub index-requires : goal.index-requires
index-requires c =
    let f = c.self.inside in
    omega (arith, f.ends.ok.0, length-cut_from 0 f.ends.items f.bytes.items, ap length c.self.view_is)

pub returns-else-i-eq0 : goal.returns-else-i-eq0
returns-else-i-eq0 c =
    let f = c.self.inside in
    let join : AreJoined c.args.self.now f.bytes.items f.ends.items = subst (λ (tokens : List (List ℕ)). AreJoined tokens f.bytes.items f.ends.items) c.self.view_is c.self.invariant in
    c.index.ensures ∙ start-at c.args.self.now f.bytes.items f.ends.items join c.args.i _ (omega arith) (omega arith)
