use Rattle.std.proofs.Common.{length, ap, arith}
use Rattle.word_tokens.proofs.JoinedLemmas.{length-cut_from}
use Rattle.word_tokens.proofs.joined.TokenText.len.Goals as goal

pub returns : goal.returns
returns c =
    let f = c.self.inside in
    omega (arith, f.ends.ok.0, length-cut_from 0 f.ends.items f.bytes.items, ap length c.self.view_is)
