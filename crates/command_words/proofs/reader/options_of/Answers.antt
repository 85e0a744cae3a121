use Rattle.std.proofs.Common.{IfSome, sym, subst, map, Bor, List, ℕ}
use Rattle.std.proofs.lemmas.Result.{IfOk-weaker}
use Rattle.command_words.specs.Grammar.{IsWithinLimits}
use Rattle.command_words.proofs.LimitLemmas.{within_limits}
use Rattle.command_words.proofs.reader.options_of.Goals as goal

pub returns-in-Some-clause-in_range : goal.returns-in-Some-clause-in_range
returns-in-Some-clause-in_range c =
    IfOk-weaker c.options_in.result _ _
    (λ options is. subst (λ o. IfSome o IsWithinLimits) (sym is) (within_limits (map (λ (text : Bor (List ℕ)). text.now) c.as_slice.result.now))) c.options_in.ensures
