use Rattle.std.proofs.Common.{take}
use Rattle.text_search.specs.Tables.{tokens_in, AreEmpty, Names}
use Rattle.text_search.proofs.names.put_tokens.Given as goal

-- the tokens so far are in the table
abbrev pub invariant-loop-token : goal.invariant-loop-token
invariant-loop-token l = record {
  named : Names (tokens_in l.fn.table) (tokens_in l.table) (take l.token-index l.tokens);
  empty : AreEmpty l.fn.table → AreEmpty l.table;
}
