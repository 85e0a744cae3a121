use Rattle.std.proofs.Common.{map, take}
use Rattle.gcl_model.specs.FormOf.{form_of, forms_from}
use Rattle.text_search.specs.Names.{names_in}
use Rattle.text_search.specs.Tables.{tokens_in, AreEmpty, Names}
use Rattle.text_search.proofs.names.+put.Given as goal

-- the names of the operands so far are in the table
abbrev pub invariant-put_each-loop-operand : goal.invariant-put_each-loop-operand
invariant-put_each-loop-operand l = record {
  named : Names (tokens_in l.fn.table) (tokens_in l.table) (names_in (forms_from (map form_of (take l.operand-index l.operands))));
  empty : AreEmpty l.fn.table → AreEmpty l.table;
}
