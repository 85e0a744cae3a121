use Rattle.std.proofs.Common.{◌≡◌, map, drop}
use Rattle.std.specs.List.{list_any}
use Rattle.gcl_model.specs.FormOf.{form_of}
use Rattle.reader_pass.specs.Members.{is_the_term}
use Rattle.reader_pass.proofs.counted.has_term.Given as goal

-- the term is among those that are left exactly if it is among all
abbrev pub invariant-loop-operand : goal.invariant-loop-operand
invariant-loop-operand l = list_any (is_the_term l.token) (map form_of (drop l.operand-index l.operands)) ≡ list_any (is_the_term l.token) (map form_of l.operands)
