use Rattle.std.proofs.Common.{codes}
use Rattle.std.proofs.lemmas.Result.{on_ok_weaker}
use Rattle.script_lang.proofs.PutLemmas.{fault_text}
use Rattle.script_lang.proofs.put.put_query_fault.Goals as goal

pub returns-clause-ok : goal.returns-clause-ok
returns-clause-ok c =
    on_ok_weaker c.put_end.result
    (fault_text (codes "! query at ") _ (codes ": ") _ _ _ _ _ _ _ c.in_ok-put_text.ensures.ok c.in_ok-put_number.ensures.ok c.in_ok-put_text-2.ensures.ok c.kind_text.ensures)
    c.put_end.ensures.ok
