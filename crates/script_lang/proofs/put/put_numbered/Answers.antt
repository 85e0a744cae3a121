use Rattle.std.proofs.lemmas.Result.{on_ok_weaker}
use Rattle.script_lang.proofs.PutLemmas.{number_text}
use Rattle.script_lang.proofs.put.put_numbered.Goals as goal

pub returns-clause-ok : goal.returns-clause-ok
returns-clause-ok c = on_ok_weaker c.put_last.result (number_text _ _ _ _ _ c.in_ok-put_text.ensures.ok) c.put_last.ensures.ok
