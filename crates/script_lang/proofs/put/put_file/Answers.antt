use Rattle.std.proofs.Common.{codes}
use Rattle.std.proofs.lemmas.Result.{on_ok_weaker}
use Rattle.script_lang.proofs.PutLemmas.{file_text}
use Rattle.script_lang.proofs.put.put_file.Goals as goal

pub returns-clause-ok : goal.returns-clause-ok
returns-clause-ok c =
    on_ok_weaker c.put_pair.result (file_text (codes "file ") (codes " ") _ _ _ _ _ _ _ c.in_ok-put_text.ensures.ok c.in_ok-put_field.ensures.ok)
    c.put_pair.ensures.ok
