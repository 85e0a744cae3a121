use Rattle.std.proofs.Common.{◌≡◌, ◌++◌, [], ◌∷◌, OnOk, subst}
use Rattle.std.proofs.lemmas.Result.{on_ok_weaker}
use Rattle.address_space.specs.Runs.{FileEntry}
use Rattle.script_lang.specs.Answers.{record_line}
use Rattle.script_lang.proofs.PutLemmas.{record_text}
use Rattle.script_lang.proofs.put.put_record.Goals as goal

pub returns-clause-ok : goal.returns-clause-ok
returns-clause-ok c =
    let Says : FileEntry → Type 0 = λ file. OnOk c.put_end.result (c.put_end.new.out.items ≡ c.args.out.now.items ++ record_line file ++ 10 ∷ []) in
    subst Says c.file.view_is
    (on_ok_weaker c.put_end.result
    (record_text _ _ _ _ _ _ _ _ _ _ _ c.in_ok-put_field.ensures.ok c.in_ok-put_field-2.ensures.ok c.in_ok-put_field-3.ensures.ok c.as_slice.ensures)
    c.put_end.ensures.ok)
