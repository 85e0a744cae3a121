use Rattle.std.proofs.Common.{◌≡◌, ◌≤◌, ◌∷◌, Bool, true, List, Result, Ok, Err, IfOk}
use Rattle.script_lang.specs.Lines.{cut_at_newlines}
use Rattle.passages.specs.declared.passage.Passage.{Passage}
use Rattle.passages.specs.Lines.{lines_at, lines_met}
use Rattle.passages.proofs.LineLemmas.{met-behind}
use Rattle.passages.proofs.lines.put_lines.Goals as goal
use Rattle.std.proofs.Common.{drop}

all_met : {E : Type 0} (result : Result Bool E) (P Q : Type 0) → IfOk result (λ all. all ≡ true → P) → (P → Q) → IfOk result (λ all. all ≡ true → Q)
all_met (Ok all) P Q all_is step = λ e. step (all_is e)
all_met (Err e) P Q all_is step = tt

pub returns-clause-all : goal.returns-clause-all
returns-clause-all c =
    let cursor = c.put_met.new.cursor in
    all_met c.put_met.result (c.args.p.to ≤ cursor.at) ((later : List Passage) → lines_met (c.args.p ∷ later) (lines_at c.args.bytes.now cursor) ≡ lines_met later (lines_at c.args.bytes.now cursor))
    c.put_met.ensures.all (λ past later. met-behind c.args.p later cursor.number cursor.at (cut_at_newlines (drop cursor.at c.args.bytes.now)) past)
