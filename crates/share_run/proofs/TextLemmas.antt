-- The lines of a summary, one after the other, and parts of texts.
use Rattle.std.proofs.Common.{◌≡◌, ℕ, ◌+◌, ◌-◌, List, [], ◌∷◌, ◌++◌, length, append_assoc, codes, Option, refl, ap, ◌∙◌}
use Rattle.std.specs.Prelude.{decimal}
use Rattle.std.specs.Io.KnownBytes.{Appends}
use Rattle.std.proofs.KnownBytes.{Appends-nil}
use Rattle.std.proofs.lemmas.List.{append-nil}
use Rattle.live_version.specs.Contents.{files_of}
use Rattle.shared_edit.specs.Books.{ClosedContent}
use Rattle.shared_edit.specs.Histories.{count_of, is_added, is_gone, is_refused}
use Rattle.share_run.specs.Text.{GetsPart, summary}

lines_text : (editors e added a gone g refused r files f end : List ℕ) →
    editors ++ e ++ end ++ added ++ a ++ end ++ gone ++ g ++ end ++ refused ++ r ++ end ++ files ++ f ++ end ≡
    (editors ++ e ++ end) ++ ((added ++ a ++ end) ++ ((gone ++ g ++ end) ++ ((refused ++ r ++ end) ++ ((files ++ f ++ end) ++ []))))
lines_text editors e added a gone g refused r files f end = simp (append_assoc, append-nil)

-- what is put line by line is the summary
pub summary-put : (editors added gone refused files : ℕ) (closed : ClosedContent) (out_0 out_1 out_2 out_3 out_4 out_5 : List ℕ) → out_0 ≡ [] → out_1 ≡ out_0 ++ codes "editors " ++ decimal editors ++ 10 ∷ [] →
    out_2 ≡ out_1 ++ codes "added " ++ decimal added ++ 10 ∷ [] → out_3 ≡ out_2 ++ codes "gone " ++ decimal gone ++ 10 ∷ [] →
    out_4 ≡ out_3 ++ codes "refused " ++ decimal refused ++ 10 ∷ [] → out_5 ≡ out_4 ++ codes "files " ++ decimal files ++ 10 ∷ [] →
    added ≡ count_of is_added closed.journal → gone ≡ count_of is_gone closed.journal → refused ≡ count_of is_refused closed.journal → files ≡ length (files_of closed.engine.version.slots) →
    out_5 ≡ summary editors closed
summary-put editors added gone refused files closed out_0 out_1 out_2 out_3 out_4 out_5 e_0 e_1 e_2 e_3 e_4 e_5 a g r f =
    e_5 ∙ (λ i. e_4 i ++ codes "files " ++ decimal (f i) ++ 10 ∷ []) ∙ (λ i. (e_3 i ++ codes "refused " ++ decimal (r i) ++ 10 ∷ []) ++ codes "files " ++ decimal (length (files_of closed.engine.version.slots)) ++ 10 ∷ [])
    ∙ (λ i. ((e_2 i ++ codes "gone " ++ decimal (g i) ++ 10 ∷ []) ++ codes "refused " ++ decimal (count_of is_refused closed.journal) ++ 10 ∷ []) ++ codes "files " ++ decimal (length (files_of closed.engine.version.slots)) ++ 10 ∷ [])
    ∙ (λ i. (((e_1 i ++ codes "added " ++ decimal (a i) ++ 10 ∷ []) ++ codes "gone " ++ decimal (count_of is_gone closed.journal) ++ 10 ∷ []) ++ codes "refused " ++ decimal (count_of is_refused closed.journal) ++ 10 ∷ []) ++ codes "files " ++ decimal (length (files_of closed.engine.version.slots)) ++ 10 ∷ [])
    ∙ (λ i. ((((e_0 i ++ codes "editors " ++ decimal editors ++ 10 ∷ []) ++ codes "added " ++ decimal (count_of is_added closed.journal) ++ 10 ∷ []) ++ codes "gone " ++ decimal (count_of is_gone closed.journal) ++ 10 ∷ []) ++ codes "refused " ++ decimal (count_of is_refused closed.journal) ++ 10 ∷ []) ++ codes "files " ++ decimal (length (files_of closed.engine.version.slots)) ++ 10 ∷ [])
    ∙ lines_text (codes "editors ") (decimal editors) (codes "added ") (decimal (count_of is_added closed.journal)) (codes "gone ") (decimal (count_of is_gone closed.journal)) (codes "refused ") (decimal (count_of is_refused closed.journal))
    (codes "files ") (decimal (length (files_of closed.engine.version.slots))) (10 ∷ [])

-- nothing is the beginning of any text
pub no_part : (written : Option (List ℕ)) (text : List ℕ) → GetsPart written written text
no_part written text = record { part = []; rest = text; whole = refl; written = Appends-nil written }
