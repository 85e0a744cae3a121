use Rattle.std.proofs.Common.{◌≡◌, ℕ, ◌+◌, ◌<◌, true, [], ◌∷◌, ◌++◌, inl, inr, sym, ap, ◌∙◌, subst, arith}
use Rattle.std.specs.List.{AllByRecursion}
use Rattle.std.proofs.lemmas.Bool.{cases_lt, or_left, or_right}
use Rattle.address_space.specs.Runs.{FileEntry}
use Rattle.index_shard.specs.Tables.{words_of}
use Rattle.index_shard.proofs.ShardWords.{shard_words_rise}
use Rattle.live_version.specs.Contents.{is_of_file, is_of_files}
use Rattle.live_version.proofs.ChangeFiles.{is_of_file-inside}
use Rattle.live_version.proofs.WordLemmas.{owned_by}
use Rattle.index_tests.proofs.fingers.three_files.Goals as goal

three : (a b d : FileEntry) → a.base ≡ 0 → a.len ≡ 1000 → b.base ≡ 1000 → b.len ≡ 1000 → d.base ≡ 2000 → d.len ≡ 1000 → (p : ℕ) → p < 3000 → is_of_files (a ∷ b ∷ d ∷ []) p ≡ true
three a b d a1 a2 b1 b2 d1 d2 p lt =
    elim (cases_lt p 1000) [
      | inl h ↦ or_left (is_of_file p a) (is_of_files (b ∷ d ∷ []) p) (is_of_file-inside p a (omega arith) (omega arith))
      | inr h ↦ or_right (is_of_file p a) (is_of_files (b ∷ d ∷ []) p)
          (elim (cases_lt p 2000) [
            | inl k ↦ or_left (is_of_file p b) (is_of_files (d ∷ []) p) (is_of_file-inside p b (omega arith) (omega arith))
            | inr k ↦ or_right (is_of_file p b) (is_of_files (d ∷ []) p) (or_left (is_of_file p d) (is_of_files [] p) (is_of_file-inside p d (omega arith) (omega arith)))
          ])
    ]

pub new-requires-clause-owned : goal.new-requires-clause-owned
new-requires-clause-owned c =
    let a = c.in_ok-file.field-0 in
    let b = c.in_ok-file-2.field-0 in
    let d = c.in_ok-file-3.field-0 in
    let shard = c.args.shard in
    let last = ap (λ r. r.last) c.requires in
    let files = c.in_ok-push-3.ensures.ok ∙ ap (λ l. l ++ d ∷ []) (c.in_ok-push-2.ensures.ok ∙ ap (λ l. l ++ b ∷ []) (c.in_ok-push.ensures.ok ∙ ap (λ l. l ++ a ∷ []) c.new-files.ensures)) in
    subst (λ fs. AllByRecursion (λ w. is_of_files fs w.address ≡ true) (words_of shard)) (sym files)
    (owned_by (a ∷ b ∷ d ∷ []) (shard.range.last + 1) shard.range.first (words_of shard) (shard_words_rise shard c.term_count-terms.ensures.shard)
    (λ p lt. three a b d c.in_ok-file.ensures.base c.in_ok-file.ensures.len c.in_ok-file-2.ensures.base c.in_ok-file-2.ensures.len c.in_ok-file-3.ensures.base c.in_ok-file-3.ensures.len p (omega arith)))
