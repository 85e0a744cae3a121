use Rattle.std.proofs.Common.{rules, ◌≡◌, [], ◌∙◌, ap, subst}
use Rattle.live_version.specs.Contents.{VersionContent}
use Rattle.manifest_publish.specs.Histories.{IsLawful, IsLatest}
use Rattle.manifest_publish.specs.Accounts.{account, EndsWith, IsOwed, ReaderContent, reader_content}
use Rattle.manifest_publish.proofs.ReaderLemmas.{owed-told, owed-behind, caught_up, told-none}
use Rattle.manifest_publish.proofs.reader.Reader.stay.Goals as goal
use Rattle.manifest_publish.proofs.reader.Reader.stay.Goals.{then-self-via-then-self, then-self-via-else-self+then-number}

pub returns-then-self-clause-no_entry : goal.returns-then-self-clause-no_entry
returns-then-self-clause-no_entry c n e =
    let r = c.self.inside in
    let w = c.version.result.now in
    let ends : EndsWith r.kept.history w = c.version.ensures in
    let is : c.number-number.result ≡ w.number = c.number-number.ensures.value in
    let same : n ≡ c.number-number.result = cc e in
    let owed : IsOwed (reader_content r.seen.publisher r.seen.history r.told r.kept.history) = elim c.then-self.branch [
      | then-self-via-then-self b ↦ owed-told r.seen r.due r.kept r.told r.learnt c.self.invariant.1 (search rules)
      | then-self-via-else-self+then-number b ↦ owed-behind r.seen r.due r.kept r.told r.learnt c.self.invariant.1 w c.number-number.result b.number.result ends is b.number.ensures.number (search rules)
    ] in
    subst (λ (self : ReaderContent). IsOwed self × ((v : VersionContent) × IsLatest self.kept v × (n ≡ v.number))) c.self.view_is (owed, (w, ends.1, same ∙ is))

pub returns-clause-pass : goal.returns-clause-pass
returns-clause-pass c =
    let r = c.self.inside in
    let t = c.self.invariant.1 in
    let is : c.number.result ≡ c.version.result.now.number = search rules in
    let same = caught_up r.seen r.due r.kept r.told r.learnt t c.version.result.now c.number.result c.version.ensures c.number.ensures.number is in
    let none = told-none r.seen r.due r.kept r.told r.learnt t (search rules) in
    let pass : c.in_ok-pass.pass ≡ r.kept = search rules in
    subst (λ (self : ReaderContent). (c.in_ok-pass.pass ≡ account self.publisher self.kept) × IsLawful self.kept × (self.told ≡ []) × (self.seen ≡ self.kept)) c.self.view_is
    (pass ∙ ap (λ p. account p r.kept.history) t.publishers.1, c.version.ensures.0, none, same)
