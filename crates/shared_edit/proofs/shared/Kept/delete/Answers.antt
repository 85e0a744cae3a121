use Rattle.std.proofs.Common.{ap, ◌∙◌}
use Rattle.std.proofs.lemmas.Result.{IfOk-weaker}
use Rattle.manifest_publish.specs.Accounts.{Account}
use Rattle.shared_edit.proofs.SharedLemmas.{ends-in-delete, has-counts, published-latest, shows-not_live, not_live-latest}
use Rattle.shared_edit.proofs.shared.Kept.delete.Goals as goal

pub returns-clause-receipt : goal.returns-clause-receipt
returns-clause-receipt g c =
    let of = ap (λ b. b.engine.publisher) c.deref_mut.ensures.value ∙ c.self.invariant in
    IfOk-weaker c.delete.result _ _
    (λ receipt f. (f.delete.published.receipt.same_publisher ∙ f.delete.published.publisher ∙ of, ends-in-delete c.deref_mut.result.now c.delete.new.self c.args.editor.now.number c.args.id.0 receipt c.delete.ensures.ends f)) c.delete.ensures.ok

pub returns-clause-counts : goal.returns-clause-counts
returns-clause-counts g c =
    IfOk-weaker c.delete.result _ _
    (λ receipt f. has-counts c.delete.new.self receipt.history c.delete.new.editor c.delete.ensures.book (published-latest c.deref_mut.result.now.engine c.delete.new.self.engine receipt f.delete.published) c.delete.ensures.bounds.0 c.delete.ensures.bounds.1) c.delete.ensures.ok

pub returns-clause-not_live : goal.returns-clause-not_live
returns-clause-not_live g c = λ other seen e.
    let of = ap (λ b. b.engine.publisher) c.deref_mut.ensures.value ∙ c.self.invariant in
    let h = c.delete.ensures.not_live other seen e in
    let f = h.1 in (
      h.0,
      ap (λ (a : Account). a.publisher) f.seen_is ∙ of,
      shows-not_live c.deref_mut.result.now c.delete.new.self c.args.editor.now.number c.args.id.0 seen c.delete.ensures.ends f,
      has-counts c.delete.new.self seen.history c.delete.new.editor c.delete.ensures.book (not_live-latest c.deref_mut.result.now c.delete.new.self c.args.editor.now.number c.args.id.0 seen c.delete.ensures.ends f) c.delete.ensures.bounds.0 c.delete.ensures.bounds.1,
    )
