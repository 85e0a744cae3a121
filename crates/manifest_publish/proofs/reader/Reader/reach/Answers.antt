use Rattle.std.proofs.Common.{IfOk, ◌≡◌, false, List, [], sym, subst, ap, ◌∙◌}
use mathlib.Core.List.{IsPrefix}
use Rattle.live_version.specs.Contents.{VersionContent}
use Rattle.manifest_publish.specs.Accounts.{Account, BeginWith, ReaderContent, reader_content, MayEnter}
use Rattle.manifest_publish.specs.Log.{head_of}
use Rattle.manifest_publish.specs.Tracked.{IsTracked}
use Rattle.manifest_publish.proofs.Prefixes.{prefix_self}
use Rattle.manifest_publish.proofs.ReaderLemmas.{tracked-reached}
use Rattle.manifest_publish.proofs.reader.Reader.reach.Goals as goal

-- if the pass of what was reached is kept, all is of one history
tracked-entered : (mark again kept : Account) (told : List (List VersionContent)) → again ≡ mark → kept ≡ mark → told ≡ [] → IsTracked mark again kept told false
tracked-entered mark again kept told same held none = record {
  publishers = (ap (λ a. a.publisher) same, ap (λ a. a.publisher) held);
  told_due = subst (λ lists. BeginWith lists again.history) (sym none) tt;
  seen_due = subst (λ a. IsPrefix mark.history a.history) (sym same) (prefix_self mark.history);
  kept_seen = subst (λ a. IsPrefix a.history mark.history) (sym held) (prefix_self mark.history);
  learns = none;
}

pub invariant_of-self-in_err-again : goal.invariant_of-self-in_err-again
invariant_of-self-in_err-again c =
    let r = c.self.inside in
    let may : MayEnter (reader_content r.seen.publisher r.seen.history r.told r.kept.history) c.args.found = subst (λ (self : ReaderContent). MayEnter self c.args.found) (sym c.self.view_is) c.requires in
    let is = c.into_parts-mark.ensures.0 in (
      c.self.invariant.0 ∙ ap head_of (sym (ap (λ a. a.publisher) is ∙ may.0)),
      tracked-reached r.seen r.due r.kept r.told r.learnt c.self.invariant.1 c.args.found c.into_parts-mark.result.0 c.again.result c.nothing.result may is c.again.ensures c.nothing.ensures,
    )

pub invariant_of-self : goal.invariant_of-self
invariant_of-self c =
    let r = c.self.inside in
    let may : MayEnter (reader_content r.seen.publisher r.seen.history r.told r.kept.history) c.args.found = subst (λ (self : ReaderContent). MayEnter self c.args.found) (sym c.self.view_is) c.requires in
    let is = c.into_parts-mark.ensures.0 in (
      c.self.invariant.0 ∙ ap head_of (sym (ap (λ a. a.publisher) is ∙ may.0)),
      tracked-reached r.seen r.due r.kept r.told r.learnt c.self.invariant.1 c.args.found c.into_parts-mark.result.0 c.again.result c.nothing.result may is c.again.ensures c.nothing.ensures,
    )

pub invariant_of-self-2 : goal.invariant_of-self-2
invariant_of-self-2 c =
    let r = c.self.inside in
    let may : MayEnter (reader_content r.seen.publisher r.seen.history r.told r.kept.history) c.args.found = subst (λ (self : ReaderContent). MayEnter self c.args.found) (sym c.self.view_is) c.requires in
    let is = c.into_parts-mark.ensures.0 in
    let pass : c.in_ok-pass.pass ≡ c.args.found = subst (λ o. IfOk o (λ p. p ≡ c.args.found)) c.in_ok-pass.was c.into_parts-mark.ensures.1 in (
      c.self.invariant.0 ∙ ap head_of (sym (ap (λ a. a.publisher) is ∙ may.0)),
      tracked-entered c.into_parts-mark.result.0 c.again.result c.in_ok-again.again c.nothing.result c.again.ensures (c.in_ok-again.ensures ∙ (pass ∙ sym is)) c.nothing.ensures,
    )
