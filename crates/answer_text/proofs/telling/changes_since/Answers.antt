use Rattle.std.proofs.Common.{sym, subst}
use Rattle.std.proofs.lemmas.Result.{IfOk-weaker}
use Rattle.live_version.specs.Contents.{VersionContent, version_text}
use Rattle.manifest_publish.specs.Accounts.{Account}
use Rattle.collection.specs.Engines.{last_of}
use Rattle.answer_text.specs.Given.{AgreeApart}
use Rattle.answer_text.proofs.ToldLemmas.{last_published, listing_is}
use Rattle.answer_text.proofs.telling.changes_since.Goals as goal

pub changes_of-requires-clause-apart : goal.changes_of-requires-clause-apart
changes_of-requires-clause-apart c =
    subst (λ (a : Account). AgreeApart c.args.range (version_text (last_of a.history)) (version_text (last_of c.in_ok-after.after.history))) (sym c.in_ok-old.ensures)
    (subst (λ (v : VersionContent). AgreeApart c.args.range (version_text (last_of c.args.before.now.history)) (version_text v)) (sym (last_published c.in_ok-after.after c.args.engine.now c.in_ok-after.ensures.pass c.in_ok-after.ensures.engine)) c.requires.apart)

pub returns : goal.returns
returns c = IfOk-weaker c.changes_of.result _ _
    (λ listing is. listing_is c.args.watch.now c.args.before.now c.in_ok-old.old c.in_ok-after.after c.args.engine.now listing is c.in_ok-old.ensures c.in_ok-after.ensures.pass c.in_ok-after.ensures.engine) c.changes_of.ensures
