use Rattle.std.proofs.Common.{◌≡◌, ◌++◌, Option, sym, subst}
use Rattle.std.specs.Prelude.{IfSome, OnErr, OnOk}
use Rattle.live_version.specs.Contents.{VersionContent, version_text}
use Rattle.manifest_publish.specs.Accounts.{Account}
use Rattle.collection.specs.Engines.{last_of}
use Rattle.collection.proofs.EngineLemmas.{last_is}
use Rattle.script_lang.specs.Lines.{text_of_lines}
use Rattle.answer_text.specs.Given.{AgreeApart, IsLocal}
use Rattle.answer_text.specs.Puts.{GetsPart, Puts}
use Rattle.answer_text.specs.Watching.{told_since}
use Rattle.answer_text.proofs.telling.put_changes.Goals as goal

pub put_watches-put-requires-clause-apart : goal.put_watches-put-requires-clause-apart
put_watches-put-requires-clause-apart g c =
    let now = c.args.engine.now.version in
    let last : last_of c.in-Some.pass.history ≡ c.version.result.now = last_is c.in-Some.pass.history c.version.result.now c.version.ensures.1 in
    let local : IsLocal c.args.answer.now (last_of c.in-Some.pass.history) now =
    subst (λ (o : Option Account). IfSome o (λ pass. IsLocal c.args.answer.now (last_of pass.history) now)) c.in-Some.is c.requires.local in
    subst (λ (v : VersionContent). AgreeApart c.edited-range.result (version_text v) (version_text now)) (sym last)
    (c.edited-range.ensures now (subst (λ (v : VersionContent). IsLocal c.args.answer.now v now) last local))

pub returns-in-Some-clause-puts : goal.returns-in-Some-clause-puts
returns-in-Some-clause-puts g c =
    subst (λ (o : Option Account). OnOk c.put_watches-put.result (Puts (g.K.Sink.written c.args.sink.now) (g.K.Sink.written c.put_watches-put.new.sink) c.args.out.now.items c.put_watches-put.new.out.items
    (text_of_lines (told_since o c.args.watches.now c.args.engine.now.version)))) (sym c.in-Some.is) c.put_watches-put.ensures.puts

pub returns-in-Some-clause-part : goal.returns-in-Some-clause-part
returns-in-Some-clause-part g c =
    subst (λ (o : Option Account). OnErr c.put_watches-put.result (GetsPart (g.K.Sink.written c.args.sink.now) (g.K.Sink.written c.put_watches-put.new.sink)
    (c.args.out.now.items ++ text_of_lines (told_since o c.args.watches.now c.args.engine.now.version)))) (sym c.in-Some.is) c.put_watches-put.ensures.part
