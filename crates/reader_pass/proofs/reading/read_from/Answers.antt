use Rattle.std.proofs.Common.{◌≡◌, List, IfOk, take, subst}
use Rattle.gcl_model.specs.Extents.{Extent}
use Rattle.gcl_model.specs.FormOf.{form_of}
use Rattle.gcl_model.specs.Meaning.{concordance}
use Rattle.gcl_readers.specs.Standing.{start_at}
use Rattle.live_version.specs.Contents.{VersionContent, version_text}
use Rattle.reader_pass.specs.Members.{first_members_from}
use Rattle.gcl_cursor.proofs.LeftLemmas.{from_later}
use Rattle.reader_pass.proofs.reading.read_from.Goals as goal

pub returns-clause-ok : goal.returns-clause-ok
returns-clause-ok g c =
    subst (λ (v : VersionContent). IfOk c.read_list_from.result (λ members. members ≡ first_members_from (version_text v) (form_of c.args.expr.now) c.args.k c.args.most)) c.of-fingers.ensures
    (subst (λ (list : List Extent). IfOk c.read_list_from.result (λ members. members ≡ take c.args.most list))
    (from_later (start_at c.args.readers.now) c.args.k (concordance (version_text c.of-fingers.result) (form_of c.args.expr.now)) c.requires.behind) c.read_list_from.ensures.ok)
