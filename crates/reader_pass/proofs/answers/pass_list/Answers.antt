use Rattle.std.proofs.Common.{◌≡◌, ◌+◌, ◌≤◌, ℕ, List, length, take, IfOk, ap, subst}
use Rattle.gcl_model.specs.Extents.{Extent}
use Rattle.gcl_model.specs.Texts.{Text}
use Rattle.gcl_model.specs.FormOf.{form_of}
use Rattle.gcl_model.specs.Forms.{Form}
use Rattle.gcl_model.specs.Meaning.{concordance}
use Rattle.gcl_model.specs.Collections.{text_of}
use Rattle.gcl_eval.proofs.Listing.{all_members}
use Rattle.live_version.specs.Contents.{version_text}
use Rattle.reader_pass.specs.Members.{first_members, first_members_from, look_ups, access_most}
use Rattle.reader_pass.proofs.answers.pass_list.Goals as goal

-- those that start at address 0 or after it are all
from_start : (text : Text) (form : Form) (most : ℕ) → first_members_from text form 0 most ≡ first_members text form most
from_start text form most = ap (take most) (all_members (concordance text form))

pub returns-clause-version : goal.returns-clause-version
returns-clause-version g c v latest =
    subst (λ (list : List Extent). IfOk c.pass_list_from.result (λ members. members ≡ list)) (from_start (version_text v) (form_of c.args.expr.now) c.args.most)
    (c.pass_list_from.ensures.version v latest)

pub returns-clause-collection : goal.returns-clause-collection
returns-clause-collection g c v d latest stands =
    subst (λ (list : List Extent). IfOk c.pass_list_from.result (λ members. members ≡ list)) (from_start (text_of d) (form_of c.args.expr.now) c.args.most)
    (c.pass_list_from.ensures.collection v d latest stands)

pub returns-clause-cost : goal.returns-clause-cost
returns-clause-cost g c v latest =
    subst (λ (list : List Extent). c.pass_list_from.new.steps ≤ c.args.steps.now + look_ups (version_text v) (access_most v) (form_of c.args.expr.now) (length list))
    (from_start (version_text v) (form_of c.args.expr.now) c.args.most) (c.pass_list_from.ensures.cost v latest)
