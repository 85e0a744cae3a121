-- How pages are found.
use Rattle.std.proofs.Common.{Bool, true, false, cond}
use Rattle.gcl_model.specs.Forms.{Form}
use Rattle.live_version.specs.Contents.{VersionContent}
use Rattle.query_search.specs.Pages.{Way, ended, IsWayOver}

-- pages begin by the way of their readers, or at the end
pub begins_over : (b : Bool) (v : VersionContent) (form : Form) (way : Way) → IsWayOver v form way → IsWayOver v form (cond b ended way)
begins_over true v form way is = tt
begins_over false v form way is = is
