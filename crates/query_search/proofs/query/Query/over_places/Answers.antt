use Rattle.std.proofs.Common.{◌≡◌, ◌∙◌, List, sym, ap, subst, true}
use Rattle.gcl_model.specs.FormOf.{form_of}
use Rattle.live_version.specs.Contents.{VersionContent, version_text}
use Rattle.manifest_publish.specs.Accounts.{EndsWith}
use Rattle.collection.specs.Engines.{last_of}
use Rattle.collection.proofs.EngineLemmas.{last_is}
use Rattle.prefix_leaves.specs.Prefixes.{AreOver, tokens_of}
use Rattle.prefix_leaves.specs.Renaming.{is_apart}
use Rattle.prefix_leaves.proofs.Renamed.{apart_decides}
use Rattle.query_search.proofs.query.Query.over_places.Goals as goal

pub invariant_of-result : goal.invariant_of-result
invariant_of-result c =
    let history : List VersionContent = c.args.pass.history in
    let is : last_of history ≡ c.version.result.now = last_is history c.version.result.now c.version.ensures.1 in
    record {
      last = subst (λ (v : VersionContent). EndsWith history v) (sym is) c.version.ensures;
      well_formed = c.requires.well_formed;
      named = (
        subst (λ (v : VersionContent). AreOver (version_text v) c.in_ok-table.table) (sym is) c.in_ok-table.ensures.over,
        ap (λ tokens. is_apart tokens (form_of c.args.expr.value)) c.in_ok-table.ensures.terms ∙ c.requires.apart,
      );
    }

pub returns : goal.returns
returns c =
    let apart : is_apart (tokens_of c.in_ok-table.table) (form_of c.args.expr.value) ≡ true = ap (λ tokens. is_apart tokens (form_of c.args.expr.value)) c.in_ok-table.ensures.terms ∙ c.requires.apart in
    apart_decides (tokens_of c.in_ok-table.table) (version_text (last_of c.args.pass.history)) (form_of c.args.expr.value) apart
