use Rattle.std.proofs.Common.{◌≡◌, List, subst, sym}
use Rattle.live_version.specs.Contents.{VersionContent}
use Rattle.manifest_publish.specs.Accounts.{EndsWith}
use Rattle.collection.specs.Engines.{last_of}
use Rattle.collection.proofs.EngineLemmas.{last_is}
use Rattle.query_search.proofs.query.Query.over_words.Goals as goal

pub invariant_of-result : goal.invariant_of-result
invariant_of-result c =
    let history : List VersionContent = c.args.pass.history in
    let is : last_of history ≡ c.version-version.result.now = last_is history c.version-version.result.now c.version-version.ensures.1 in
    record {
      last = subst (λ (v : VersionContent). EndsWith history v) (sym is) c.version-version.ensures;
      well_formed = c.requires;
      named = tt;
    }
