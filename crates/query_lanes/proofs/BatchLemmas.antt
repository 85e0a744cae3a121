-- What a batch hands on of its merge, and of its readers.
use Rattle.std.proofs.Common.{◌≡◌, ℕ, zero, suc, ◌<◌, Bool, true, false, ◌⊎◌, inl, inr, List, [], ◌∷◌, ◌++◌, length, map, ap, sym, ◌∙◌, subst, arith}
use Rattle.std.specs.Prelude.{Result, Ok, Err, OnOk, OnErr}
use Rattle.logbook.specs.Pages.{Book}
use Rattle.gcl_model.specs.Collections.{Collection, text_of}
use Rattle.gcl_model.specs.Texts.{Text}
use Rattle.gcl_model.proofs.Lists.{all_append, all_right}
use Rattle.live_version.specs.Contents.{VersionContent, version_text}
use Rattle.live_version.specs.StandsFor.{StandsFor, Keeps}
use Rattle.manifest_publish.specs.Accounts.{ReaderContent}
use Rattle.collection.specs.Engines.{EngineContent}
use Rattle.query_lanes.specs.declared.asks.Ask.{Ask}
use Rattle.query_lanes.specs.declared.lane.Work.{Work}
use Rattle.query_lanes.specs.Answers.{answer_in}
use Rattle.query_lanes.specs.Merges.{IsMergedWhere}
use Rattle.query_lanes.specs.Readers.{AreOf, EachIsOf}
use Rattle.query_lanes.specs.inner.Lanes.{AreRun}
use Rattle.query_lanes.proofs.MergeLemmas.{same_text}

-- readers that are all of a publisher are so at each place
pub each_of : (publisher : Book) (readers : List ReaderContent) → AreOf publisher readers → EachIsOf publisher readers
each_of publisher [] all i d lt = absurd (omega arith)
each_of publisher (r ∷ readers) all zero d lt = all.0
each_of publisher (r ∷ readers) all (suc i) d lt = each_of publisher readers all.1 i d (omega arith)

-- and so they are after a run
pub run_of : (asks : List Ask) (lanes : ℕ) (old new : Book) (before after : List ReaderContent) (works : List Work) → AreRun asks lanes 0 before after works → new ≡ old → EachIsOf old before → EachIsOf new after
run_of asks lanes old new before after works run same of i d lt =
    let lt' : i < length before = subst (λ (n : ℕ). i < n) run.readers lt in
    (run.later i d lt').publisher ∙ of i d lt' ∙ sym same

-- the first of them are, next to the others as they were
pub of_parts : (old new : Book) (all low high after : List ReaderContent) → all ≡ low ++ high → new ≡ old → AreOf old all → AreOf new after → AreOf new (after ++ high)
of_parts old new all low high after is same of now =
    let rest : AreOf old high = all_right (λ (reader : ReaderContent). reader.publisher ≡ old) low high (subst (AreOf old) is of) in
    all_append (λ (reader : ReaderContent). reader.publisher ≡ new) after high now (subst (λ (p : Book). AreOf p high) (sym same) rest)

-- an engine that was merged or not has its publisher still
pub where_publisher : (wanted : Bool) (old new : EngineContent) → IsMergedWhere wanted old new → new.publisher ≡ old.publisher
where_publisher true old new merged = merged.1.published.publisher
where_publisher false old new same = ap (λ (e : EngineContent). e.publisher) same

pub either_publisher : (wanted : Bool) (old new : EngineContent) → (new ≡ old) ⊎ IsMergedWhere wanted old new → new.publisher ≡ old.publisher
either_publisher wanted old new (inl same) = ap (λ (e : EngineContent). e.publisher) same
either_publisher wanted old new (inr merged) = where_publisher wanted old new merged

-- what holds in any case holds if all went well
pub on_ok : {T E : Type 0} (P : Type 0) (result : Result T E) → P → OnOk result P
on_ok P (Ok value) p = p
on_ok P (Err fault) p = tt

-- whatever came of it
pub answered_publisher : {T E : Type 0} (result : Result T E) (wanted : Bool) (old new : EngineContent) → OnOk result (IsMergedWhere wanted old new)
    → OnErr result ((new ≡ old) ⊎ IsMergedWhere wanted old new) → new.publisher ≡ old.publisher
answered_publisher (Ok value) wanted old new merged err = where_publisher wanted old new merged
answered_publisher (Err fault) wanted old new merged err = either_publisher wanted old new err

pub keeps_same : (old new : EngineContent) → new ≡ old → Keeps old.version new.version
keeps_same old new same = subst (λ (e : EngineContent). Keeps old.version e.version) (sym same) (λ c stands. stands)

-- and stands for what it stood for
pub where_stands : (wanted : Bool) (old new : EngineContent) → IsMergedWhere wanted old new → Keeps old.version new.version
where_stands true old new merged = merged.1.change.stands
where_stands false old new same = keeps_same old new same

-- answers over a version are those over the words of what it stands for
pub over_collection : (asks : List Ask) (old new : VersionContent) (c : Collection) → Keeps old new → StandsFor old c → map (answer_in (version_text new)) asks ≡ map (answer_in (text_of c)) asks
over_collection asks old new c keeps stands = ap (λ (text : Text). map (answer_in text) asks) (same_text new c (keeps c stands))
