-- The answers of lanes are those over the engine's text.
use Rattle.std.proofs.Common.{◌≡◌, ◌≢◌, ℕ, Bool, slice_set, ◌+◌, ◌*◌, ◌-◌, ◌≤◌, ◌<◌, ◌⊎◌, inl, inr, List, [], ◌∷◌, ◌++◌, length, slice_get, slice_index_or, Option, Some, None, IfSome, refl, ap, sym, ◌∙◌, subst, arith, zero-add, length-append}
use Rattle.std.proofs.lemmas.Bool.{cases_eq}
use Rattle.std.proofs.lemmas.List.{get_or_append_left, get_or-append_right, get_or-set_other, get_or-set_same, length-set}
use mathlib.Core.List.{IsPrefix}
use Rattle.gcl_model.specs.Texts.{Text}
use Rattle.live_version.specs.Contents.{VersionContent, version_text}
use Rattle.manifest_publish.specs.Accounts.{ReaderContent, BeginWith}
use Rattle.manifest_publish.proofs.HistoryLemmas.{latest-number}
use Rattle.manifest_publish.proofs.PlaceLemmas.{prefix_get}
use Rattle.manifest_publish.proofs.Prefixes.{prefix_length, prefix_shorter, prefix_trans, all_last}
use Rattle.collection.specs.Engines.{EngineContent}
use Rattle.query_lanes.specs.declared.asks.Ask.{Ask}
use Rattle.query_lanes.specs.declared.lane.Made.{Made}
use Rattle.query_lanes.specs.declared.lane.Work.{Work}
use Rattle.query_lanes.specs.Answers.{answer_in}
use Rattle.query_lanes.specs.Readers.{IsLater}
use Rattle.query_lanes.specs.Merges.{HasOneText}
use Rattle.query_lanes.specs.inner.Lanes.{Counts, IsMadeOn, AreMadeOn, IsRun, AreRun, IsTold, AreTold, IsSettled, AreSettled, IsTrusted, AreTrusted}
use Rattle.query_lanes.proofs.ListLemmas.{get_more, place_in}
use Rattle.query_lanes.proofs.MergeLemmas.{latest_at}

-- an answer stays made while the reader sees more
made_before : (ask : Ask) (before mid after : ReaderContent) (made : Made) → IsLater mid after → IsMadeOn ask before mid made → IsMadeOn ask before after made
made_before ask before mid after made later m = record {
  history = m.history;
  version = m.version;
  ends = m.ends;
  from = m.from;
  seen = prefix_trans m.history mid.seen after.seen m.seen later.seen;
  number = m.number;
  found = m.found;
}

-- an answer that was made later in a run
made_after : (ask : Ask) (before mid after : ReaderContent) (made : Made) → IsLater before mid → IsMadeOn ask mid after made → IsMadeOn ask before after made
made_after ask before mid after made later m = record {
  history = m.history;
  version = m.version;
  ends = m.ends;
  from = later.known m.history m.from;
  seen = m.seen;
  number = m.number;
  found = m.found;
}

-- the answers of a lane stay made
pub are_made_before : (asks : List Ask) (lanes at : ℕ) (before mid after : ReaderContent) (answers : List (Option Made))
    → IsLater mid after → AreMadeOn asks lanes at before mid answers → AreMadeOn asks lanes at before after answers
are_made_before asks lanes at before mid after answers later made k one ask here asked = made_before ask before mid after one later (made k one ask here asked)

-- one answer more
pub are_made_more : (asks : List Ask) (lanes at next : ℕ) (before mid after : ReaderContent) (answers : List (Option Made)) (ask : Ask) (some : Option Made)
    → next ≡ at + length answers * lanes → slice_get asks next ≡ Some ask → IsLater before mid → IsLater mid after
    → IfSome some (IsMadeOn ask mid after) → AreMadeOn asks lanes at before mid answers
    → AreMadeOn asks lanes at before after (answers ++ some ∷ [])
are_made_more asks lanes at next before mid after answers ask some place asked early later new made k one other here other_asked = one_more some new (get_more answers some k (Some one) here)
  where
    one_more : (some : Option Made) → IfSome some (IsMadeOn ask mid after)
        → (slice_get answers k ≡ Some (Some one)) ⊎ ((k ≡ length answers) × (some ≡ Some one)) → IsMadeOn other before after one
    one_more some new (inl old) = made_before other before mid after one later (made k one other old other_asked)
    one_more None new (inr last) = absurd (cc (last.1))
    one_more (Some x) new (inr last) =
        let same : x ≡ one = cc (last.1) in
        let here : at + k * lanes ≡ next = ap (λ (n : ℕ). at + n * lanes) last.0 ∙ sym place in
        let there : slice_get asks next ≡ Some other = subst (λ (n : ℕ). slice_get asks n ≡ Some other) here other_asked in
        let is : ask ≡ other = cc (asked, there) in
        made_after other before mid after one early (subst (λ (a : Ask). IsMadeOn a mid after one) is (subst (λ (y : Made). IsMadeOn ask mid after y) same new))

-- The heart: the reader of a lane was notified of the engine's history before the batch, and has seen its history after it. So a version
-- that it entered is one of the engine's if its number is not above the engine's, and not one before the batch
pub trusted : (asks : List Ask) (lanes at : ℕ) (old new : EngineContent) (first told run settled : ReaderContent) (work work' : Work)
    → HasOneText old new → IsTold old.history first told → IsRun asks lanes at told run work → IsSettled new.history run settled work work'
    → IsTrusted asks lanes new.version.number (version_text new.version) at work'
trusted asks lanes at old new first told run settled work work' text t r s k made ask here asked counts =
    let m = r.made k made ask (rw s.same at here) asked in
    let near : m.version.number ≤ new.version.number = subst (λ (n : ℕ). n ≤ new.version.number) m.number counts.1 in
    let fronts : BeginWith (first.told ++ old.history ∷ []) m.history = subst (λ (l : List (List VersionContent)). BeginWith l m.history) t.told m.from.1 in
    let since : IsPrefix old.history m.history = all_last (λ l. IsPrefix l m.history) first.told old.history fronts in
    let far : length old.history ≤ length m.history = prefix_length old.history m.history since in
    let count : m.version.number + 1 ≡ length m.history = latest-number m.history m.version m.ends.0 m.ends.1 in
    let whole : new.version.number + 1 ≡ length new.history = latest-number new.history new.version text.ends.0 text.ends.1 in
    let seen : IsPrefix m.history settled.seen = prefix_trans m.history run.seen settled.seen m.seen (s.keeps counts.0) in
    let begins : IsPrefix m.history new.history = prefix_shorter m.history new.history settled.seen seen (s.knows counts.0) (omega arith) in
    let there : slice_get new.history m.version.number ≡ Some m.version = prefix_get m.history new.history m.version.number m.version begins (latest_at m.history m.version m.ends) in
    m.found ∙ ap (λ text. answer_in text ask) (text.texts m.version.number m.version (omega arith) there)

-- the same of all lanes
pub all_trusted : (asks : List Ask) (lanes : ℕ) (old new : EngineContent) (first told run settled : List ReaderContent) (works works' : List Work)
    → length works' ≡ lanes → HasOneText old new → AreTold old.history first told → AreRun asks lanes 0 told run works → AreSettled new.history run settled works works'
    → AreTrusted asks new.version.number (version_text new.version) works'
all_trusted asks lanes old new first told run settled works works' count text t r s i e lt =
    let d : ReaderContent = slice_index_or first i (some_reader old) in
    let same : length works' ≡ length told = s.works_are ∙ r.works_are in
    let lt1 : i < length told = subst (λ (n : ℕ). i < n) same lt in
    let lt0 : i < length first = subst (λ (n : ℕ). i < n) t.count lt1 in
    let lt2 : i < length run = subst (λ (n : ℕ). i < n) (sym r.readers) lt1 in
    subst (λ (n : ℕ). IsTrusted asks n new.version.number (version_text new.version) i (slice_index_or works' i e)) (sym count)
    (trusted asks lanes i old new (slice_index_or first i d) (slice_index_or told i d) (slice_index_or run i d) (slice_index_or settled i d)
    (slice_index_or works i e) (slice_index_or works' i e)
    text (t.each i d lt0) (record { later = r.later i d lt1; made = subst (λ (n : ℕ). AreMadeOn asks lanes n (slice_index_or told i d) (slice_index_or run i d) (slice_index_or works i e).made.items) (zero-add i) (r.made i d e lt1) }) (s.each i d e lt2))
  where
    some_reader : EngineContent → ReaderContent
    some_reader e = record { publisher = e.publisher; seen = []; told = []; kept = [] }

-- the answers of lanes stay trusted if some of one lane are taken out
pub trusted_less : (asks : List Ask) (last : ℕ) (text : Text) (works : List Work) (at : ℕ) (d work : Work) → at < length works
    → ((k : ℕ) (made : Made) → slice_get work.made.items k ≡ Some (Some made) → slice_get (slice_index_or works at d).made.items k ≡ Some (Some made))
    → work.is_settled ≡ (slice_index_or works at d).is_settled → AreTrusted asks last text works → AreTrusted asks last text (slice_set works at work)
trusted_less asks last text works at d work within less same t i e lt =
    let count : length (slice_set works at work) ≡ length works = length-set works at work in
    let lt' : i < length works = subst (λ (n : ℕ). i < n) count lt in
    subst (λ (n : ℕ). IsTrusted asks n last text i (slice_index_or (slice_set works at work) i e)) (sym count) (by_place lt' (cases_eq i at))
  where
    by_place : i < length works → (i ≡ at) ⊎ (i ≢ at) → IsTrusted asks (length works) last text i (slice_index_or (slice_set works at work) i e)
    by_place lt' (inl is) =
        let here : slice_index_or (slice_set works at work) i e ≡ work = ap (λ (n : ℕ). slice_index_or (slice_set works at work) n e) is ∙ get_or-set_same works at work e within in
        subst (λ (w : Work). IsTrusted asks (length works) last text i w) (sym here)
        (λ k made ask got asked counts. t at d within k made ask (less k made got) (subst (λ (n : ℕ). slice_get asks (n + k * length works) ≡ Some ask) is asked) (subst (λ (b : Bool). Counts b last made.number) same counts))
    by_place lt' (inr other) =
        let there : slice_index_or (slice_set works at work) i e ≡ slice_index_or works i e = get_or-set_other works at i work e other in
        subst (λ (w : Work). IsTrusted asks (length works) last text i w) (sym there) (t i e lt')

-- the runs of the lower lanes and of the upper ones
pub runs_together : (asks : List Ask) (lanes from up : ℕ) (low high low' high' : List ReaderContent) (works works' : List Work)
    → up ≡ from + length low → AreRun asks lanes from low low' works → AreRun asks lanes up high high' works'
    → AreRun asks lanes from (low ++ high) (low' ++ high') (works ++ works')
runs_together asks lanes from up low high low' high' works works' is a b = record {
  readers = omega (arith, length-append low high, length-append low' high', a.readers, b.readers);
  works_are = omega (arith, length-append low high, length-append works works', a.works_are, b.works_are);
  later = λ i d lt. later_at i d (place_in low high i lt);
  made = λ i d e lt. made_at i d e (place_in low high i lt);
}
  where
    later_at : (i : ℕ) (d : ReaderContent) → (i < length low) ⊎ ((length low ≤ i) × (i - length low < length high)) → IsLater (slice_index_or (low ++ high) i d) (slice_index_or (low' ++ high') i d)
    later_at i d (inl lt) =
        let lt' : i < length low' = subst (λ (n : ℕ). i < n) (sym a.readers) lt in
        rw (get_or_append_left low high d i lt, get_or_append_left low' high' d i lt') (a.later i d lt)
    later_at i d (inr far) =
        rw (get_or-append_right low high (length low) i d refl far.0, get_or-append_right low' high' (length low) i d a.readers far.0) (b.later (i - length low) d far.1)

    made_at : (i : ℕ) (d : ReaderContent) (e : Work) → (i < length low) ⊎ ((length low ≤ i) × (i - length low < length high))
        → AreMadeOn asks lanes (from + i) (slice_index_or (low ++ high) i d) (slice_index_or (low' ++ high') i d) (slice_index_or (works ++ works') i e).made.items
    made_at i d e (inl lt) =
        let lt' : i < length low' = subst (λ (n : ℕ). i < n) (sym a.readers) lt in
        let lt'' : i < length works = subst (λ (n : ℕ). i < n) (sym a.works_are) lt in
        rw (get_or_append_left low high d i lt, get_or_append_left low' high' d i lt', get_or_append_left works works' e i lt'') (a.made i d e lt)
    made_at i d e (inr far) =
        let le : length low ≤ i = far.0 in
        let at : up + (i - length low) ≡ from + i = omega (arith, is) in
        rw (get_or-append_right low high (length low) i d refl far.0, get_or-append_right low' high' (length low) i d a.readers far.0, get_or-append_right works works' (length low) i e a.works_are far.0)
        (subst (λ (n : ℕ). AreMadeOn asks lanes n (slice_index_or high (i - length low) d) (slice_index_or high' (i - length low) d) (slice_index_or works' (i - length low) e).made.items) at (b.made (i - length low) d e far.1))

-- of a result that is something known if it counts, and something known of that if it counts
pub kept_is : {A : Type 0} {counts : Type 0} {here there : A} (result : Option A) → (counts → here ≡ there) → IfSome result (λ found. (found ≡ here) × counts)
    → IfSome result (λ found. found ≡ there)
kept_is None told is = tt
kept_is (Some found) told is = is.0 ∙ told is.1
