-- Before the first line of a script, and after its last one.
use Rattle.std.proofs.Common.{◌≡◌, ℕ, ◌+◌, ◌≤◌, ◌<◌, false, List, ◌++◌, length, refl, sym, ap, ◌∙◌, append-nil, Option, Some, None, IsSomeAnd, length-append, subst, arith}
use Rattle.std.specs.Io.KnownBytes.{Consumes, IsAtEnd}
use Rattle.outside.specs.Contents.{Contents}
use Rattle.gcl_model.specs.Collections.{empty_from}
use Rattle.live_version.specs.Contents.{VersionContent, ranges_of}
use Rattle.script_lang.specs.Lines.{lines}
use Rattle.live_version.specs.StandsFor.{StandsFor}
use Rattle.collection.specs.Engines.{EngineContent}
use Rattle.script_answers.specs.States.{Images, IsFresh, Keeps, opening}
use Rattle.query_run.specs.Runs.{HandsOverMore}

-- an engine that was just opened keeps the state before the first line
pub fresh_keeps : (engine : EngineContent) (lines : ℕ) (contents : Contents) (images : Images) → IsFresh engine lines → Keeps engine false (opening engine.version.first contents images)
fresh_keeps engine lines contents images fresh = record {
  stands = subst (λ (v : VersionContent). StandsFor v (empty_from engine.version.first)) (sym fresh.version) (record { first = refl; next = refl; next_id = refl; dels = refl; files = refl; words = refl });
  slots = sym (ap (λ (v : VersionContent). ranges_of v.slots) fresh.version);
}

-- no more can be handed over than was left
pub not_more : (most : ℕ) (old new : Option (List ℕ)) → IsSomeAnd old (λ script. length script ≤ most) → HandsOverMore most old new → ⊥
not_more most None new few more = few
not_more most (Some script) None few more = more.from
not_more most (Some script) (Some left) few more =
    let len : length script ≡ length more.taken + length left = ap length more.from ∙ length-append more.taken left in
    let over : length more.taken ≡ most + 1 = more.count_is in
    omega arith

-- what was handed over to the end is the script
pub all_read : (old new : Option (List ℕ)) (script bytes : List ℕ) → Consumes old new bytes → IsAtEnd new → old ≡ Some script → bytes ≡ script
all_read None new script bytes from end is = absurd (cc is)
all_read (Some all) None script bytes from end is = absurd from
all_read (Some all) (Some rest) script bytes from end is =
    let whole : all ≡ bytes ++ rest = from in
    let same : all ≡ script = cc is in
    sym (append-nil bytes) ∙ ap (λ l. bytes ++ l) (sym end) ∙ sym whole ∙ same

-- what was read to its end is the script, which is no longer
pub not_longer : (most : ℕ) (old new : Option (List ℕ)) (bytes : List ℕ) → Consumes old new bytes → IsAtEnd new → length bytes ≤ most → IsSomeAnd old (λ script. most < length script) → ⊥
not_longer most None new bytes from end short longer = longer
not_longer most (Some script) new bytes from end short longer =
    let same : length bytes ≡ length script = ap length (all_read (Some script) new script bytes from end refl) in
    omega (arith, same, short, longer)
