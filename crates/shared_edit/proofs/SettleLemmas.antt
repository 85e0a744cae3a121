-- A reader that enters, and slots that are looked for by their names.
use Rattle.std.proofs.Common.{◌≡◌, ℕ, zero, suc, ◌+◌, ◌<◌, ◌≤◌, List, [], ◌∷◌, ◌++◌, length, take, get_or, false, not, ◌&&◌, eqb, refl, sym, ap, ◌∙◌, subst, arith}
use Rattle.std.proofs.lemmas.List.{length-map, take_more_same, get_or_default}
use Rattle.std.proofs.lemmas.Bool.{not-false, and_parts, eqb-true}
use mathlib.Core.List.{IsPrefix}
use Rattle.live_version.specs.Contents.{SlotContent, VersionContent}
use Rattle.manifest_publish.specs.Accounts.{Account, EndsWith, ReaderContent, ReceiptContent, MayEnter, VouchesFor, account, with_pass}
use Rattle.manifest_publish.proofs.HistoryLemmas.{latest-number}
use Rattle.manifest_publish.proofs.Prefixes.{prefix_whole, all_last}
use Rattle.collection.specs.Engines.{EngineContent, published}
use Rattle.shared_edit.specs.declared.plan.SlotName.{SlotName}
use Rattle.shared_edit.specs.Plans.{name_of, names_of}
use Rattle.shared_edit.specs.Settling.{HasSeenAll}

-- of two histories, the one that begins the other and whose last number isn't less is the other
pub same-history : (h p : List VersionContent) (v w : VersionContent) → EndsWith h v → EndsWith p w → IsPrefix h p → w.number ≤ v.number → h ≡ p
same-history h p v w eh ep pre le =
    let n = latest-number h v eh.0 eh.1 in
    let m = latest-number p w ep.0 ep.1 in
    prefix_whole h p pre (omega arith)

-- whoever learnt the engine's receipt and entered a version that is not above the engine's entered the engine's
pub entered-last : (e : EngineContent) (r : ReaderContent) (receipt : ReceiptContent) (pass : Account) (w : VersionContent) (after : ReaderContent) → EndsWith e.history e.version → VouchesFor receipt (published e)
    → r.publisher ≡ e.publisher → MayEnter (record r { told = r.told ++ receipt.history ∷ [] }) pass → EndsWith pass.history w → w.number ≤ e.version.number → after ≡ with_pass pass.publisher pass.history
    → (pass ≡ published e) × HasSeenAll e after × IsPrefix r.seen e.history
entered-last e r receipt pass w after ends vouches of may last le is =
    let begins : IsPrefix receipt.history pass.history = all_last (λ list. IsPrefix list pass.history) r.told receipt.history may.2.1 in
    let same : e.history ≡ pass.history = same-history e.history pass.history e.version w ends last (subst (λ (h : List VersionContent). IsPrefix h pass.history) vouches.same_history begins) le in (
      (λ i. account ((may.0 ∙ of) i) (sym same i)),
      record { seen = ap (λ (x : ReaderContent). x.seen) is ∙ sym same; told = ap (λ (x : ReaderContent). x.told) is },
      subst (λ (h : List VersionContent). IsPrefix r.seen h) (sym same) may.2.0,
    )

-- the name at a place is that of the slot there
pub name_at : (slots : List SlotContent) (i : ℕ) (d : SlotContent) → get_or (names_of slots) i (name_of d) ≡ name_of (get_or slots i d)
name_at [] i d = refl
name_at (slot ∷ slots) zero d = refl
name_at (slot ∷ slots) (suc i) d = name_at slots i d

-- names that no test distinguishes are equal
pub same-name : (a b : SlotName) → false ≡ not (eqb a.first b.first && (eqb a.last b.last && eqb a.files b.files)) → a ≡ b
same-name a b e =
    let all = not-false (eqb a.first b.first && (eqb a.last b.last && eqb a.files b.files)) (sym e) in
    let one = and_parts (eqb a.first b.first) (eqb a.last b.last && eqb a.files b.files) all in
    let two = and_parts (eqb a.last b.last) (eqb a.files b.files) one.1 in
    λ i. record { first = eqb-true a.first b.first one.0 i; last = eqb-true a.last b.last two.0 i; files = eqb-true a.files b.files two.1 i }

-- one slot more is in its place
pub one_more_in_place : (slots : List SlotContent) (names : List SlotName) (i : ℕ) (slot : SlotContent) (e : SlotName) → i < length slots → i < length names → slot ≡ get_or slots i slot → name_of slot ≡ get_or names i e
    → take i (names_of slots) ≡ take i names → take (i + 1) (names_of slots) ≡ take (i + 1) names
one_more_in_place slots names i slot e ls ln at-slot same before =
    let d = name_of slot in
    let l : i < length (names_of slots) = omega (arith, length-map slots name_of) in
    let one : get_or (names_of slots) i d ≡ d = name_at slots i slot ∙ ap name_of (sym at-slot) in
    take_more_same (names_of slots) names i d l ln before (one ∙ (same ∙ get_or_default names i e d ln))
