-- The steps of a save, put together.
use Rattle.std.proofs.Common.{◌≡◌, ℕ, ◌+◌, ◌-◌, List, [], ◌∷◌, ◌++◌, length, take, drop, Option, None, Some, refl, sym, ap, subst, ◌∙◌, inl, inr, Result, Ok, Err, IfOk, OnOk, OnErr}
use Rattle.std.proofs.lemmas.List.{append_assoc, append-nil, map-append, take_rest}
use Rattle.std.proofs.lemmas.List.Folds.{concat-append}
use Rattle.std.proofs.Math.Seq.{take-add}
use Rattle.std.specs.List.{concat}
use Rattle.std.specs.Result.{IsErrAnd}
use Rattle.outside_std.specs.declared.step.Step.{Step}
use Rattle.outside_std.specs.declared.step.Step.TheVariants.{Creates, Writes, Syncs, Renames, Removes, SyncsFolder}
use Rattle.outside_std.specs.Saving.{Adds, written, Fills, FillsSome, Stores, Saves, Renamed, Cleared}

pub Adds-nil : (a : Option (List Step)) → Adds a a []
Adds-nil None = tt
Adds-nil (Some x) = sym (append-nil x)

pub Adds-trans : (a b c : Option (List Step)) (s t : List Step) → Adds a b s → Adds b c t → Adds a c (s ++ t)
Adds-trans None b c s t p q = tt
Adds-trans (Some x) None c s t p q = absurd p
Adds-trans (Some x) (Some y) None s t p q = absurd q
Adds-trans (Some x) (Some y) (Some z) s t p q = q ∙ ap (λ l. l ++ t) p ∙ append_assoc x s t

-- nothing was added at the end
pub Adds-kept : (a b c : Option (List Step)) (s : List Step) → Adds a b s → Adds b c [] → Adds a c s
Adds-kept a b c s p q = subst (λ l. Adds a c l) (append-nil s) (Adds-trans a b c s [] p q)

-- a text of which nothing was written yet
pub nothing_filled : (a : Option (List Step)) → Fills a a []
nothing_filled a = record { pieces = []; whole = refl; is = Adds-nil a }

-- of a text whose front was written, a piece more
pub piece_filled : (a b c : Option (List Step)) (text : List ℕ) (at n : ℕ) → Fills a b (take at text) →
    Adds b c (Writes (take n (take (length text - at) (drop at text))) ∷ []) → Fills a c (take (at + n) text)
piece_filled a b c text at n front more =
    let piece = take n (drop at text) in
    let last : Adds b c (Writes piece ∷ []) = subst (λ rest. Adds b c (Writes (take n rest) ∷ [])) (take_rest text at) more in
    let joined : concat (front.pieces ++ piece ∷ []) ≡ take (at + n) text =
    concat-append front.pieces (piece ∷ []) ∙ ap (λ l. concat front.pieces ++ l) (append-nil piece) ∙ ap (λ l. l ++ piece) front.whole ∙ sym (take-add at n text) in
    let steps : written front.pieces ++ Writes piece ∷ [] ≡ written (front.pieces ++ piece ∷ []) = sym (map-append (λ p. Writes p) front.pieces (piece ∷ [])) in
    record { pieces = front.pieces ++ piece ∷ []; whole = joined; is = subst (λ l. Adds a c l) steps (Adds-trans a b c (written front.pieces) (Writes piece ∷ []) front.is last) }

-- a text that was written in part
pub part_filled : (a b c : Option (List Step)) (text : List ℕ) → Fills a b text → Adds b c [] → FillsSome a c
part_filled a b c text front kept = record { pieces = front.pieces; is = Adds-kept a b c (written front.pieces) front.is kept }

-- and one whose last piece was of no bytes
pub stuck_filled : (a b c : Option (List Step)) (text piece : List ℕ) → Fills a b text → Adds b c (Writes piece ∷ []) → FillsSome a c
stuck_filled a b c text piece front more =
    let steps : written front.pieces ++ Writes piece ∷ [] ≡ written (front.pieces ++ piece ∷ []) = sym (map-append (λ p. Writes p) front.pieces (piece ∷ [])) in
    record { pieces = front.pieces ++ piece ∷ []; is = subst (λ l. Adds a c l) steps (Adds-trans a b c (written front.pieces) (Writes piece ∷ []) front.is more) }

-- a text that was written, and synced
pub text_stored : (a b c d : Option (List Step)) (text : List ℕ) → Adds a b [] → Fills b c text → Adds c d (Syncs ∷ []) → Stores a d text
text_stored a b c d text kept filled synced =
    record { pieces = filled.pieces; whole = filled.whole; is = Adds-trans a b d [] (written filled.pieces ++ Syncs ∷ []) kept (Adds-trans b c d (written filled.pieces) (Syncs ∷ []) filled.is synced) }

-- the same, if the sync failed
pub text_unsynced : (a b c d : Option (List Step)) (text : List ℕ) → Adds a b [] → Fills b c text → Adds c d [] → FillsSome a d
text_unsynced a b c d text kept filled same =
    record { pieces = filled.pieces; is = Adds-trans a b d [] (written filled.pieces) kept (Adds-kept b c d (written filled.pieces) filled.is same) }

-- the same, if the text was not written whole
pub text_cut : (a b c : Option (List Step)) → Adds a b [] → FillsSome b c → FillsSome a c
text_cut a b c kept some = record { pieces = some.pieces; is = Adds-trans a b c [] (written some.pieces) kept some.is }

-- nothing was written at all
pub nothing_written : (a b : Option (List Step)) → Adds a b [] → FillsSome a b
nothing_written a b same = record { pieces = []; is = same }

-- the new file was not filled, and is removed
pub cleared_early : (a b c d : Option (List Step)) (name : List ℕ) → Adds a b (Creates name ∷ []) → FillsSome b c → Adds c d (Removes name ∷ []) → Cleared a d
cleared_early a b c d name made some removed =
    let rest = Adds-trans b c d (written some.pieces) (Removes name ∷ []) some.is removed in
    record { name = name; pieces = some.pieces; synced = []; whether = inl refl; is = Adds-trans a b d (Creates name ∷ []) (written some.pieces ++ Removes name ∷ []) made rest }

-- the new file could not take the path, and is removed
pub cleared_late : (a b c d e : Option (List Step)) (name text : List ℕ) → Adds a b (Creates name ∷ []) → Stores b c text → Adds c d [] → Adds d e (Removes name ∷ []) → Cleared a e
cleared_late a b c d e name text made stored kept removed =
    let front = written stored.pieces in
    let end = Adds-trans c d e [] (Removes name ∷ []) kept removed in
    let rest = subst (λ l. Adds b e l) (append_assoc front (Syncs ∷ []) (Removes name ∷ [])) (Adds-trans b c e (front ++ Syncs ∷ []) (Removes name ∷ []) stored.is end) in
    record { name = name; pieces = stored.pieces; synced = Syncs ∷ []; whether = inr refl; is = Adds-trans a b e (Creates name ∷ []) (front ++ (Syncs ∷ (Removes name ∷ []))) made rest }

-- the new file took the path
pub path_taken : (a b c d : Option (List Step)) (name path bytes : List ℕ) → Adds a b (Creates name ∷ []) → Stores b c bytes → Adds c d (Renames name path ∷ []) → Renamed a d path bytes
path_taken a b c d name path bytes made stored taken =
    let front = written stored.pieces in
    let rest = subst (λ l. Adds b d l) (append_assoc front (Syncs ∷ []) (Renames name path ∷ [])) (Adds-trans b c d (front ++ Syncs ∷ []) (Renames name path ∷ []) stored.is taken) in
    record { name = name; pieces = stored.pieces; whole = stored.whole; is = Adds-trans a b d (Creates name ∷ []) (front ++ (Syncs ∷ (Renames name path ∷ []))) made rest }

-- and its folder was synced
pub folder_synced : (a b c : Option (List Step)) (path bytes : List ℕ) → Renamed a b path bytes → Adds b c (SyncsFolder path ∷ []) → Saves a c path bytes
folder_synced a b c path bytes renamed synced =
    let front = written renamed.pieces in
    let tail = Syncs ∷ (Renames renamed.name path ∷ []) in
    let joined = ap (λ l. Creates renamed.name ∷ l) (append_assoc front tail (SyncsFolder path ∷ [])) in
    record { name = renamed.name; pieces = renamed.pieces; whole = renamed.whole; is = subst (λ l. Adds a c l) joined (Adds-trans a b c (Creates renamed.name ∷ (front ++ tail)) (SyncsFolder path ∷ []) renamed.is synced) }

-- or it was not
pub folder_unsynced : (a b c : Option (List Step)) (path bytes : List ℕ) → Renamed a b path bytes → Adds b c [] → Renamed a c path bytes
folder_unsynced a b c path bytes renamed same =
    record { name = renamed.name; pieces = renamed.pieces; whole = renamed.whole; is = Adds-kept a b c (Creates renamed.name ∷ (written renamed.pieces ++ (Syncs ∷ (Renames renamed.name path ∷ [])))) renamed.is same }

-- what is asked of an Ok, at an Err
pub no_ok : {T E : Type 0} (P : Type 0) (result : Result T E) (Q : E → Type 0) → IsErrAnd result Q → OnOk result P
no_ok P (Ok value) Q is = absurd is
no_ok P (Err fault) Q is = tt

pub no_value : {T E : Type 0} (P : T → Type 0) (result : Result T E) (Q : E → Type 0) → IsErrAnd result Q → IfOk result P
no_value P (Ok value) Q is = absurd is
no_value P (Err fault) Q is = tt

-- what holds anyhow holds after an Err
pub on_err : {T E : Type 0} (P : Type 0) (result : Result T E) → P → OnErr result P
on_err P (Ok value) p = tt
on_err P (Err fault) p = p

-- steps after none
pub Adds-behind : (a b c : Option (List Step)) (s : List Step) → Adds a b [] → Adds b c s → Adds a c s
Adds-behind a b c s p q = Adds-trans a b c [] s p q
