-- Files that threads go to before their turn.
use Rattle.std.proofs.Common.{◌≡◌, ℕ, suc, ◌<◌, List, [], ◌∷◌, ◌++◌, length, get_or, ap, ◌∙◌, subst, arith, Option, Some}
use Rattle.std.specs.List.{AllByRecursion}
use Rattle.std.specs.Option.{option_to_list}
use Rattle.gcl_model.proofs.Lists.{all_left, all_right}
use Rattle.outside.specs.Contents.{Contents}
use Rattle.grep_run.specs.Requests.{Request}
use Rattle.grep_run.specs.declared.work.Work.{Work}
use Rattle.grep_run.specs.inner.Works.{AreSound}

-- what holds of all before holds of all after, if it does so at each place
pub all_by_each : {X : Type 0} (xs ys : List X) (P Q : X → Type 0) → length ys ≡ length xs → ((i : ℕ) (d : X) → i < length xs → P (get_or xs i d) → Q (get_or ys i d)) → AllByRecursion P xs → AllByRecursion Q ys
all_by_each [] [] P Q len each all = tt
all_by_each [] (y ∷ ys) P Q len each all = absurd (omega (arith, len))
all_by_each (x ∷ xs) [] P Q len each all = absurd (omega (arith, len))
all_by_each (x ∷ xs) (y ∷ ys) P Q len each all = (each 0 x (omega arith) all.0, all_by_each xs ys P Q (omega (arith, len)) (λ i d below p. each (suc i) d (omega arith) p) all.1)

-- what a call left in a hand is sound of the files that the hand had
pub sound_after : {X : Type 0} (held : X → Option Contents) (works : X → List Work) (r : Request) (told : Option Contents) (before after entry exit : X) → exit ≡ after → entry ≡ before → held before ≡ told →
    AreSound (held entry) r (works exit) → AreSound told r (works after)
sound_after {X = X} held works r told before after entry exit left is told_is sound =
    subst (λ (h : X). AreSound told r (works h)) left (subst (λ (t : Option Contents). AreSound t r (works exit)) (ap held is ∙ told_is) sound)

-- the last one was taken
pub all_popped : {X : Type 0} (P : X → Type 0) (xs rest : List X) (o : Option X) (x : X) → xs ≡ rest ++ option_to_list o → o ≡ Some x → AllByRecursion P xs → AllByRecursion P rest × P x
all_popped {X = X} P xs rest o x is some all =
    let parts : AllByRecursion P (rest ++ x ∷ []) = subst (λ (ys : List X). AllByRecursion P ys) (is ∙ ap (λ (p : Option X). rest ++ option_to_list p) some) all in
    (all_left P rest (x ∷ []) parts, (all_right P rest (x ∷ []) parts).0)
