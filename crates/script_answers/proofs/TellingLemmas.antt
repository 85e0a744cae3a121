-- What the watches report after an edit, and that nothing is reported if nothing is changed.
use Rattle.std.proofs.Common.{◌≡◌, ℕ, ◌+◌, inl, inr, Bool, true, false, List, [], ◌++◌, map, refl, sym, ap, ◌∙◌, subst, append-nil, Option, None, Some, nat_lt}
use Rattle.std.specs.Prelude.{flat_map, if◌then◌else◌, IfSome}
use Rattle.std.specs.Option.{option_map}
use Rattle.script_answers.proofs.Prelude.{action_reply, add_reply, answer_lines, changes_lines, content_reply, edits, image_reply, is_change, last_of, reading_reply, refusal_lines, since, telling_where, text_of, told_since, unchanged, version_text, watch_lines, watched_of, watching_of, Account, Action, Answer, Collection, Contents, Does, EngineContent, IsBefore, Keeps, Limits, Reply, State, Text, WatchListContent, Watched, Watches}
use Rattle.live_version.proofs.PartLaws.{has_text}
use Rattle.collection.proofs.EngineLemmas.{last_is}
use Rattle.script_lang.specs.declared.refusals.Refusal.TheVariants.{NotEmpty}
use Rattle.answer_text.proofs.ToldLemmas.{told_nothing}
use Rattle.answer_text.specs.declared.action.Action.TheVariants.{Add, Delete, ListFiles, Merge, CountSlots, Save, Open, Watch as ToWatch, Unwatch, Refuse}

clash : {b : Bool} → b ≡ true → b ≡ false → ⊥
clash is isnt = cc

-- No action but to watch and to unwatch changes the watches.

StaysWatching : State → Reply → Type 0
StaysWatching state reply = reply.after.watches ≡ state.watches

by_if : (P : Reply → Type 0) (b : Bool) (x y : Reply) → P x → P y → P (if b then x else y)
by_if P true x y p q = p
by_if P false x y p q = q

by_reading : (state : State) (o : Option Collection) → StaysWatching state (reading_reply state o)
unfolding StaysWatching
by_reading state None = refl
by_reading state (Some c) = refl

some_reply : {T : Type 0} (P : Reply → Type 0) (f : T → Reply) (o : Option T) → ((t : T) → P (f t)) → IfSome (option_map f o) P
some_reply P f None p = tt
some_reply P f (Some t) p = p t

-- whether an action begins or ends a watch
abbrev pub attends : Action → Bool
attends (ToWatch query) = true
attends (Unwatch number) = true
attends _ = false

stays : (limits : Limits) (state : State) (action : Action) → attends action ≡ false → IfSome (action_reply limits state action) (StaysWatching state)
unfolding StaysWatching
stays limits state (Add name) other = some_reply (StaysWatching state) (add_reply limits state name) (state.files name) (λ content.
    by_if (StaysWatching state) _ _ (content_reply state name content) refl (by_if (StaysWatching state) _ _ _ refl refl))
stays limits state (Delete id) other = by_if (StaysWatching state) _ _ _ refl refl
stays limits state ListFiles other = refl
stays limits state Merge other = refl
stays limits state CountSlots other = refl
stays limits state (Save name) other = by_if (StaysWatching state) _ _ _ refl refl
stays limits state (Open name) other = by_open (nat_lt 0 state.collection.next_id)
  where
    by_open : (b : Bool) → IfSome (if b then Some (unchanged state (refusal_lines NotEmpty)) else option_map (image_reply limits state) (state.files name)) (StaysWatching state)
    by_open true = refl
    by_open false = some_reply (StaysWatching state) (image_reply limits state) (state.files name) (λ content. by_if (StaysWatching state) _ _ _ refl (by_reading state (state.images content)))
stays limits state (ToWatch query) other = absurd (cc other)
stays limits state (Unwatch number) other = absurd (cc other)
stays limits state (Refuse refusal) other = refl

pub stays_watching : (limits : Limits) (state : State) (action : Action) (reply : Reply) → attends action ≡ false → action_reply limits state action ≡ Some reply → reply.after.watches ≡ state.watches
unfolding StaysWatching
stays_watching limits state action reply other is = subst (λ (o : Option Reply). IfSome o (StaysWatching state)) is (stays limits state action other)

-- an edit is no such action
edits_stay : (action : Action) → edits action ≡ true → attends action ≡ false
edits_stay (Add name) is = refl
edits_stay (Delete id) is = refl
edits_stay (Open name) is = refl
edits_stay ListFiles is = absurd (cc is)
edits_stay Merge is = absurd (cc is)
edits_stay CountSlots is = absurd (cc is)
edits_stay (Save name) is = absurd (cc is)
edits_stay (ToWatch query) is = absurd (cc is)
edits_stay (Unwatch number) is = absurd (cc is)
edits_stay (Refuse refusal) is = absurd (cc is)

-- What is reported after an answer is what its reply says.

module _ (limits : Limits) (state : State) (action : Action) (old new : EngineContent) (watches watches' : WatchListContent) (before : Option Account) (pending : Bool) (held : Option Contents) (given : Answer)
    (keeps : Keeps old false state) (watching : watching_of watches ≡ state.watches) (d : Does (action_reply limits state action) state new pending held watches' given) where
  -- the watches are those of before
  same_watches : edits action ≡ true → watching_of watches' ≡ state.watches
  same_watches is = d.watching ∙ stays_watching limits state action d.gives.reply (edits_stay action is) d.gives.is

  -- what an edit reported
  told_edit : edits action ≡ true → (b : Bool) → is_change given ≡ b → IsBefore action old watches before →
      changes_lines state.watches (text_of state.collection) (text_of d.gives.reply.after.collection) ≡ told_since (if b then before else None) watches' new.version
  told_edit is false still prior =
      let same = (d.gives.follows.still still).0 in
      ap (λ (c : Collection). changes_lines state.watches (text_of state.collection) (text_of c)) same ∙ told_nothing (text_of state.collection) state.watches.live
  told_edit is true changed prior = by_before before prior
    where
      by_before : (o : Option Account) → IsBefore action old watches o → changes_lines state.watches (text_of state.collection) (text_of d.gives.reply.after.collection) ≡ told_since o watches' new.version
      by_before None (inl other) = absurd (clash is other)
      by_before None (inr none) = ap (λ (l : List Watched). flat_map (watch_lines (text_of state.collection) (text_of d.gives.reply.after.collection)) l) (sym (ap (λ (w : Watches). w.live) watching) ∙ ap (map watched_of) none)
      by_before (Some pass) prior =
          let first : version_text (last_of pass.history) ≡ text_of state.collection = ap version_text (last_is pass.history old.version prior.1.1) ∙ has_text old.version state.collection keeps.stands in
          let now : version_text new.version ≡ text_of d.gives.reply.after.collection = has_text new.version d.gives.reply.after.collection d.gives.follows.keeps.stands in
          ap (λ (t : Text). changes_lines state.watches t (text_of d.gives.reply.after.collection)) (sym first)
          ∙ ap (λ (t : Text). changes_lines state.watches (version_text (last_of pass.history)) t) (sym now)
          ∙ ap (λ (w : Watches). changes_lines w (version_text (last_of pass.history)) (version_text new.version)) (sym (same_watches is))

  pub told_is : IsBefore action old watches before →
      (telling_where (edits action) state d.gives.reply).lines ≡ answer_lines new.version given ++ told_since (since given before) watches' new.version
  told_is prior = by_edit (edits action) refl
    where
      by_edit : (b : Bool) → edits action ≡ b → (telling_where b state d.gives.reply).lines ≡ answer_lines new.version given ++ told_since (since given before) watches' new.version
      by_edit true is =
          ap (λ (l : List (List ℕ)). l ++ changes_lines state.watches (text_of state.collection) (text_of d.gives.reply.after.collection)) d.gives.follows.lines
          ∙ ap (λ (l : List (List ℕ)). answer_lines new.version given ++ l) (told_edit is (is_change given) refl prior)
      by_edit false is = d.gives.follows.lines ∙ sym (append-nil (answer_lines new.version given)) ∙ ap (λ (l : List (List ℕ)). answer_lines new.version given ++ l) (sym (no_edit before prior (is_change given)))
        where
          no_edit : (o : Option Account) → IsBefore action old watches o → (c : Bool) → told_since (if c then o else None) watches' new.version ≡ []
          no_edit None prior true = refl
          no_edit None prior false = refl
          no_edit (Some pass) prior true = absurd (clash prior.0 is)
          no_edit (Some pass) prior false = refl

-- A watch at a place, and the text of what it reports.
