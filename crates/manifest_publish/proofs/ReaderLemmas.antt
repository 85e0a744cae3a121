-- What a reader keeps.
use Rattle.std.proofs.Common.{◌≡◌, ◌≢◌, ℕ, ◌+◌, Bool, true, false, MatchBool, List, [], ◌∷◌, ◌++◌, length, ap, sym, ◌∙◌, subst, arith, inl, inr}
use mathlib.Core.List.{IsPrefix}
use Rattle.live_version.specs.Contents.{VersionContent}
use Rattle.gcl_model.proofs.Lists.{all_weaker}
use Rattle.manifest_publish.specs.Accounts.{Account, EndsWith, IsOwed, GoesOn, BeginWith, MayEnter, reader_content}
use Rattle.manifest_publish.specs.Tracked.{HasAll, IsTracked}
use Rattle.manifest_publish.proofs.Prefixes.{prefix_self, prefix_trans, prefix_whole, all_snoc}
use Rattle.manifest_publish.proofs.HistoryLemmas.{latest-number}

snoc-some : {A : Type 0} (xs : List A) (x : A) → xs ++ x ∷ [] ≢ []
snoc-some [] x e = absurd (cc e)
snoc-some (y ∷ ys) x e = absurd (cc e)

module _ (seen due kept : Account) (told : List (List VersionContent)) (learnt : Bool) (t : IsTracked seen due kept told learnt) where
  -- what begins with all that is due begins with all that was seen and learnt
  pub goes_on : (history : List VersionContent) → IsPrefix due.history history → GoesOn (reader_content seen.publisher seen.history told kept.history) history
  goes_on history p = (
    prefix_trans seen.history due.history history t.seen_due p,
    all_weaker (λ l. IsPrefix l due.history) (λ l. IsPrefix l history) (λ l q. prefix_trans l due.history history q p) told t.told_due,
  )

  -- one more was learnt, and what is due has grown by it
  pub tracked-learnt : (more longer : Account) → longer.publisher ≡ due.publisher → IsPrefix due.history longer.history → IsPrefix more.history longer.history
      → IsTracked seen longer kept (told ++ more.history ∷ []) true
  tracked-learnt more longer same p q = record {
    publishers = (same ∙ t.publishers.0, t.publishers.1);
    told_due = all_snoc (λ l. IsPrefix l longer.history) told more.history (all_weaker (λ l. IsPrefix l due.history) (λ l. IsPrefix l longer.history) (λ l r. prefix_trans l due.history longer.history r p) told t.told_due) q;
    seen_due = prefix_trans seen.history due.history longer.history t.seen_due p;
    kept_seen = t.kept_seen;
    learns = snoc-some told more.history;
  }

  -- what has all that is due may be entered
  pub may_enter : (found : Account) → HasAll due found → MayEnter (reader_content seen.publisher seen.history told kept.history) found
  may_enter found all = (all.0 ∙ t.publishers.0, all.1, goes_on found.history all.2)

  -- what was reached is now what is seen and due, and nothing is learnt since
  pub tracked-reached : (found mark again : Account) (told' : List (List VersionContent)) → MayEnter (reader_content seen.publisher seen.history told kept.history) found
      → mark ≡ found → again ≡ mark → told' ≡ [] → IsTracked mark again kept told' false
  tracked-reached found mark again told' may is same none = record {
    publishers = (ap (λ a. a.publisher) same, t.publishers.1 ∙ sym (ap (λ a. a.publisher) is ∙ may.0));
    told_due = subst (λ lists. BeginWith lists again.history) (sym none) tt;
    seen_due = subst (λ a. IsPrefix mark.history a.history) (sym same) (prefix_self mark.history);
    kept_seen = subst (λ a. IsPrefix kept.history a.history) (sym is) (prefix_trans kept.history seen.history found.history t.kept_seen may.2.0);
    learns = none;
  }

  pub owed-told : learnt ≡ true → IsOwed (reader_content seen.publisher seen.history told kept.history)
  owed-told e = inl (subst (λ b. MatchBool b (told ≢ []) (told ≡ [])) e t.learns)

  pub owed-behind : (w : VersionContent) (n m : ℕ) → EndsWith kept.history w → n ≡ w.number → m + 1 ≡ length seen.history → m ≢ n → IsOwed (reader_content seen.publisher seen.history told kept.history)
  owed-behind w n m ends is last apart =
      let k = latest-number kept.history w ends.0 ends.1 in
      inr (λ (same : seen.history ≡ kept.history). let s : length seen.history ≡ length kept.history = ap length same in apart (omega arith))

  -- nothing is owed: what was seen is what is kept
  pub caught_up : (w : VersionContent) (m : ℕ) → EndsWith kept.history w → m + 1 ≡ length seen.history → m ≡ w.number → seen.history ≡ kept.history
  caught_up w m ends last is =
      let k = latest-number kept.history w ends.0 ends.1 in
      sym (prefix_whole kept.history seen.history t.kept_seen (omega arith))

  pub told-none : learnt ≡ false → told ≡ []
  told-none e = subst (λ b. MatchBool b (told ≢ []) (told ≡ [])) e t.learns
