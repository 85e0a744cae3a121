-- What the receipts and passes of a book's calls show.
use Rattle.std.proofs.Common.{◌≡◌, ℕ, ◌≤◌, List, [], ◌∷◌, ◌++◌, sym, ap, ◌∙◌, subst, arith, append_assoc}
use Rattle.gcl_model.specs.Tokens.{tokens_of}
use Rattle.live_version.specs.Contents.{VersionContent}
use Rattle.manifest_publish.specs.Accounts.{Account, EndsWith, ReceiptContent}
use Rattle.manifest_publish.specs.Histories.{IsLatest}
use Rattle.collection.specs.Engines.{EngineContent, IsPublication}
use Rattle.collection.specs.declared.engine.Added.{Added}
use Rattle.shared_edit.specs.Books.{BookContent, IsBook, FilesAdd, FilesSpent, FilesGone, FilesNotLive}
use Rattle.shared_edit.specs.Editors.{EditorContent}
use Rattle.shared_edit.specs.Shared.{EndsInAdd, EndsInDelete, HasCounts, ShowsSpent, ShowsNotLive}
use Rattle.shared_edit.proofs.BookLemmas.{total_ids, total_dels}

-- the history of a publication's receipt, by its last two versions
two_last : (old new : EngineContent) (receipt : ReceiptContent) (e : EndsWith old.history old.version) → IsPublication old new receipt → receipt.history ≡ e.1.0 ++ old.version ∷ new.version ∷ []
two_last old new receipt e p =
    p.receipt.same_history ∙ p.history ∙ ap (λ h. h ++ new.version ∷ []) e.1.1 ∙ append_assoc e.1.0 (old.version ∷ []) (new.version ∷ [])

pub ends-in-add : (old new : BookContent) (n : ℕ) (name bytes : List ℕ) (added : Added) → EndsWith old.engine.history old.engine.version → FilesAdd old new n name bytes added
    → EndsInAdd added.receipt.history name (tokens_of bytes) added
ends-in-add old new n name bytes added e f = record {
  earlier = e.1.0;
  before = old.engine.version;
  after = new.engine.version;
  last = two_last old.engine new.engine added.receipt e f.add.published;
  stands = λ c s. (f.add.change.stands c s).1;
  id = f.add.id;
  base = f.add.first;
  end = f.add.last;
}

pub ends-in-delete : (old new : BookContent) (n id : ℕ) (receipt : ReceiptContent) → EndsWith old.engine.history old.engine.version → FilesGone old new n id receipt → EndsInDelete receipt.history id
ends-in-delete old new n id receipt e f = record {
  earlier = e.1.0;
  before = old.engine.version;
  after = new.engine.version;
  last = two_last old.engine new.engine receipt e f.delete.published;
  stands = λ c s. (f.delete.change.stands c s).1;
}

-- whoever sees the last version of a book sees counts that no editor's are above
pub has-counts : (b : BookContent) (history : List VersionContent) (editor : EditorContent) → IsBook b → IsLatest history b.engine.version → editor.added ≤ b.added → editor.gone ≤ b.gone → HasCounts history editor
has-counts b history editor h latest added gone = record {
  version = b.engine.version;
  latest = latest;
  added = omega (arith, added, total_ids b h);
  gone = omega (arith, gone, total_dels b h);
}

-- a publication's receipt ends with the new version
pub published-latest : (old new : EngineContent) (receipt : ReceiptContent) → IsPublication old new receipt → IsLatest receipt.history new.version
published-latest old new receipt p = (old.history, p.receipt.same_history ∙ p.history)

pub shows-spent : (old new : BookContent) (n : ℕ) (name bytes : List ℕ) (need : ℕ) (seen : Account) → EndsWith old.engine.history old.engine.version → FilesSpent old new n name bytes need seen
    → ShowsSpent (tokens_of bytes) need seen.history
shows-spent old new n name bytes need seen e f = record {
  version = old.engine.version;
  latest = subst (λ (h : List VersionContent). IsLatest h old.engine.version) (sym (ap (λ (a : Account). a.history) f.seen_is)) e.1;
  needed = f.needed;
  past = f.past;
}

pub shows-not_live : (old new : BookContent) (n id : ℕ) (seen : Account) → EndsWith old.engine.history old.engine.version → FilesNotLive old new n id seen → ShowsNotLive id seen.history
shows-not_live old new n id seen e f = record {
  version = old.engine.version;
  latest = subst (λ (h : List VersionContent). IsLatest h old.engine.version) (sym (ap (λ (a : Account). a.history) f.seen_is)) e.1;
  none = f.none;
}

-- the engine stays if the deletion is refused, so the pass ends with its version
pub not_live-latest : (old new : BookContent) (n id : ℕ) (seen : Account) → EndsWith old.engine.history old.engine.version → FilesNotLive old new n id seen → IsLatest seen.history new.engine.version
not_live-latest old new n id seen e f =
    subst (λ (v : VersionContent). IsLatest seen.history v) (sym (ap (λ (b : BookContent). b.engine.version) f.book))
    (subst (λ (h : List VersionContent). IsLatest h old.engine.version) (sym (ap (λ (a : Account). a.history) f.seen_is)) e.1)
