-- From member to member of what is left.
use Rattle.std.proofs.Common.{◌≡◌, ℕ, ◌+◌, ◌≤◌, List, [], ◌∷◌, ◌++◌, Some, refl, sym, ◌∙◌, arith}
use Rattle.gcl_model.specs.Extents.{Extent}
use Rattle.gcl_model.specs.Texts.{Text}
use Rattle.gcl_model.specs.Forms.{Form}
use Rattle.gcl_model.specs.Meaning.{concordance}
use Rattle.gcl_model.specs.Access.{first_start}
use Rattle.gcl_readers.proofs.Standings.{proper_text}
use Rattle.gcl_eval.specs.Members.{members_from}
use Rattle.gcl_readers.specs.Reading.{behind_page}
use Rattle.gcl_readers.proofs.Members.{agrees_at, from_has, first_member}

-- behind a member the readers that went to it answer as those that did not
pub agree_behind : (list : List Extent) (x y k : ℕ) (a : Extent) → first_start (members_from list x) k ≡ Some a → y ≤ a.start → first_start (members_from list y) (a.start + 1) ≡ first_start (members_from list x) (a.start + 1)
agree_behind list x y k a is le =
    let left = (from_has list x a (first_member (members_from list x) k a is)).1 in
    agrees_at list y (a.start + 1) (omega arith) ∙ sym (agrees_at list x (a.start + 1) (omega arith))

-- a page with one member more goes on behind it
pub behind_put : (k : ℕ) (members : List Extent) (a : Extent) → behind_page k (members ++ a ∷ []) ≡ a.start + 1
behind_put k [] a = refl
behind_put k (b ∷ members) a = behind_put (b.start + 1) members a

-- what is found starts before it ends
pub starts_first : (text : Text) (form : Form) (a : Extent) (x k : ℕ) → Some a ≡ first_start (members_from (concordance text form) x) k → a.start ≤ a.end
starts_first text form a x k is = proper_text text form a (from_has (concordance text form) x a (first_member (members_from (concordance text form) x) k a (sym is))).0
