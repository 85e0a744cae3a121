-- Members that accesses find.
use Rattle.std.proofs.Common.{◌≡◌, ℕ, ◌<◌, ◌≤◌, leb, List, Option, Some, None, IfSome, sym, arith}
use Rattle.gcl_model.specs.Extents.{Extent}
use Rattle.gcl_model.specs.Texts.{Text, IsText}
use Rattle.gcl_model.specs.Limits.{address_end}
use Rattle.gcl_model.specs.Forms.{Form}
use Rattle.gcl_model.specs.Meaning.{concordance, denotes}
use Rattle.gcl_model.proofs.Covers.{Has, of_each, find_gives, find_last_gives}
use Rattle.gcl_model.proofs.Meanings.{IsOf, each_of_text}
use Rattle.gcl_eval.specs.Directions.{access_of}
use Rattle.gcl_eval.specs.declared.direction.Access.{Access}
use Rattle.gcl_eval.specs.declared.direction.Access.TheVariants.{FirstStart, FirstEnd, LastEnd, LastStart}

-- what an access gives is a member
pub access_gives : (access : Access) (list : List Extent) (k : ℕ) (a : Extent) → access_of access list k ≡ Some a → Has list a
access_gives FirstStart list k a e = (find_gives (λ x. leb k x.start) list a e).0
access_gives FirstEnd list k a e = (find_gives (λ x. leb k x.end) list a e).0
access_gives LastEnd list k a e = (find_last_gives (λ x. leb x.end k) list a e).0
access_gives LastStart list k a e = (find_last_gives (λ x. leb x.start k) list a e).0

pub member_of_text : (text : Text) (form : Form) (a : Extent) → Has (concordance text form) a → IsOf text a
member_of_text text form a m = of_each (IsOf text) (concordance text form) a (each_of_text text (denotes text form)) m

-- and it lies within the addresses
pub access_within : (access : Access) (text : Text) (form : Form) (k : ℕ) (o : Option Extent) → IsText text → o ≡ access_of access (concordance text form) k → IfSome o (λ a. a.end < address_end)
access_within access text form k None sound is = tt
access_within access text form k (Some a) sound is =
    let of = member_of_text text form a (access_gives access (concordance text form) k a (sym is)) in
    let below : a.end < text.next = of.below in
    let bound : text.next ≤ address_end = sound.in_range in
    omega arith

-- and it starts before it ends
pub access_proper : (access : Access) (text : Text) (form : Form) (k : ℕ) (a : Extent) → Some a ≡ access_of access (concordance text form) k → a.start ≤ a.end
access_proper access text form k a is = (member_of_text text form a (access_gives access (concordance text form) k a (sym is))).proper
