-- The first fault of a text, by the state at each place; and when there is none.
use Rattle.std.proofs.Common.{◌≡◌, ℕ, ◌+◌, ◌<◌, ◌≤◌, Bool, true, false, not, cond, nat_le, List, [], ◌∷◌, map, length, Option, Some, None, refl, ap, ◌∙◌, arith}
use Rattle.std.proofs.lemmas.Bool.{leb-true, leb-false}
use Rattle.std.proofs.lemmas.List.Sums.{sum_by-cons}
use Rattle.std.specs.List.{count_by}
use Rattle.gcl_model.specs.Limits.{most_operands, most_brackets}
use Rattle.gcl_model.specs.Forms.{Form}
use Rattle.gcl_parser.specs.declared.fault.QueryKind.{QueryKind}
use Rattle.gcl_parser.specs.declared.fault.QueryFault.{QueryFault}
use Rattle.gcl_parser.specs.declared.fault.QueryKind.TheVariants.{TooLarge, TooDeep, OperatorOrCloseExpected}
use Rattle.gcl_parser.specs.QueryTokens.{QueryToken, operand, joint, containment, open_bracket, close_bracket, broken, Placed, token_of, query_tokens}
use Rattle.gcl_parser.specs.Refusal.{is_operand, is_open, is_close, wants_operand, open_count, operand_count, fault_in, fault_at_end, fault_or, first_fault, refused}
use Rattle.gcl_parser.specs.Reading.{wants_behind, opened_behind, count_behind, fault_from, IsFaultless}

-- as many brackets were opened as closed, or more
abbrev pub AreOpen : List QueryToken → Type 0
AreOpen before = count_by is_close before ≤ count_by is_open before

counted : (p : QueryToken → Bool) (t : QueryToken) (before : List QueryToken) → count_by p (t ∷ before) ≡ cond (p t) 1 0 + count_by p before
counted p t before = sum_by-cons (λ t. cond (p t) 1 0) t before

open_again : (w : Bool) (c : ℕ) (before : List QueryToken) (t : QueryToken) → AreOpen before → fault_in w (open_count before) c t ≡ None → AreOpen (t ∷ before)
open_again w c before (operand form) opens none = omega (arith, counted is_open (operand form) before, counted is_close (operand form) before)
open_again w c before (joint j) opens none = omega (arith, counted is_open (joint j) before, counted is_close (joint j) before)
open_again w c before (containment operator) opens none = omega (arith, counted is_open (containment operator) before, counted is_close (containment operator) before)
open_again w c before open_bracket opens none = omega (arith, counted is_open open_bracket before, counted is_close open_bracket before)
open_again true c before close_bracket opens none = absurd cc
open_again false c before close_bracket opens none = closed (nat_le 1 (open_count before)) refl none
  where
    closed : (b : Bool) → nat_le 1 (open_count before) ≡ b → fault_in false (open_count before) c close_bracket ≡ None → AreOpen (close_bracket ∷ before)
    closed true is h = let le : 1 ≤ open_count before = leb-true 1 (open_count before) is in omega (arith, counted is_open close_bracket before, counted is_close close_bracket before)
    closed false is h = let impossible = rw is at h in absurd cc
open_again w c before (broken kind) opens none = absurd cc

opened_is : (before : List QueryToken) (t : QueryToken) → AreOpen before → open_count (t ∷ before) ≡ opened_behind (open_count before) t
opened_is before (operand form) opens = omega (arith, counted is_open (operand form) before, counted is_close (operand form) before)
opened_is before (joint j) opens = omega (arith, counted is_open (joint j) before, counted is_close (joint j) before)
opened_is before (containment operator) opens = omega (arith, counted is_open (containment operator) before, counted is_close (containment operator) before)
opened_is before open_bracket opens = omega (arith, counted is_open open_bracket before, counted is_close open_bracket before)
opened_is before close_bracket opens = omega (arith, counted is_open close_bracket before, counted is_close close_bracket before)
opened_is before (broken kind) opens = omega (arith, counted is_open (broken kind) before, counted is_close (broken kind) before)

count_is : (before : List QueryToken) (t : QueryToken) → operand_count (t ∷ before) ≡ count_behind (operand_count before) t
count_is before (operand form) = omega (arith, counted is_operand (operand form) before)
count_is before (joint j) = omega (arith, counted is_operand (joint j) before)
count_is before (containment operator) = omega (arith, counted is_operand (containment operator) before)
count_is before open_bracket = omega (arith, counted is_operand open_bracket before)
count_is before close_bracket = omega (arith, counted is_operand close_bracket before)
count_is before (broken kind) = omega (arith, counted is_operand (broken kind) before)

same_later : (at : ℕ) (f : Option QueryKind) (a b : Option QueryFault) → (f ≡ None → a ≡ b) → fault_or at f a ≡ fault_or at f b
same_later at None a b same = same refl
same_later at (Some kind) a b same = refl

-- the counts are kept step by step
pub state_is : (before : List QueryToken) (end : ℕ) (ps : List Placed) → AreOpen before →
    first_fault before end ps ≡ fault_from (wants_operand before) (open_count before) (operand_count before) end ps
state_is before end [] opens = refl
state_is before end (p ∷ ps) opens =
    same_later p.at (fault_in (wants_operand before) (open_count before) (operand_count before) p.token) (first_fault (p.token ∷ before) end ps)
    (fault_from (wants_behind p.token) (opened_behind (open_count before) p.token) (count_behind (operand_count before) p.token) end ps)
    (λ none.
    state_is (p.token ∷ before) end ps (open_again (wants_operand before) (operand_count before) before p.token opens none)
    ∙ ap (λ n. fault_from (wants_behind p.token) n (operand_count (p.token ∷ before)) end ps) (opened_is before p.token opens)
    ∙ ap (λ n. fault_from (wants_behind p.token) (opened_behind (open_count before) p.token) n end ps) (count_is before p.token))

pub refused_is : (text : List ℕ) → refused text ≡ fault_from true 0 0 (length text) (query_tokens text)
refused_is text = state_is [] (length text) (query_tokens text) (omega arith)

-- no fault
pub fault_or_none : (at : ℕ) (f : Option QueryKind) (later : Option QueryFault) → fault_or at f later ≡ None → (f ≡ None) × (later ≡ None)
fault_or_none at None later is = (refl, is)
fault_or_none at (Some kind) later is = absurd cc

none_or : (at : ℕ) (f : Option QueryKind) (later : Option QueryFault) → f ≡ None → later ≡ None → fault_or at f later ≡ None
none_or at None later a b = b
none_or at (Some kind) later a b = absurd cc

pub none_faultless : (w : Bool) (o c end : ℕ) (ps : List Placed) → fault_from w o c end ps ≡ None → IsFaultless w o c (map token_of ps)
none_faultless w o c end [] is = (fault_or_none end (fault_at_end w o) None is).0
none_faultless w o c end (p ∷ ps) is =
    let both = fault_or_none p.at (fault_in w o c p.token) (fault_from (wants_behind p.token) (opened_behind o p.token) (count_behind c p.token) end ps) is in
    (both.0, none_faultless (wants_behind p.token) (opened_behind o p.token) (count_behind c p.token) end ps both.1)

pub faultless_none : (w : Bool) (o c end : ℕ) (ps : List Placed) → IsFaultless w o c (map token_of ps) → fault_from w o c end ps ≡ None
faultless_none w o c end [] is = none_or end (fault_at_end w o) None is refl
faultless_none w o c end (p ∷ ps) is =
    none_or p.at (fault_in w o c p.token) (fault_from (wants_behind p.token) (opened_behind o p.token) (count_behind c p.token) end ps) is.0
    (faultless_none (wants_behind p.token) (opened_behind o p.token) (count_behind c p.token) end ps is.1)

-- the limits, from a test and back
limit_kept : (kind : QueryKind) (most n : ℕ) (b : Bool) → nat_le most n ≡ b → cond b (Some kind) None ≡ None → n < most
limit_kept kind most n true is none = absurd cc
limit_kept kind most n false is none = leb-false most n is

limit_passes : (kind : QueryKind) (most n : ℕ) (b : Bool) → nat_le most n ≡ b → n < most → cond b (Some kind) None ≡ None
limit_passes kind most n true is lt = let le : most ≤ n = leb-true most n is in absurd (omega arith)
limit_passes kind most n false is lt = refl

pub few_operands : (o c : ℕ) (form : Form) → fault_in true o c (operand form) ≡ None → c < most_operands
few_operands o c form none = limit_kept TooLarge most_operands c (nat_le most_operands c) refl none

pub operand_passes : (o c : ℕ) (form : Form) → c < most_operands → fault_in true o c (operand form) ≡ None
operand_passes o c form lt = limit_passes TooLarge most_operands c (nat_le most_operands c) refl lt

pub few_brackets : (o c : ℕ) → fault_in true o c open_bracket ≡ None → o < most_brackets
few_brackets o c none = limit_kept TooDeep most_brackets o (nat_le most_brackets o) refl none

pub bracket_passes : (o c : ℕ) → o < most_brackets → fault_in true o c open_bracket ≡ None
bracket_passes o c lt = limit_passes TooDeep most_brackets o (nat_le most_brackets o) refl lt

closes : (o c : ℕ) (b : Bool) → nat_le 1 o ≡ b → 1 ≤ o → cond (not b) (Some OperatorOrCloseExpected) None ≡ None
closes o c true is le = refl
closes o c false is le = let lt : o < 1 = leb-false 1 o is in absurd (omega arith)

pub close_passes : (o c : ℕ) → 1 ≤ o → fault_in false o c close_bracket ≡ None
close_passes o c le = closes o c (nat_le 1 o) refl le

stays_open : (o : ℕ) (b : Bool) → nat_le 1 o ≡ b → 1 ≤ o → cond b (Some OperatorOrCloseExpected) None ≡ None → ⊥
stays_open o true is le none = cc
stays_open o false is le none = let lt : o < 1 = leb-false 1 o is in absurd (omega arith)

pub end_is_open : (o : ℕ) → 1 ≤ o → fault_at_end false o ≡ None → ⊥
end_is_open o le none = stays_open o (nat_le 1 o) refl le none
