-- What the tokens of a tree are to the state before them, and how a tree ends.
use Rattle.std.proofs.Common.{◌≡◌, ℕ, ◌+◌, ◌-◌, ◌<◌, ◌≤◌, Bool, true, false, List, [], ◌∷◌, length, refl, subst, arith}
use Rattle.gcl_model.specs.Limits.{most_operands, most_brackets}
use Rattle.gcl_parser.specs.declared.token.Joint.{Joint}
use Rattle.gcl_parser.specs.declared.token.Joint.TheVariants.{FollowedBy, BothOf, OneOf}
use Rattle.gcl_parser.specs.QueryTokens.{QueryToken, operand, joint, containment, open_bracket, close_bracket, broken}
use Rattle.gcl_parser.specs.Reading.{IsFaultless, Ends, EndsQuery}
use Rattle.gcl_parser.specs.Grammar.{Level, single, joined, below, Part, simple, bracketed, only, join, Query, query, Containments, no_more, and_then, spelling, query_spelling, more_spelling, nesting, query_nesting, more_nesting, operands, query_operands, more_operands}
use Rattle.gcl_parser.proofs.Faults.{few_operands, operand_passes, few_brackets, bracket_passes, close_passes}

-- after the tokens of a tree: it was within the limits, and what follows has no fault
pub record Behind (o c nest count : ℕ) (rest : List QueryToken) : Type 0 where
  pub deep : o + nest ≤ most_brackets
  pub many : c + count ≤ most_operands
  pub faultless : IsFaultless false o (c + count) rest

with_count : (w : Bool) (o c d : ℕ) (rest : List QueryToken) → c ≡ d → IsFaultless w o c rest → IsFaultless w o d rest
with_count w o c d rest is h = subst (λ n. IsFaultless w o n rest) is h

with_open : (w : Bool) (o p c : ℕ) (rest : List QueryToken) → o ≡ p → IsFaultless w o c rest → IsFaultless w p c rest
with_open w o p c rest is h = subst (λ n. IsFaultless w n c rest) is h

mutual
  pub part_behind : {l : Level} (p : Part l) (o c : ℕ) (rest : List QueryToken) → o ≤ most_brackets → IsFaultless true o c (spelling p rest) → Behind o c (nesting p) (operands p) rest
  part_behind (simple form) o c rest le h =
      let few : c < most_operands = few_operands o c form h.0 in
      record { deep = omega arith; many = omega arith; faultless = h.1 }
  part_behind (bracketed q) o c rest le h =
      let few : o < most_brackets = few_brackets o c h.0 in
      let inside = query_behind q (o + 1) c (close_bracket ∷ rest) (omega arith) h.1 in
      let deep : o + 1 + query_nesting q ≤ most_brackets = inside.deep in
      record { deep = omega arith; many = inside.many; faultless = with_open false (o + 1 - 1) o (c + query_operands q) rest (omega arith) inside.faultless.1 }
  part_behind (only j part) o c rest le h = part_behind part o c rest le h
  part_behind (join j part chain) o c rest le h =
      let first = part_behind part o c (joint j ∷ spelling chain rest) le h in
      let then = part_behind chain o (c + operands part) rest le first.faultless.1 in
      let deep : o + nesting part ≤ most_brackets = first.deep in
      let deeper : o + nesting chain ≤ most_brackets = then.deep in
      let many : c + operands part + operands chain ≤ most_operands = then.many in
      record { deep = omega arith; many = omega arith; faultless = with_count false o (c + operands part + operands chain) (c + (operands part + operands chain)) rest (omega arith) then.faultless }

  pub query_behind : (q : Query) (o c : ℕ) (rest : List QueryToken) → o ≤ most_brackets → IsFaultless true o c (query_spelling q rest) → Behind o c (query_nesting q) (query_operands q) rest
  query_behind (query part more) o c rest le h =
      let first = part_behind part o c (more_spelling more rest) le h in
      let deep : o + nesting part ≤ most_brackets = first.deep in
      let few : c + operands part ≤ most_operands = first.many in
      let then = more_behind more o (c + operands part) rest le few first.faultless in
      let deeper : o + more_nesting more ≤ most_brackets = then.deep in
      let many : c + operands part + more_operands more ≤ most_operands = then.many in
      record { deep = omega arith; many = omega arith; faultless = with_count false o (c + operands part + more_operands more) (c + (operands part + more_operands more)) rest (omega arith) then.faultless }

  pub more_behind : (m : Containments) (o c : ℕ) (rest : List QueryToken) → o ≤ most_brackets → c ≤ most_operands → IsFaultless false o c (more_spelling m rest) → Behind o c (more_nesting m) (more_operands m) rest
  more_behind no_more o c rest le few h = record { deep = omega arith; many = omega arith; faultless = with_count false o c (c + 0) rest (omega arith) h }
  more_behind (and_then operator part more) o c rest le few h =
      let first = part_behind part o c (more_spelling more rest) le h.1 in
      let deep : o + nesting part ≤ most_brackets = first.deep in
      let few : c + operands part ≤ most_operands = first.many in
      let then = more_behind more o (c + operands part) rest le few first.faultless in
      let deeper : o + more_nesting more ≤ most_brackets = then.deep in
      let many : c + operands part + more_operands more ≤ most_operands = then.many in
      record { deep = omega arith; many = omega arith; faultless = with_count false o (c + operands part + more_operands more) (c + (operands part + more_operands more)) rest (omega arith) then.faultless }

-- what is after the tokens of a tree has no fault, if the tokens and it have none
mutual
  pub part_faultless : {l : Level} (p : Part l) (o c : ℕ) (rest : List QueryToken) → o + nesting p ≤ most_brackets → c + operands p ≤ most_operands → IsFaultless false o (c + operands p) rest → IsFaultless true o c (spelling p rest)
  part_faultless (simple form) o c rest deep many h = (operand_passes o c form (omega arith), h)
  part_faultless (bracketed q) o c rest deep many h = (
    bracket_passes o c (omega arith),
    query_faultless q (o + 1) c (close_bracket ∷ rest) (omega arith) many
        (close_passes (o + 1) (c + query_operands q) (omega arith), with_open false o (o + 1 - 1) (c + query_operands q) rest (omega arith) h),
  )
  part_faultless (only j part) o c rest deep many h = part_faultless part o c rest deep many h
  part_faultless (join j part chain) o c rest deep many h =
      part_faultless part o c (joint j ∷ spelling chain rest) (omega arith) (omega arith) (
        refl,
        part_faultless chain o (c + operands part) rest (omega arith) (omega arith)
            (with_count false o (c + (operands part + operands chain)) (c + operands part + operands chain) rest (omega arith) h),
      )

  pub query_faultless : (q : Query) (o c : ℕ) (rest : List QueryToken) → o + query_nesting q ≤ most_brackets → c + query_operands q ≤ most_operands → IsFaultless false o (c + query_operands q) rest → IsFaultless true o c (query_spelling q rest)
  query_faultless (query part more) o c rest deep many h =
      part_faultless part o c (more_spelling more rest) (omega arith) (omega arith)
      (more_faultless more o (c + operands part) rest (omega arith) (omega arith)
      (with_count false o (c + (operands part + more_operands more)) (c + operands part + more_operands more) rest (omega arith) h))

  pub more_faultless : (m : Containments) (o c : ℕ) (rest : List QueryToken) → o + more_nesting m ≤ most_brackets → c + more_operands m ≤ most_operands → IsFaultless false o (c + more_operands m) rest → IsFaultless false o c (more_spelling m rest)
  more_faultless no_more o c rest deep many h = with_count false o (c + 0) c rest (omega arith) h
  more_faultless (and_then operator part more) o c rest deep many h = (
    refl,
    part_faultless part o c (more_spelling more rest) (omega arith) (omega arith)
        (more_faultless more o (c + operands part) rest (omega arith) (omega arith)
        (with_count false o (c + (operands part + more_operands more)) (c + operands part + more_operands more) rest (omega arith) h)),
  )

-- a tree spells a token or more
mutual
  pub part_longer : {l : Level} (p : Part l) (rest : List QueryToken) → length rest < length (spelling p rest)
  part_longer (simple form) rest = omega arith
  part_longer (bracketed q) rest = let inside : length (close_bracket ∷ rest) < length (query_spelling q (close_bracket ∷ rest)) = query_longer q (close_bracket ∷ rest) in omega arith
  part_longer (only j part) rest = part_longer part rest
  part_longer (join j part chain) rest =
      let first : length (joint j ∷ spelling chain rest) < length (spelling part (joint j ∷ spelling chain rest)) = part_longer part (joint j ∷ spelling chain rest) in
      let then : length rest < length (spelling chain rest) = part_longer chain rest in
      omega arith

  pub query_longer : (q : Query) (rest : List QueryToken) → length rest < length (query_spelling q rest)
  query_longer (query part more) rest =
      let first : length (more_spelling more rest) < length (spelling part (more_spelling more rest)) = part_longer part (more_spelling more rest) in
      let then : length rest ≤ length (more_spelling more rest) = more_longer more rest in
      omega arith

  more_longer : (m : Containments) (rest : List QueryToken) → length rest ≤ length (more_spelling m rest)
  more_longer no_more rest = omega arith
  more_longer (and_then operator part more) rest =
      let first : length (more_spelling more rest) < length (spelling part (more_spelling more rest)) = part_longer part (more_spelling more rest) in
      let then : length rest ≤ length (more_spelling more rest) = more_longer more rest in
      omega arith

-- how a level ends
pub ends_single : (rest : List QueryToken) → Ends single rest
ends_single [] = tt
ends_single (token ∷ rest) = refl

pub ends_below : (j : Joint) (rest : List QueryToken) → Ends (joined j) rest → Ends (below j) rest
ends_below j [] h = tt
ends_below FollowedBy (token ∷ rest) h = refl
ends_below BothOf (operand form ∷ rest) h = refl
ends_below BothOf (joint FollowedBy ∷ rest) h = h
ends_below BothOf (joint BothOf ∷ rest) h = refl
ends_below BothOf (joint OneOf ∷ rest) h = refl
ends_below BothOf (containment operator ∷ rest) h = refl
ends_below BothOf (open_bracket ∷ rest) h = refl
ends_below BothOf (close_bracket ∷ rest) h = refl
ends_below BothOf (broken kind ∷ rest) h = refl
ends_below OneOf (operand form ∷ rest) h = refl
ends_below OneOf (joint j ∷ rest) h = absurd cc
ends_below OneOf (containment operator ∷ rest) h = refl
ends_below OneOf (open_bracket ∷ rest) h = refl
ends_below OneOf (close_bracket ∷ rest) h = refl
ends_below OneOf (broken kind ∷ rest) h = refl

pub ends_joint : (j : Joint) (rest : List QueryToken) → Ends (below j) (joint j ∷ rest)
ends_joint FollowedBy rest = refl
ends_joint BothOf rest = refl
ends_joint OneOf rest = refl

pub joint_goes_on : (j : Joint) (rest : List QueryToken) → Ends (joined j) (joint j ∷ rest) → ⊥
joint_goes_on FollowedBy rest h = cc
joint_goes_on BothOf rest h = cc
joint_goes_on OneOf rest h = cc

pub ends_containments : (rest : List QueryToken) (m : Containments) → EndsQuery rest → Ends (joined OneOf) (more_spelling m rest)
ends_containments [] no_more h = tt
ends_containments (operand form ∷ rest) no_more h = refl
ends_containments (joint j ∷ rest) no_more h = absurd cc
ends_containments (containment operator ∷ rest) no_more h = refl
ends_containments (open_bracket ∷ rest) no_more h = refl
ends_containments (close_bracket ∷ rest) no_more h = refl
ends_containments (broken kind ∷ rest) no_more h = refl
ends_containments rest (and_then operator part more) h = refl
