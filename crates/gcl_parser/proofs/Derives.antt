-- Tokens without a fault are spelled by a tree of the grammar.
use Rattle.std.proofs.Common.{◌≡◌, ℕ, zero, suc, ◌+◌, ◌<◌, ◌≤◌, true, false, List, [], ◌∷◌, map, length, None, refl, sym, ap, subst, ◌∙◌, arith}
use Rattle.gcl_model.specs.Limits.{most_operands, most_brackets}
use Rattle.gcl_model.specs.Forms.{Form}
use Rattle.gcl_parser.specs.declared.token.Joint.{Joint}
use Rattle.gcl_parser.specs.declared.token.Joint.TheVariants.{FollowedBy, BothOf, OneOf}
use Rattle.gcl_parser.specs.QueryTokens.{QueryToken, operand, joint, containment, open_bracket, close_bracket, broken, query_tokens, token_of}
use Rattle.gcl_parser.specs.Refusal.{refused}
use Rattle.gcl_parser.specs.Reading.{IsFaultless, Ends, EndsQuery}
use Rattle.gcl_parser.specs.Grammar.{Level, single, joined, below, Part, simple, bracketed, only, join, Query, query, Containments, no_more, and_then, spelling, query_spelling, more_spelling, form_of_query, query_nesting, query_operands, operands, IsQueryWithin}
use Rattle.gcl_parser.proofs.Faults.{refused_is, none_faultless, faultless_none, end_is_open, few_brackets}
use Rattle.gcl_parser.proofs.Trees.{part_behind, query_behind, query_faultless, part_longer, ends_single}

-- a front of the tokens is spelled by a part of the level, which ends there
pub record Reads (l : Level) (tokens : List QueryToken) : Type 0 where
  pub tree : Part l
  pub rest : List QueryToken
  pub spelled : tokens ≡ spelling tree rest
  pub ends : Ends l rest

pub record ReadsMore (tokens : List QueryToken) : Type 0 where
  pub tree : Containments
  pub rest : List QueryToken
  pub spelled : tokens ≡ more_spelling tree rest
  pub ends : EndsQuery rest

pub record ReadsQuery (tokens : List QueryToken) : Type 0 where
  pub tree : Query
  pub rest : List QueryToken
  pub spelled : tokens ≡ query_spelling tree rest
  pub ends : EndsQuery rest

-- tokens shorter than n, if an operand is to come, are read
abbrev pub AreRead : (List QueryToken → Type 0) → ℕ → Type 0
AreRead Read n = (tokens : List QueryToken) (o c : ℕ) → length tokens < n → o ≤ most_brackets → IsFaultless true o c tokens → Read tokens

-- after a part a chain goes on or ends
pub data After (j : Joint) : List QueryToken → Type 0 where
  goes : (tail : List QueryToken) → After j (joint j ∷ tail)
  stops : (rest : List QueryToken) → Ends (joined j) rest → After j rest

pub after : (j : Joint) (rest : List QueryToken) → Ends (below j) rest → After j rest
after j [] ends = stops [] tt
after FollowedBy (operand form ∷ rest) ends = stops (operand form ∷ rest) refl
after FollowedBy (joint FollowedBy ∷ rest) ends = goes rest
after FollowedBy (joint BothOf ∷ rest) ends = stops (joint BothOf ∷ rest) refl
after FollowedBy (joint OneOf ∷ rest) ends = stops (joint OneOf ∷ rest) refl
after FollowedBy (containment operator ∷ rest) ends = stops (containment operator ∷ rest) refl
after FollowedBy (open_bracket ∷ rest) ends = stops (open_bracket ∷ rest) refl
after FollowedBy (close_bracket ∷ rest) ends = stops (close_bracket ∷ rest) refl
after FollowedBy (broken kind ∷ rest) ends = stops (broken kind ∷ rest) refl
after BothOf (operand form ∷ rest) ends = stops (operand form ∷ rest) refl
after BothOf (joint FollowedBy ∷ rest) ends = absurd cc
after BothOf (joint BothOf ∷ rest) ends = goes rest
after BothOf (joint OneOf ∷ rest) ends = stops (joint OneOf ∷ rest) refl
after BothOf (containment operator ∷ rest) ends = stops (containment operator ∷ rest) refl
after BothOf (open_bracket ∷ rest) ends = stops (open_bracket ∷ rest) refl
after BothOf (close_bracket ∷ rest) ends = stops (close_bracket ∷ rest) refl
after BothOf (broken kind ∷ rest) ends = stops (broken kind ∷ rest) refl
after OneOf (operand form ∷ rest) ends = stops (operand form ∷ rest) refl
after OneOf (joint FollowedBy ∷ rest) ends = absurd cc
after OneOf (joint BothOf ∷ rest) ends = absurd cc
after OneOf (joint OneOf ∷ rest) ends = goes rest
after OneOf (containment operator ∷ rest) ends = stops (containment operator ∷ rest) refl
after OneOf (open_bracket ∷ rest) ends = stops (open_bracket ∷ rest) refl
after OneOf (close_bracket ∷ rest) ends = stops (close_bracket ∷ rest) refl
after OneOf (broken kind ∷ rest) ends = stops (broken kind ∷ rest) refl

-- a query in brackets
closed : (tokens : List QueryToken) (o c : ℕ) (q : Query) (rest : List QueryToken) → tokens ≡ query_spelling q rest → EndsQuery rest → IsFaultless false (o + 1) c rest → Reads single (open_bracket ∷ tokens)
closed tokens o c q [] is ends h = absurd (end_is_open (o + 1) (omega arith) h)
closed tokens o c q (operand form ∷ rest) is ends h = absurd (let no = h.0 in cc)
closed tokens o c q (joint j ∷ rest) is ends h = absurd cc
closed tokens o c q (containment operator ∷ rest) is ends h = absurd cc
closed tokens o c q (open_bracket ∷ rest) is ends h = absurd (let no = h.0 in cc)
closed tokens o c q (close_bracket ∷ rest) is ends h = record { tree = bracketed q; rest = rest; spelled = ap (λ ts. open_bracket ∷ ts) is; ends = ends_single rest }
closed tokens o c q (broken kind ∷ rest) is ends h = absurd (let no = h.0 in cc)

single_reads : (n : ℕ) → AreRead ReadsQuery n → AreRead (Reads single) (n + 1)
single_reads n queries [] o c short le h = absurd cc
single_reads n queries (operand form ∷ rest) o c short le h = record { tree = simple form; rest = rest; spelled = refl; ends = ends_single rest }
single_reads n queries (joint j ∷ rest) o c short le h = absurd (let no = h.0 in cc)
single_reads n queries (containment operator ∷ rest) o c short le h = absurd (let no = h.0 in cc)
single_reads n queries (open_bracket ∷ tokens) o c short le h = inside (queries tokens (o + 1) c (omega arith) deep h.1)
  where
    deep : o + 1 ≤ most_brackets
    deep = let lt : o < most_brackets = few_brackets o c h.0 in omega arith

    inside : ReadsQuery tokens → Reads single (open_bracket ∷ tokens)
    inside r =
        let behind = query_behind r.tree (o + 1) c r.rest deep (subst (λ ts. IsFaultless true (o + 1) c ts) r.spelled h.1) in
        closed tokens o (c + query_operands r.tree) r.tree r.rest r.spelled r.ends behind.faultless
single_reads n queries (close_bracket ∷ rest) o c short le h = absurd (let no = h.0 in cc)
single_reads n queries (broken kind ∷ rest) o c short le h = absurd (let no = h.0 in cc)

-- a chain of parts, if each part is read
chain_reads : (j : Joint) (n : ℕ) → AreRead (Reads (below j)) n → (m : ℕ) → m ≤ n → AreRead (Reads (joined j)) m
chain_reads j n parts zero le tokens o c short deep h = absurd (omega arith)
chain_reads j n parts (suc m) le tokens o c short deep h = go (parts tokens o c (omega arith) deep h) (chain_reads j n parts m (omega arith))
  where
    join_to : (p : Part (below j)) (tail : List QueryToken) → tokens ≡ spelling p (joint j ∷ tail) → Reads (joined j) tail → Reads (joined j) tokens
    join_to p tail is r = record { tree = join j p r.tree; rest = r.rest; spelled = is ∙ ap (λ ts. spelling p (joint j ∷ ts)) r.spelled; ends = r.ends }

    on : (p : Part (below j)) (rest : List QueryToken) → tokens ≡ spelling p rest → After j rest → AreRead (Reads (joined j)) m → Reads (joined j) tokens
    on p rest is (stops others ends) chains = record { tree = only j p; rest = others; spelled = is; ends = ends }
    on p rest is (goes tail) chains =
        let behind = part_behind p o c (joint j ∷ tail) deep (subst (λ ts. IsFaultless true o c ts) is h) in
        let longer : length (joint j ∷ tail) < length tokens = subst (λ ts. length (joint j ∷ tail) < length ts) (sym is) (part_longer p (joint j ∷ tail)) in
        join_to p tail is (chains tail o (c + operands p) (omega arith) deep behind.faultless.1)

    go : Reads (below j) tokens → AreRead (Reads (joined j)) m → Reads (joined j) tokens
    go r chains = on r.tree r.rest r.spelled (after j r.rest r.ends) chains

-- containments, if each chain is read
more_reads : (n : ℕ) → AreRead (Reads (joined OneOf)) n → (m : ℕ) → m ≤ n → (tokens : List QueryToken) (o c : ℕ) → length tokens < m → o ≤ most_brackets → Ends (joined OneOf) tokens → IsFaultless false o c tokens → ReadsMore tokens
more_reads n parts zero le tokens o c short deep ends h = absurd (omega arith)
more_reads n parts (suc m) le [] o c short deep ends h = record { tree = no_more; rest = []; spelled = refl; ends = tt }
more_reads n parts (suc m) le (operand form ∷ rest) o c short deep ends h = absurd (let no = h.0 in cc)
more_reads n parts (suc m) le (joint j ∷ rest) o c short deep ends h = absurd cc
more_reads n parts (suc m) le (containment operator ∷ tokens) o c short deep ends h = go (parts tokens o c (omega arith) deep h.1) (more_reads n parts m (omega arith))
  where
    go : Reads (joined OneOf) tokens → ((tokens : List QueryToken) (o c : ℕ) → length tokens < m → o ≤ most_brackets → Ends (joined OneOf) tokens → IsFaultless false o c tokens → ReadsMore tokens) → ReadsMore (containment operator ∷ tokens)
    go r more =
        let behind = part_behind r.tree o c r.rest deep (subst (λ ts. IsFaultless true o c ts) r.spelled h.1) in
        let longer : length r.rest < length tokens = subst (λ ts. length r.rest < length ts) (sym r.spelled) (part_longer r.tree r.rest) in
        let then = more r.rest o (c + operands r.tree) (omega arith) deep r.ends behind.faultless in
        record { tree = and_then operator r.tree then.tree; rest = then.rest; spelled = ap (λ ts. containment operator ∷ ts) (r.spelled ∙ ap (λ ts. spelling r.tree ts) then.spelled); ends = then.ends }
more_reads n parts (suc m) le (open_bracket ∷ rest) o c short deep ends h = absurd (let no = h.0 in cc)
more_reads n parts (suc m) le (close_bracket ∷ rest) o c short deep ends h = record { tree = no_more; rest = close_bracket ∷ rest; spelled = refl; ends = refl }
more_reads n parts (suc m) le (broken kind ∷ rest) o c short deep ends h = absurd (let no = h.0 in cc)

query_of : (n : ℕ) → AreRead (Reads (joined OneOf)) n → AreRead ReadsQuery n
query_of n parts tokens o c short deep h =
    let r = parts tokens o c short deep h in
    let behind = part_behind r.tree o c r.rest deep (subst (λ ts. IsFaultless true o c ts) r.spelled h) in
    let longer : length r.rest < length tokens = subst (λ ts. length r.rest < length ts) (sym r.spelled) (part_longer r.tree r.rest) in
    let more = more_reads n parts n (omega arith) r.rest o (c + operands r.tree) (omega arith) deep r.ends behind.faultless in
    record { tree = query r.tree more.tree; rest = more.rest; spelled = r.spelled ∙ ap (λ ts. spelling r.tree ts) more.spelled; ends = more.ends }

queries_read : (n : ℕ) → AreRead ReadsQuery n
queries_read zero tokens o c short deep h = absurd (omega arith)
queries_read (suc n) tokens o c short deep h =
    let singles = single_reads n (queries_read n) in
    let sequences = chain_reads FollowedBy (n + 1) singles (n + 1) (omega arith) in
    let boths = chain_reads BothOf (n + 1) sequences (n + 1) (omega arith) in
    query_of (n + 1) (chain_reads OneOf (n + 1) boths (n + 1) (omega arith)) tokens o c (omega arith) deep h

-- at the end of a text nothing is left
whole : (tokens : List QueryToken) → ReadsQuery tokens → IsFaultless true 0 0 tokens → (q : Query) × (tokens ≡ query_spelling q [])
whole tokens r h = go r.rest r.spelled r.ends (query_behind r.tree 0 0 r.rest (omega arith) (subst (λ ts. IsFaultless true 0 0 ts) r.spelled h)).faultless
  where
    go : (rest : List QueryToken) → tokens ≡ query_spelling r.tree rest → EndsQuery rest → IsFaultless false 0 (0 + query_operands r.tree) rest → (q : Query) × (tokens ≡ query_spelling q [])
    go [] is ends f = (r.tree, is)
    go (operand form ∷ rest) is ends f = absurd (let no = f.0 in cc)
    go (joint j ∷ rest) is ends f = absurd cc
    go (containment operator ∷ rest) is ends f = absurd cc
    go (open_bracket ∷ rest) is ends f = absurd (let no = f.0 in cc)
    go (close_bracket ∷ rest) is ends f = absurd (let no = f.0 in cc)
    go (broken kind ∷ rest) is ends f = absurd (let no = f.0 in cc)

pub faultless_spelled : (tokens : List QueryToken) → IsFaultless true 0 0 tokens → (q : Query) × (tokens ≡ query_spelling q [])
faultless_spelled tokens h = whole tokens (queries_read (length tokens + 1) tokens 0 0 (omega arith) (omega arith) h) h

-- a text is not refused if and only if a tree within the limits spells it
pub not_refused : (text : List ℕ) → refused text ≡ None → (form : Form) × IsQueryWithin text form
not_refused text none = go (faultless_spelled (map token_of (query_tokens text)) faultless)
  where
    faultless : IsFaultless true 0 0 (map token_of (query_tokens text))
    faultless = none_faultless true 0 0 (length text) (query_tokens text) (sym (refused_is text) ∙ none)

    go : (q : Query) × (map token_of (query_tokens text) ≡ query_spelling q []) → (form : Form) × IsQueryWithin text form
    go r =
        let behind = query_behind r.0 0 0 [] (omega arith) (subst (λ ts. IsFaultless true 0 0 ts) r.1 faultless) in
        let deep : 0 + query_nesting r.0 ≤ most_brackets = behind.deep in
        let many : 0 + query_operands r.0 ≤ most_operands = behind.many in
        (form_of_query r.0, record { is = record { tree = r.0; spelled = r.1; stands_for = refl }; brackets = omega arith; size = omega arith })

pub is_not_refused : (text : List ℕ) (form : Form) → IsQueryWithin text form → refused text ≡ None
is_not_refused text form w =
    let q = w.is.tree in
    let deep : query_nesting q ≤ most_brackets = w.brackets in
    let many : query_operands q ≤ most_operands = w.size in
    refused_is text
    ∙ faultless_none true 0 0 (length text) (query_tokens text)
    (subst (λ ts. IsFaultless true 0 0 ts) (sym w.is.spelled) (query_faultless q 0 0 [] (omega arith) (omega arith) refl))
