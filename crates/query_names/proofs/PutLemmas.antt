-- One byte of a query, or one name, and what is put in its place.
use Rattle.std.proofs.Common.{◌≡◌, ℕ, zero, suc, ◌+◌, ◌-◌, ◌<◌, ◌≤◌, ◌==◌, leb, Bool, true, false, not, List, [], ◌∷◌, ◌++◌, length, take, drop, refl, sym, ap, ◌∙◌, arith, cond, append_assoc, length-append, length-take, get_or, inl, inr, ◌⊎◌, Option, None, Some, Result, Ok, Err}
use Rattle.std.specs.Prelude.{◌&&◌}
use Rattle.std.specs.Option.{option_map}
use Rattle.std.proofs.lemmas.Bool.Decides.{nat_tests}
use Rattle.std.proofs.lemmas.Bool.{cond-true, cond-false, false≢true}
use Rattle.std.proofs.lemmas.List.{drop_more, drop-drop}
use Rattle.query_names.specs.Names.{Defined, name_len, name_of, text_under}
use Rattle.query_names.specs.PutIn.{Piece, piece, prefixed, joined, taken, put_from, bracketed}
use Rattle.query_names.specs.declared.fault.NameFault.{NameFault}
use Rattle.query_names.specs.declared.fault.NameFault.TheVariants.{Unknown, TooLong}

abbrev pub piece_of : Option (List ℕ) → ℕ → Bool → Piece
piece_of text skip quoted = record { text = text; skip = skip; quoted = quoted }

-- the bytes of a name that was put in are passed over
pub put_from-skip : (d : Defined) (q : Bool) (k at room : ℕ) (xs : List ℕ) → put_from d q k at room xs ≡ put_from d q 0 (at + k) room (drop k xs)
put_from-skip d q zero at room [] = refl
put_from-skip d q zero at room (b ∷ rest) =
    let same : at ≡ at + 0 = omega arith in
    ap (λ (k : ℕ). put_from d q 0 k room (b ∷ rest)) same
put_from-skip d q (suc k) at room [] = refl
put_from-skip d q (suc k) at room (b ∷ rest) =
    let same : at + 1 + k ≡ at + suc k = omega arith in
    put_from-skip d q k (at + 1) room rest ∙ ap (λ (n : ℕ). put_from d q 0 n room (drop k rest)) same

-- what follows a piece
abbrev follows : Defined → ℕ → ℕ → List ℕ → Piece → Result (List ℕ) NameFault
follows d at room rest p = joined at room p.text (put_from d p.quoted p.skip (at + 1) (room - taken p.text) rest)

pub step-put : (d : Defined) (q q' : Bool) (at room b skip : ℕ) (rest text : List ℕ) → piece d q b rest ≡ piece_of (Some text) skip q' → length text ≤ room →
    put_from d q 0 at room (b ∷ rest) ≡ prefixed text (put_from d q' 0 (at + 1 + skip) (room - length text) (drop skip rest))
step-put d q q' at room b skip rest text is few =
    let fits : leb (length text) room ≡ true = grind (arith, nat_tests) in
    ap (follows d at room rest) is ∙ cond-true (leb (length text) room) _ _ fits ∙ ap (prefixed text) (put_from-skip d q' skip (at + 1) (room - length text) rest)

pub step-long : (d : Defined) (q q' : Bool) (at room b skip : ℕ) (rest text : List ℕ) → piece d q b rest ≡ piece_of (Some text) skip q' → room < length text →
    put_from d q 0 at room (b ∷ rest) ≡ Err (TooLong at)
step-long d q q' at room b skip rest text is many =
    let over : leb (length text) room ≡ false = grind (arith, nat_tests) in
    ap (follows d at room rest) is ∙ cond-false (leb (length text) room) _ _ over

pub step-none : (d : Defined) (q q' : Bool) (at room b skip : ℕ) (rest : List ℕ) → piece d q b rest ≡ piece_of None skip q' → put_from d q 0 at room (b ∷ rest) ≡ Err (Unknown at)
step-none d q q' at room b skip rest is = ap (follows d at room rest) is

pub piece-name : (d : Defined) (q : Bool) (b : ℕ) (rest : List ℕ) (o : Option (List ℕ)) → b ≡ 36 → q ≡ false → text_under d (name_of rest) ≡ o →
    piece d q b rest ≡ piece_of (option_map bracketed o) (name_len rest) false
piece-name d q b rest o mark plain is = rw (mark, plain, is) refl

pub piece-byte : (d : Defined) (q : Bool) (b : ℕ) (rest : List ℕ) → ((b == 36) && not q) ≡ false → piece d q b rest ≡ piece_of (Some (b ∷ [])) 0 (cond (b == 34) (not q) q)
piece-byte d q b rest plain = cond-false ((b == 36) && not q) _ _ plain

pub prefixed-prefixed : (out text : List ℕ) (more : Result (List ℕ) NameFault) → prefixed out (prefixed text more) ≡ prefixed (out ++ text) more
prefixed-prefixed out text (Ok more) = ap (λ whole. Ok whole) (sym (append_assoc out text more))
prefixed-prefixed out text (Err fault) = refl

-- a piece was put
pub put-next : (d : Defined) (q q' : Bool) (query out out' text rest : List ℕ) (at b skip most : ℕ) → drop at query ≡ b ∷ rest → piece d q b rest ≡ piece_of (Some text) skip q' →
    out' ≡ out ++ text → length out' ≤ most → drop (at + 1 + skip) query ≡ drop skip rest →
    prefixed out (put_from d q 0 at (most - length out) (drop at query)) ≡ prefixed out' (put_from d q' 0 (at + 1 + skip) (most - length out') (drop (at + 1 + skip) query))
put-next d q q' query out out' text rest at b skip most here is put few behind =
    let wide : length out' ≡ length out + length text = rw put (omega (arith, length-append out text)) in
    let room : most - length out - length text ≡ most - length out' = omega arith in
    ap (λ xs. prefixed out (put_from d q 0 at (most - length out) xs)) here
    ∙ ap (prefixed out) (step-put d q q' at (most - length out) b skip rest text is (omega arith))
    ∙ prefixed-prefixed out text (put_from d q' 0 (at + 1 + skip) (most - length out - length text) (drop skip rest))
    ∙ ap (λ o. prefixed o (put_from d q' 0 (at + 1 + skip) (most - length out - length text) (drop skip rest))) (sym put)
    ∙ ap (λ (n : ℕ). prefixed out' (put_from d q' 0 (at + 1 + skip) n (drop skip rest))) room
    ∙ ap (λ xs. prefixed out' (put_from d q' 0 (at + 1 + skip) (most - length out') xs)) (sym behind)

-- a name was put in, and is passed over
pub name-preserved : (d : Defined) (q : Bool) (query rest out out' text : List ℕ) (at len n most : ℕ) → rest ≡ drop (at + 1) query → at < length query → get_or query at 0 ≡ 36 → q ≡ false →
    len ≡ name_len rest → len ≤ length rest → Some text ≡ text_under d (take len rest) → out' ≡ out ++ bracketed text → length out' ≤ most → n ≡ length (take len rest) →
    prefixed out (put_from d q 0 at (most - length out) (drop at query)) ≡ prefixed out' (put_from d q 0 (at + 1 + n) (most - length out') (drop (at + 1 + n) query))
name-preserved d q query rest out out' text at len n most same inside mark plain len_is bound got put few n_is =
    let behind : List ℕ = drop (at + 1) query in
    let skip : ℕ = name_len behind in
    let under : text_under d (name_of behind) ≡ Some text = ap (λ xs. text_under d (name_of xs)) (sym same) ∙ ap (λ (k : ℕ). text_under d (take k rest)) (sym len_is) ∙ sym got in
    let is : piece d q (get_or query at 0) behind ≡ piece_of (Some (bracketed text)) skip false = piece-name d q (get_or query at 0) behind (Some text) mark plain under in
    let count : skip ≡ n = ap name_len (sym same) ∙ sym len_is ∙ omega (arith, n_is, length-take len rest, bound) in
    put-next d q false query out out' (bracketed text) behind at (get_or query at 0) skip most (drop_more query at 0 inside) is put few (sym (drop-drop skip (at + 1) query))
    ∙ ap (λ (k : ℕ). prefixed out' (put_from d false 0 (at + 1 + k) (most - length out') (drop (at + 1 + k) query))) count
    ∙ ap (λ b. prefixed out' (put_from d b 0 (at + 1 + n) (most - length out') (drop (at + 1 + n) query))) (sym plain)

no_name : (b : ℕ) (q : Bool) → ((b ≡ 36) × (q ≡ true)) ⊎ (b ≡ 36 → ⊥) → ((b == 36) && not q) ≡ false
no_name b true either = grind (arith, nat_tests)
no_name b false (inl both) = absurd (false≢true both.1)
no_name b false (inr other) = grind (arith, nat_tests)

-- a byte was put that is no name
pub byte-preserved : (d : Defined) (q q' : Bool) (query out out' : List ℕ) (at most : ℕ) → at < length query → ((get_or query at 0 ≡ 36) × (q ≡ true)) ⊎ (get_or query at 0 ≡ 36 → ⊥) →
    cond (get_or query at 0 == 34) (not q) q ≡ q' → out' ≡ out ++ get_or query at 0 ∷ [] → length out' ≤ most →
    prefixed out (put_from d q 0 at (most - length out) (drop at query)) ≡ prefixed out' (put_from d q' 0 (at + 1) (most - length out') (drop (at + 1) query))
byte-preserved d q q' query out out' at most inside other quoted put few =
    let b : ℕ = get_or query at 0 in
    let is : piece d q b (drop (at + 1) query) ≡ piece_of (Some (b ∷ [])) 0 (cond (b == 34) (not q) q) = piece-byte d q b (drop (at + 1) query) (no_name b q other) in
    let next : at + 1 + 0 ≡ at + 1 = omega arith in
    put-next d q (cond (b == 34) (not q) q) query out out' (b ∷ []) (drop (at + 1) query) at b 0 most (drop_more query at 0 inside) is put few (ap (λ (k : ℕ). drop k query) next)
    ∙ ap (λ (k : ℕ). prefixed out' (put_from d (cond (b == 34) (not q) q) 0 k (most - length out') (drop k query))) next
    ∙ ap (λ t. prefixed out' (put_from d t 0 (at + 1) (most - length out') (drop (at + 1) query))) quoted
