use Rattle.std.proofs.Common.{◌≡◌, ◌+◌, ◌-◌, ◌<◌, ◌++◌, [], length, map, take, ap, ◌∙◌, arith}
use Rattle.std.proofs.lemmas.Bool.Decides.{Decides-eqb}
use Rattle.std.proofs.lemmas.Slice.Eq.{slice_eq-Decides}
use Rattle.std.specs.Char.{to_ascii_lowercase}
use Rattle.token_places.proofs.FrontLemmas.{same_front, front_of_opening, front_of_name, front_of_closing}
use Rattle.token_places.proofs.placed_token.is_front.Goals as goal

pub returns-then-prefix-opening : goal.returns-then-prefix-opening
returns-then-prefix-opening c =
    let prefix = c.args.prefix.now in
    same_front c.eq.result prefix _ _ (c.split_at.ensures.front ∙ front_of_opening (length prefix) c.args.opening.now (map to_ascii_lowercase c.args.name.now) c.args.closing.now c.if-prefix-opening.true)
    (slice_eq-Decides Decides-eqb _ _ _ c.eq.ensures)

pub returns-then-inside-name : goal.returns-then-inside-name
returns-then-inside-name c =
    let prefix = c.args.prefix.now in
    let opening = c.args.opening.now in
    let inside = length prefix - length opening in
    let whole : length prefix ≡ length opening + inside = omega (arith, c.if-prefix-opening.false) in
    same_front c.is_spelled.result prefix _ _
    (ap (λ xs. opening ++ map to_ascii_lowercase xs ++ []) c.split_at-then-inside-name.ensures.front ∙ front_of_name (length prefix) inside opening c.args.name.now c.args.closing.now whole c.if-inside-name.true)
    c.is_spelled.ensures

pub returns : goal.returns
returns c =
    let prefix = c.args.prefix.now in
    let opening = c.args.opening.now in
    let inside = length prefix - length opening in
    let whole : length prefix ≡ length opening + inside = omega (arith, c.if-prefix-opening.false) in
    let past : length c.args.name.now < inside = omega (arith, c.if-inside-name.false) in
    same_front c.is_spelled-2.result prefix _ _
    (ap (λ xs. opening ++ map to_ascii_lowercase c.args.name.now ++ xs) (c.split_at-2.ensures.front ∙ ap (λ n. take n c.args.closing.now) c.min.ensures)
    ∙ front_of_closing (length prefix) inside opening c.args.name.now c.args.closing.now whole past)
    c.is_spelled-2.ensures
